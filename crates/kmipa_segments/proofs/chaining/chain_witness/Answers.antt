use Rattle.kmipa_searches.proofs.SearchLemmas.{appended_witness}
use Rattle.kmipa_segments.proofs.chaining.chain_witness.Goals as goal

pub returns-in-Ok-clause-made : goal.returns-in-Ok-clause-made
returns-in-Ok-clause-made c = λ done. record {
  witness = c.in-Some.witness;
  held = c.in-Some.is;
  is = appended_witness c.args.made.now.items c.write_witness.new.out.items c.in-Some.witness c.in-Ok.ensures.written;
}
