use Rattle.std.proofs.Common.{◌≡◌, rules}
use Rattle.kmipa_segments.specs.Chaining.{chain_text}
use Rattle.kmipa_segments.proofs.ChainingLemmas.{ends_made}
use Rattle.kmipa_segments.proofs.chaining.chain_end.Goals as goal

pub returns-then-leaves-clause-tells : goal.returns-then-leaves-clause-tells
returns-then-leaves-clause-tells c =
    let same : c.as_str.result.now ≡ chain_text c.args.segments c.args.chain.now.calls = search rules in
    ends_made c.args.leaves c.as_str.result.now _ c.args.chain.now.held c.tell_left.result _ _ _ c.if-leaves.true same c.tell_left.ensures.tells
