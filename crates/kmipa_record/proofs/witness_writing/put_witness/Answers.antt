use Rattle.std.proofs.Common.{map, sym, subst}
use Rattle.std.proofs.lemmas.Result.{err_from_is_err_and}
use Rattle.kmipa_ttlv.specs.Tree.{Tree}
use Rattle.kmipa_ttlv.specs.Written.{Legal}
use Rattle.kmipa_record.specs.Witnesses.{turn_of, turn_item, witness_header}
use Rattle.kmipa_record.specs.Writing.{Adds}
use Rattle.kmipa_record.proofs.WritingLemmas.{adds_behind, behind_starts, starts_on, refused_map, on_ok_map}
use Rattle.kmipa_record.proofs.WrittenWitnessLemmas.{header_legal}
use Rattle.kmipa_record.proofs.witness_writing.put_witness.Goals as goal

pub returns-in_err-append-clause-refused : goal.returns-in_err-append-clause-refused
returns-in_err-append-clause-refused c =
    let p = err_from_is_err_and c.from_residual-in_err-append.result c.from_residual-in_err-append.ensures.1 in
    rw (p.1, p.2) (refused_map c.in_err-append.field-0.0 (λ all. subst (Legal 16) (sym c.in_ok-write_witness_header.ensures) (header_legal c.lowest-version.result)) c.in_err-append.ensures.err)

pub returns-clause-put : goal.returns-clause-put
returns-clause-put c =
    let version = c.lowest-version.result in
    let old = c.args.out.now.items in let mid = c.append.new.out.items in let new = c.put_turns.new.out.items in
    let header : Adds (witness_header version) old mid = subst (λ (t : Tree). Adds t old mid) c.in_ok-write_witness_header.ensures c.in_ok-append.ensures.ok in
    on_ok_map c.put_turns.result _ _ (λ s. (version, adds_behind (witness_header version) (map turn_item (map turn_of c.args.turns.now)) old mid new header s.0, c.lowest-version.ensures, s.1)) c.put_turns.ensures.put

pub returns-clause-grows : goal.returns-clause-grows
returns-clause-grows c = starts_on c.args.out.now.items c.append.new.out.items c.put_turns.new.out.items (behind_starts c.args.out.now.items c.append.new.out.items _ c.in_ok-append.ensures.ok.after) c.put_turns.ensures.grows
