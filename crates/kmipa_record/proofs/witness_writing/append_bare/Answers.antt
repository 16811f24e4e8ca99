use Rattle.std.proofs.Common.{◌∙◌, ℤ, ap}
use Rattle.std.specs.Int.{w32, cast_unsigned}
use Rattle.std.proofs.lemmas.Int.{to_z-of_z}
use Rattle.kmipa_record.proofs.BareTurnLemmas.{bare_added}
use Rattle.kmipa_record.proofs.witness_writing.append_bare.Goals as goal

pub returns-clause-ok : goal.returns-clause-ok
returns-clause-ok c =
    let call = c.args.call in
    let number = c.cast_unsigned.ensures ∙ ap (λ (z : ℤ). cast_unsigned w32 z) (to_z-of_z w32 call (record { sfits = c.ranges.call.sfits })) in
    bare_added call c.cast_unsigned.result c.to_be_bytes.result c.args.out.now.items c.extend_from_slice.new.self.items (record { sfits = c.ranges.call.sfits }) number c.to_be_bytes.ensures
    c.in_ok-extend_from_slice.ensures.items
