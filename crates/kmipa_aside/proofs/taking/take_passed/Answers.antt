use Rattle.std.proofs.Common.{◌∙◌, sym, subst, ℤ}
use Rattle.std.specs.Int.{w64}
use Rattle.std.proofs.lemmas.Int.{to_z-of_z}
use Rattle.kmipa_passed.specs.Leaving.{held_of}
use Rattle.kmipa_aside.specs.Explains.{Took}
use Rattle.kmipa_aside.specs.Passed.{DoesPassed, passed_of}
use Rattle.kmipa_aside.specs.Taking.{NoBytes}
use Rattle.kmipa_aside.proofs.TakenLemmas.{took_passed}
use Rattle.kmipa_aside.proofs.taking.take_passed.Goals as goal

pub returns-in-Ok : goal.returns-in-Ok
returns-in-Ok g c =
    let s = g.L.Ledger.state c.args.ledger.now in
    let u = g.L.Ledger.state c.leave.new.ledger in
    subst (λ (z : ℤ). Took (DoesPassed z (passed_of c.args.place.now)) NoBytes s (held_of c.args.before) u (held_of c.in-Ok.after)) (to_z-of_z w64 c.args.t c.ranges.t)
    (took_passed _ (passed_of c.args.place.now) (held_of c.args.before) s u (held_of c.in-Ok.after) c.requires (sym c.is_other_number.ensures ∙ c.if-is_other_number.false) c.in-Ok.ensures)
