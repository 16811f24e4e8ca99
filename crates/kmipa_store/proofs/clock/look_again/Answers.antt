use Rattle.std.proofs.Common.{◌≤◌, ◌∙◌, ℤ, length, sym, ap, arith}
use mir.Syntax.{w64}
use Rattle.std.proofs.lemmas.Int.{to_z-of_z}
use Rattle.kmipa_object.proofs.ListLemmas.{get_past}
use Rattle.kmipa_store.specs.Queries.{state_of_place}
use Rattle.kmipa_store.proofs.ClockLemmas.{looked_past, looked_told}
use Rattle.kmipa_store.proofs.clock.look_again.Goals as goal

pub returns-then-place-len : goal.returns-then-place-len
returns-then-place-len c =
    let told = ap (λ (x : ℤ). state_of_place c.args.objects.now c.args.place x) (sym (to_z-of_z w64 c.args.t c.ranges.t)) ∙ c.state.ensures in
    c.set.ensures ∙ sym (looked_told c.args.objects.now c.args.states.now c.args.place c.args.t c.state.result told)

pub returns-else-place-len : goal.returns-else-place-len
returns-else-place-len c =
    let past : length c.args.objects.now ≤ c.args.place = let h = c.if-place-len.false in let e = c.len.ensures in omega (arith, h, e) in
    sym (looked_past c.args.objects.now c.args.states.now c.args.place c.args.t (get_past c.args.objects.now c.args.place past))
