use Rattle.std.proofs.Common.{◌≤◌, ◌∙◌, ℕ, suc, ℤ, List, length, add-one, ap, sym, subst, arith, to_z, of_z}
use mir.Syntax.{w64}
use Rattle.std.proofs.lemmas.Int.{to_z-of_z}
use Rattle.kmipa_object.specs.declared.state.State.{State}
use Rattle.kmipa_store.specs.Clock.{states_at}
use Rattle.kmipa_store.proofs.ClockLemmas.{ToldTo, told_all, told_next}
use Rattle.kmipa_store.proofs.clock.tell_each.Goals as goal

pub loop-place-preserved : goal.loop-place-preserved
loop-place-preserved c =
    let hs = c.args.objects.now in
    let t : ℤ = to_z w64 (of_z w64 c.args.t) in
    let place = c.loop-place.place in
    subst (λ (n : ℕ). ToldTo hs t n c.set.new.self) (sym (add-one place))
    (subst (λ (ss : List State). ToldTo hs t (suc place) ss) (sym c.set.ensures)
    (told_next hs t place c.loop-place.states c.state.result c.state.ensures c.loop-place.invariant))

pub returns : goal.returns
returns c =
    let hs = c.args.objects.now in
    let t : ℤ = to_z w64 (of_z w64 c.args.t) in
    let all : length hs ≤ c.loop-place.place = let h = c.loop-place-test.false in let e = c.len-place-end.ensures in omega (arith, h, e) in
    told_all hs t c.loop-place.place c.loop-place.states all c.loop-place.invariant ∙ ap (states_at hs) (to_z-of_z w64 c.args.t c.ranges.t)
