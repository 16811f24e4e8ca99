use Rattle.std.proofs.Common.{◌∙◌, ℤ, List, sym, ap, subst, rules, to_z, of_z}
use mir.Val.{SFits}
use mir.Syntax.{w64}
use Rattle.std.proofs.lemmas.Int.{to_z-of_z}
use Rattle.kmipa_object.specs.declared.state.State.{State}
use Rattle.std.specs.Int.{int_min}
use Rattle.kmipa_store.specs.Clock.{Awaits, Due, states_at}
use Rattle.kmipa_store.proofs.ClockLemmas.{Looking, looking_start, looking_on, looking_end}
use Rattle.kmipa_store.proofs.clock.look_over.Goals as goal

pub loop-one-init : goal.loop-one-init
loop-one-init c =
    let hs = c.args.objects.now in
    let b : ℤ = to_z w64 (of_z w64 c.args.before) in
    let t : ℤ = to_z w64 (of_z w64 c.args.t) in
    let low : ℤ = to_z w64 (of_z w64 c.min.result) in
    let high : ℤ = to_z w64 (of_z w64 c.max.result) in
    let f : SFits w64 c.min.result = search rules in
    let g : SFits w64 c.max.result = search rules in
    let awaited = subst (λ (x : ℤ). Awaits hs (record { floor = int_min b x; keys = c.args.due.now.keys })) (sym (to_z-of_z w64 c.args.t c.ranges.t))
    (subst (λ (x : ℤ). Awaits hs (record { floor = int_min x c.args.t; keys = c.args.due.now.keys })) (sym (to_z-of_z w64 c.args.before c.ranges.before)) c.requires.awaited) in
    looking_start hs low high b t c.args.due.now.keys c.len-behind.result c.into_iter-one-iterator.result c.args.states.now
    (to_z-of_z w64 c.min.result f ∙ c.min.ensures.value) (to_z-of_z w64 c.max.result g ∙ c.max.ensures.value) c.len-behind.ensures
    (c.into_iter-one-iterator.ensures.into_iter_gives ∙ c.range-one-items.ensures.between tt) awaited (c.requires.told ∙ ap (states_at hs) (sym (to_z-of_z w64 c.args.before c.ranges.before)))

pub loop-one-preserved : goal.loop-one-preserved
loop-one-preserved c =
    let hs = c.args.objects.now in
    let b : ℤ = to_z w64 (of_z w64 c.args.before) in
    let t : ℤ = to_z w64 (of_z w64 c.args.t) in
    let i = subst (λ (rest : List Due). Looking hs b t rest c.loop-one.states) c.in-Some.ensures.steps c.loop-one.invariant in
    subst (λ (ss : List State). Looking hs b t c.next.new.self ss) (sym c.look_again.ensures) (looking_on hs b t c.in-Some.one.now c.next.new.self c.loop-one.states i)

pub returns : goal.returns
returns c =
    let hs = c.args.objects.now in
    let b : ℤ = to_z w64 (of_z w64 c.args.before) in
    let t : ℤ = to_z w64 (of_z w64 c.args.t) in
    let i = subst (λ (rest : List Due). Looking hs b t rest c.loop-one.states) c.in-None.ensures.steps.0 c.loop-one.invariant in
    looking_end hs b t c.loop-one.states i ∙ ap (states_at hs) (to_z-of_z w64 c.args.t c.ranges.t)
