-- proofs/states/States/set/Answers.antt
use Rattle.std.proofs.Common.{◌≡◌, ◌<◌, ◌≤◌, ◌∙◌, length, slice_get, List, Some, ap, sym, subst, arith}
use Rattle.kmipa_object.specs.Lists.{updated}
use Rattle.kmipa_object.specs.declared.state.State.{State}
use Rattle.kmipa_object.proofs.ListLemmas.{get-at, get_past, updated-none}
use Rattle.kmipa_store.specs.Features.{KnowsStates}
use Rattle.kmipa_store.proofs.ClockLemmas.{set_is}
use Rattle.kmipa_store.proofs.FeatureLemmas.{same_state, states_set, updated_same}
use Rattle.kmipa_store.proofs.states.States.set.Goals as goal

pub returns-then-place-len : goal.returns-then-place-len
returns-then-place-len c =
    let v = c.self.inside.in_order in
    let past : length v.items ≤ c.args.place = let h = c.if-place-len.true in let e = c.len.ensures ∙ v.ok.0 in omega (arith, h, e) in
    sym c.self.view_is
    ∙ sym (updated-none v.items c.args.place (λ _. c.args.state) (get_past v.items c.args.place past))
    ∙ ap (λ (x : List State). updated x c.args.place (λ _. c.args.state)) c.self.view_is

pub returns-then-is_same : goal.returns-then-is_same
returns-then-is_same c =
    let v = c.self.inside.in_order in
    let within : c.args.place < length v.items = let h = c.if-place-len.false in let e = c.len.ensures ∙ v.ok.0 in omega (arith, h, e) in
    let same : c.index-before.result.now ≡ c.args.state = same_state c.index-before.result.now c.args.state (sym c.is_same.ensures ∙ c.if-is_same.true) in
    let there : slice_get v.items c.args.place ≡ Some c.args.state = get-at v.items c.args.place c.index-before.result.now within c.index-before.ensures ∙ ap (λ (x : State). Some x) same in
    sym c.self.view_is ∙ updated_same v.items c.args.place c.args.state there ∙ ap (λ (x : List State). updated x c.args.place (λ _. c.args.state)) c.self.view_is

pub invariant_of-self : goal.invariant_of-self
invariant_of-self c =
    let i = c.self.inside in
    let v = i.in_order in
    let within : c.args.place < length v.items = let h = c.if-place-len.false in let e = c.len.ensures ∙ v.ok.0 in omega (arith, h, e) in
    subst (λ (xs : List State). KnowsStates c.note_state.new.self xs) (sym (set_is v.items c.args.place c.args.state within))
    (states_set i.features c.forget_state.new.self c.note_state.new.self v.items c.args.state c.args.place within c.self.invariant c.forget_state.ensures c.note_state.ensures)

pub returns : goal.returns
returns c =
    let v = c.self.inside.in_order in
    let within : c.args.place < length v.items = let h = c.if-place-len.false in let e = c.len.ensures ∙ v.ok.0 in omega (arith, h, e) in
    set_is v.items c.args.place c.args.state within ∙ ap (λ (x : List State). updated x c.args.place (λ _. c.args.state)) c.self.view_is
