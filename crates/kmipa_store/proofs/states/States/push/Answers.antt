-- proofs/states/States/push/Answers.antt
use Rattle.std.proofs.Common.{◌∙◌, List, sym, subst}
use Rattle.kmipa_object.specs.declared.state.State.{State}
use Rattle.kmipa_store.specs.Features.{KnowsStates}
use Rattle.kmipa_store.proofs.FeatureLemmas.{states_more}
use Rattle.kmipa_store.proofs.states.States.push.Goals as goal

pub invariant_of-self-2 : goal.invariant_of-self-2
invariant_of-self-2 c =
    let i = c.self.inside in
    let fs = c.note_state.new.self in
    subst (λ (xs : List State). KnowsStates fs xs) (sym c.in_ok-push.ensures.items)
    (states_more i.features fs i.in_order.items c.args.state c.len-place.result c.self.invariant (c.len-place.ensures ∙ i.in_order.ok.0) c.note_state.ensures)
