use Rattle.std.proofs.Common.{◌∙◌, ◌≤◌, ℕ, List, Option, map, sym, subst, Bool, Ok, Err}
use Rattle.std.specs.Prelude.{All, IfSome}
use Rattle.kmipa_msgs.specs.Messages.{maybe_lent, rules_of, response_of, RequestOf, ResponseOf}
use Rattle.kmipa_batch.specs.Calls.{MayTake}
use Rattle.kmipa_batch.specs.Orders.{order_given}
use Rattle.kmipa_batch.specs.Readable.{IsReadableCall}
use Rattle.kmipa_batch.specs.Refusals.{CallTakenAlong}
use Rattle.kmipa_check.specs.Steps.{order_of, step_of}
use Rattle.kmipa_check.specs.Deciding.{Decided}
use Rattle.kmipa_check.specs.Verdicts.{RunsBack}
use Rattle.kmipa_check.proofs.PlacesLemmas.{from_one, may_take}
use Rattle.kmipa_check.proofs.TurnLemmas.{late_here, turn_late, turn_back, turn_not_taken, turn_done, turn_at, turn_takable}
use Rattle.kmipa_check.proofs.replay.take_turn.Goals as goal

pub returns-then-is_at-clause-taken : goal.returns-then-is_at-clause-taken
returns-then-is_at-clause-taken g c =
    let order = map step_of c.args.steps.now in
    let at = turn_at c.args.steps.now c.args.turn c.index-steps-turn.result c.requires.below c.index-steps-turn.is in
    turn_late (rules_of c.args.rules.now) order c.args.turn (step_of c.index-steps-turn.result) at (g.L.Ledger.state c.args.ledger.now) (g.L.Ledger.state c.args.ledger.now).now
    c.refused_turn.result c.refused_turn.ensures (late_here order c.args.late c.args.turn (step_of c.index-steps-turn.result) c.requires.late at (sym c.is_at.ensures ∙ c.if-is_at.true))

pub returns-then-runs_back-clause-taken : goal.returns-then-runs_back-clause-taken
returns-then-runs_back-clause-taken g c =
    let order = map step_of c.args.steps.now in
    let at = turn_at c.args.steps.now c.args.turn c.index-steps-turn.result c.requires.below c.index-steps-turn.is in
    let P : Bool → Type 0 = λ b. Decided b (RunsBack order c.args.turn (step_of c.index-steps-turn.result)) in
    turn_back (rules_of c.args.rules.now) order c.args.turn (step_of c.index-steps-turn.result) at (g.L.Ledger.state c.args.ledger.now) c.args.late c.requires.late
    (sym c.is_at.ensures ∙ c.if-is_at.false) (g.L.Ledger.state c.args.ledger.now).now c.refused_turn-then-runs_back.result c.refused_turn-then-runs_back.ensures
    (subst P c.if-runs_back.true (c.runs_back.ensures (step_of c.index-steps-turn.result) at))

pub take_call-requires-clause-readable : goal.take_call-requires-clause-readable
take_call-requires-clause-readable g c =
    let R : ResponseOf → Type 0 = λ r. IsReadableCall (step_of c.index-steps-turn.result).request r in
    let Q : RequestOf → Type 0 = λ q. IsReadableCall q (response_of c.response.result.now) in
    subst Q (sym c.request.ensures) (subst R (sym c.response.ensures) (turn_takable c.args.steps.now c.args.turn c.index-steps-turn.result c.requires.below c.index-steps-turn.is c.requires.takable).0)

pub take_call-requires-clause-from_one : goal.take_call-requires-clause-from_one
take_call-requires-clause-from_one g c =
    let step = step_of c.index-steps-turn.result in
    let taken = (turn_takable c.args.steps.now c.args.turn c.index-steps-turn.result c.requires.below c.index-steps-turn.is c.requires.takable).1 in
    let P : Option (List ℕ) → Type 0 = λ o. IfSome o (λ ps. All (λ (place : ℕ). 1 ≤ place) ps) in
    subst P (sym c.places.ensures) (from_one step.request step.response step.places taken)

pub take_call-requires-clause-order : goal.take_call-requires-clause-order
take_call-requires-clause-order g c =
    let step = step_of c.index-steps-turn.result in
    let taken = (turn_takable c.args.steps.now c.args.turn c.index-steps-turn.result c.requires.below c.index-steps-turn.is c.requires.takable).1 in
    let R : ResponseOf → Type 0 = λ r. MayTake step.request r (order_of step) in
    let P : Option (List ℕ) → Type 0 = λ o. MayTake step.request (response_of c.response.result.now) (order_given o) in
    let Q : RequestOf → Type 0 = λ q. MayTake q (response_of c.response.result.now) (order_given (maybe_lent c.places.result)) in
    subst Q (sym c.request.ensures) (subst P (sym c.places.ensures) (subst R (sym c.response.ensures) (may_take step.request step.response step.places taken)))

pub returns-in-Ok-clause-taken : goal.returns-in-Ok-clause-taken
returns-in-Ok-clause-taken g c =
    let step = step_of c.index-steps-turn.result in
    let T : ResponseOf → Type 0 = λ r. CallTakenAlong (rules_of c.args.rules.now) (g.L.Ledger.state c.args.ledger.now) step.request r (order_of step) (Ok tt) (g.L.Ledger.state c.take_call.new.ledger) in
    let O : Option (List ℕ) → Type 0 = λ o.
    CallTakenAlong (rules_of c.args.rules.now) (g.L.Ledger.state c.args.ledger.now) step.request (response_of c.response.result.now) (order_given o) (Ok tt) (g.L.Ledger.state c.take_call.new.ledger) in
    let W : RequestOf → Type 0 = λ q.
    CallTakenAlong (rules_of c.args.rules.now) (g.L.Ledger.state c.args.ledger.now) q (response_of c.response.result.now) (order_given (maybe_lent c.places.result)) (Ok tt) (g.L.Ledger.state c.take_call.new.ledger) in
    let order = map step_of c.args.steps.now in
    let at = turn_at c.args.steps.now c.args.turn c.index-steps-turn.result c.requires.below c.index-steps-turn.is in
    let P : Bool → Type 0 = λ b. Decided b (RunsBack order c.args.turn (step_of c.index-steps-turn.result)) in
    turn_done (rules_of c.args.rules.now) order c.args.turn (step_of c.index-steps-turn.result) at (g.L.Ledger.state c.args.ledger.now) c.args.late c.requires.late
    (sym c.is_at.ensures ∙ c.if-is_at.false) (g.L.Ledger.state c.take_call.new.ledger)
    (subst P c.if-runs_back.false (c.runs_back.ensures (step_of c.index-steps-turn.result) at)) (subst T c.response.ensures (subst O c.places.ensures (subst W c.request.ensures c.in-Ok.ensures)))

pub returns-in-Err-clause-taken : goal.returns-in-Err-clause-taken
returns-in-Err-clause-taken g c =
    let step = step_of c.index-steps-turn.result in
    let T : ResponseOf → Type 0 = λ r. CallTakenAlong (rules_of c.args.rules.now) (g.L.Ledger.state c.args.ledger.now) step.request r (order_of step) (Err c.in-Err.refusal) (g.L.Ledger.state c.take_call.new.ledger) in
    let O : Option (List ℕ) → Type 0 = λ o.
    CallTakenAlong (rules_of c.args.rules.now) (g.L.Ledger.state c.args.ledger.now) step.request (response_of c.response.result.now) (order_given o) (Err c.in-Err.refusal) (g.L.Ledger.state c.take_call.new.ledger) in
    let W : RequestOf → Type 0 = λ q.
    CallTakenAlong (rules_of c.args.rules.now) (g.L.Ledger.state c.args.ledger.now) q (response_of c.response.result.now) (order_given (maybe_lent c.places.result)) (Err c.in-Err.refusal) (g.L.Ledger.state c.take_call.new.ledger) in
    let order = map step_of c.args.steps.now in
    let at = turn_at c.args.steps.now c.args.turn c.index-steps-turn.result c.requires.below c.index-steps-turn.is in
    let P : Bool → Type 0 = λ b. Decided b (RunsBack order c.args.turn (step_of c.index-steps-turn.result)) in
    turn_not_taken (rules_of c.args.rules.now) order c.args.turn (step_of c.index-steps-turn.result) at (g.L.Ledger.state c.args.ledger.now) c.args.late c.requires.late
    (sym c.is_at.ensures ∙ c.if-is_at.false) (g.L.Ledger.state c.take_call.new.ledger) c.in-Err.refusal c.refused_call.result
    (subst P c.if-runs_back.false (c.runs_back.ensures (step_of c.index-steps-turn.result) at)) c.refused_call.ensures.item c.refused_call.ensures.memory (subst T c.response.ensures (subst O c.places.ensures (subst W c.request.ensures c.in-Err.ensures)))
