use Rattle.std.proofs.Common.{◌≤◌, ℕ, List, Option, sym, subst}
use Rattle.std.specs.Prelude.{All, IfSome}
use Rattle.kmipa_msgs.specs.Messages.{RequestOf, ResponseOf, maybe_lent, response_of}
use Rattle.kmipa_record.specs.Witnesses.{turn_of}
use Rattle.kmipa_batch.specs.Calls.{MayTake}
use Rattle.kmipa_batch.specs.Orders.{order_given}
use Rattle.kmipa_batch.specs.Readable.{IsReadableCall}
use Rattle.kmipa_check.specs.Calls.{call_of}
use Rattle.kmipa_check.specs.Steps.{step_of, order_of}
use Rattle.kmipa_check.proofs.PlacesLemmas.{from_one, may_take, step_taken}
use Rattle.kmipa_orders.proofs.PlainLemmas.{no_grants}
use Rattle.kmipa_orders.proofs.guessing.take_turn.Goals as goal

pub take_call-requires-clause-readable : goal.take_call-requires-clause-readable
take_call-requires-clause-readable g c =
    let step = c.in-Ok.step in
    let R : ResponseOf → Type 0 = λ r. IsReadableCall (step_of step).request r in
    let Q : RequestOf → Type 0 = λ q. IsReadableCall q (response_of c.response.result.now) in
    subst Q (sym c.request.ensures)
    (subst R (sym c.response.ensures)
    (c.check_laws.ensures.readable no_grants c.requires.recorded.0 (call_of c.args.call.now) (turn_of c.args.turn.now) (step_of step) c.requires.recorded.1 (c.in-Ok.ensures c.requires.named)))

pub take_call-requires-clause-from_one : goal.take_call-requires-clause-from_one
take_call-requires-clause-from_one g c =
    let step = step_of c.in-Ok.step in
    let taken = step_taken no_grants (call_of c.args.call.now) (turn_of c.args.turn.now) step (c.in-Ok.ensures c.requires.named) in
    let P : Option (List ℕ) → Type 0 = λ o. IfSome o (λ ps. All (λ (place : ℕ). 1 ≤ place) ps) in
    subst P (sym c.places.ensures) (from_one step.request step.response step.places taken)

pub take_call-requires-clause-order : goal.take_call-requires-clause-order
take_call-requires-clause-order g c =
    let step = step_of c.in-Ok.step in
    let taken = step_taken no_grants (call_of c.args.call.now) (turn_of c.args.turn.now) step (c.in-Ok.ensures c.requires.named) in
    let R : ResponseOf → Type 0 = λ r. MayTake step.request r (order_of step) in
    let P : Option (List ℕ) → Type 0 = λ o. MayTake step.request (response_of c.response.result.now) (order_given o) in
    let Q : RequestOf → Type 0 = λ q. MayTake q (response_of c.response.result.now) (order_given (maybe_lent c.places.result)) in
    subst Q (sym c.request.ensures) (subst P (sym c.places.ensures) (subst R (sym c.response.ensures) (may_take step.request step.response step.places taken)))
