use Rattle.std.proofs.Common.{◌≡◌, ℕ, List, Some, Result, Err, option_map, ap, sym, subst}
use Rattle.std.specs.Prelude.{IfOk}
use Rattle.std.proofs.lemmas.Result.{IfOk-weaker}
use Rattle.kmipa_msgs.specs.Messages.{request_of, response_of}
use Rattle.kmipa_record.specs.Entries.{items_of}
use Rattle.kmipa_record.specs.Witnesses.{turn_of}
use Rattle.kmipa_check.specs.Calls.{AreResponse, call_of}
use Rattle.kmipa_check.specs.Grants.{grants_of}
use Rattle.kmipa_check.specs.Steps.{IsAnswered, given}
use Rattle.kmipa_check.specs.declared.fault.CheckFault.{CheckFault}
use Rattle.kmipa_unfit.specs.Finding.{AnswerSays}
use Rattle.kmipa_unfit.specs.UnfitTurns.{TellsGiven}
use Rattle.kmipa_unfit.specs.declared.explanation.Unfit.{Unfit}
use Rattle.kmipa_unfit.proofs.AnswerLemmas.{answered_fault, unread_told}
use Rattle.kmipa_unfit.proofs.LiftLemmas.{of_response}
use Rattle.kmipa_unfit.proofs.turns.open_unfit.Goals as goal

pub answered_unfit-requires : goal.answered_unfit-requires
answered_unfit-requires c =
    let call = call_of c.args.call.now in
    let turn = turn_of c.args.turn.now in
    let response = response_of c.in-Ok.response in
    let P : List ℕ → Type 0 = λ bs. AreResponse (request_of c.args.call.now.request) bs response in
    let answered : IsAnswered call turn response = given c.in-Some.answer.items c.requires.open (ap (option_map items_of) c.in-Some.is) (subst P c.deref.ensures.value c.in-Ok.ensures) in
    answered_fault (grants_of c.args.grants.now) call turn c.args.kind response answered c.requires.given

pub returns-in-Ok-clause-tells : goal.returns-in-Ok-clause-tells
returns-in-Ok-clause-tells c =
    let call = call_of c.args.call.now in
    let turn = turn_of c.args.turn.now in
    let response = response_of c.in-Ok.response in
    let P : List ℕ → Type 0 = λ bs. AreResponse (request_of c.args.call.now.request) bs response in
    let answered : IsAnswered call turn response = given c.in-Some.answer.items c.requires.open (ap (option_map items_of) c.in-Some.is) (subst P c.deref.ensures.value c.in-Ok.ensures) in
    IfOk-weaker c.answered_unfit.result _ _ (λ unfit told. of_response (grants_of c.args.grants.now) call turn c.args.kind response answered unfit told) c.answered_unfit.ensures.tells

pub returns-in-Err-clause-tells : goal.returns-in-Err-clause-tells
returns-in-Err-clause-tells c =
    let call = call_of c.args.call.now in
    let turn = turn_of c.args.turn.now in
    let request = request_of c.args.call.now.request in
    let bytes : List ℕ = c.in-Some.answer.items in
    let some : turn.answer ≡ Some bytes = ap (option_map items_of) c.in-Some.is in
    let P : List ℕ → Type 0 = λ bs. AnswerSays request bs (Err c.in-Err.fault) in
    let R : Result Unfit CheckFault → Type 0 = λ r. IfOk r (TellsGiven (grants_of c.args.grants.now) call turn c.args.kind) in
    subst R (sym c.unread.ensures)
    (unread_told (grants_of c.args.grants.now) c.requires.recorded.0 call turn c.args.kind bytes c.in-Err.fault c.requires.recorded.1 c.requires.open some (subst P c.deref.ensures.value c.in-Err.ensures) c.requires.given)
