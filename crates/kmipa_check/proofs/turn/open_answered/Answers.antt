use Rattle.std.proofs.Common.{List, ℕ, Err, option_map, ap, subst, sym}
use Rattle.kmipa_msgs.specs.Messages.{ResponseOf, request_of, response_of}
use Rattle.kmipa_record.specs.Entries.{items_of}
use Rattle.kmipa_record.specs.Witnesses.{turn_of}
use Rattle.kmipa_check.specs.CallReading.{AnswerRead}
use Rattle.kmipa_check.specs.Calls.{AreResponse, call_of}
use Rattle.kmipa_check.specs.Steps.{IsAnswered, given}
use Rattle.kmipa_check.proofs.FillingLemmas.{answer_refused}
use Rattle.kmipa_check.proofs.turn.open_answered.Goals as goal

pub returns-in_ok-from_turn-in-Ok : goal.returns-in_ok-from_turn-in-Ok
returns-in_ok-from_turn-in-Ok c =
    let P : List ℕ → Type 0 = λ bs. AreResponse (request_of c.args.call.now.request) bs (response_of c.in-Ok.response) in
    let G : ResponseOf → Type 0 = λ r. IsAnswered (call_of c.args.call.now) (turn_of c.args.turn.now) r in
    subst G (sym c.in_ok-from_turn-in-Ok.ensures)
    (given c.in-Some.answer.items c.requires (ap (option_map items_of) c.in-Some.is) (subst P c.deref.ensures.value c.in-Ok.ensures))

pub returns-in-Err : goal.returns-in-Err
returns-in-Err c =
    let P : List ℕ → Type 0 = λ bs. AnswerRead (request_of c.args.call.now.request) bs (Err c.in-Err.fault) in
    answer_refused (call_of c.args.call.now) (turn_of c.args.turn.now) c.in-Some.answer.items c.in-Err.fault c.requires (ap (option_map items_of) c.in-Some.is)
    (subst P c.deref.ensures.value c.in-Err.ensures)
