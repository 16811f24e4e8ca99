-- CALLS OF WHICH NOTHING IS OUTSIDE, as steps: each of their places is judged (profile).
use Rattle.std.specs.Prelude.{ℕ, Bool, false, List, [], ◌∷◌, map, length, Option, Some, None, slice_get}
use Rattle.kmipa_msgs.specs.Messages.{AskOf, AnswerOf, RequestOf, ResponseOf}
use Rattle.kmipa_msgs.specs.declared.response.Status.{Status}
use Rattle.kmipa_msgs.specs.declared.response.Status.TheVariants.{Success, Failed, Undone}
use Rattle.kmipa_record.specs.Marks.{MarkOf, begins, ends}
use Rattle.kmipa_batch.specs.Calls.{pairs_of}
use Rattle.kmipa_batch.specs.Fits.{is_refusal}
use Rattle.kmipa_passed.specs.declared.passed.Outcome.{Outcome}
use Rattle.kmipa_passed.specs.declared.passed.Outcome.TheVariants as outcome
use Rattle.kmipa_places.specs.Calls.{ReadOf}
use Rattle.kmipa_places.specs.Places.{PlaceOf, judged}
use Rattle.kmipa_check.specs.Steps as ever
use Rattle.kmipa_turns.specs.Steps.{StepOf, takes}

-- how an item was answered; no answer is still to come (KMIP 2.1, section 11, Result Status)
abbrev pub outcome_of : Status → Outcome
outcome_of Success = outcome.Done
outcome_of Failed = outcome.Failed
outcome_of Undone = outcome.Undone

abbrev pub outcome_in : AnswerOf → Outcome
outcome_in answer = outcome_of answer.status

-- the message is refused as a whole: by a failed answer without Operation that is the only one
abbrev pub is_refused : List AnswerOf → Bool
is_refused [] = false
is_refused (answer ∷ []) = is_refusal answer
is_refused (answer ∷ other ∷ answers) = false

abbrev pub judged_pair : AskOf × AnswerOf → PlaceOf
judged_pair pair = judged pair.0 pair.1

-- the call of this request and this response, where each item that has an answer is judged
abbrev pub whole_call : RequestOf → ResponseOf → ReadOf
whole_call request response = record {
  option = request.option;
  ordered = request.ordered;
  pending = false;
  stamp = response.stamp;
  asks = length request.items;
  outcomes = map outcome_in response.items;
  refused = is_refused response.items;
  places = map judged_pair (pairs_of request response);
  hidden = [];
}

-- the client of the call that a mark begins
abbrev pub client_begun : Option MarkOf → List ℕ
client_begun None = []
client_begun (Some (begins number client asked)) = client
client_begun (Some (ends number answered)) = []

-- THE DEFINITION: a step of such a call, among these marks
abbrev pub whole_step : List MarkOf → ever.StepOf → StepOf
whole_step marks s = record {
  number = s.number;
  client = client_begun (slice_get marks s.begin);
  begin = s.begin;
  end = s.end;
  stamp = Some s.stamp;
  taken = takes (whole_call s.request s.response) s.places;
  excepted = 0;
}
