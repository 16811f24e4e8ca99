-- The calls that a search may take. Not promised.
use Rattle.std.specs.Prelude.{◌≡◌, ℕ, Some, List, Contains}
use Rattle.kmipa_msgs.specs.Messages.{ResponseOf, request_of, response_of}
use Rattle.kmipa_check.specs.Calls.{CallOf, call_of}
use Rattle.kmipa_check.specs.Steps.{StepOf, step_with}
use Rattle.kmipa_orders.specs.Plain.{IsPlainStep, ArePlain}
use Rattle.kmipa_orders.specs.declared.candidate.Candidate.{Candidate}

-- the call that a candidate is
abbrev pub candidate_call : Candidate → CallOf
candidate_call c = record { number = c.number; begin = c.begin; end = Some c.end; request = request_of c.request.now; response = Some (response_of c.response.now) }

-- the step that it makes
abbrev pub candidate_step : Candidate → StepOf
candidate_step c = step_with (candidate_call c) (response_of c.response.now)

-- the call that it was made of
abbrev pub own_call : Candidate → CallOf
own_call c = call_of c.call.now

-- a call that has not ended, or has no response
abbrev pub IsOpen : CallOf → Type 0
IsOpen c = (end : ℕ) (response : ResponseOf) → c.end ≡ Some end → c.response ≡ Some response → ⊥

-- a call makes no step of its own: it isn't plain
abbrev pub IsNotPlain : CallOf → Type 0
IsNotPlain c = (s : StepOf) → IsPlainStep c s → ⊥

-- each of these is one of the calls
abbrev pub AreOfCalls : List CallOf → List CallOf → Type 0
AreOfCalls calls own = (c : CallOf) → Contains own c → Contains calls c

abbrev pub AreNotPlain : List CallOf → Type 0
AreNotPlain calls = (steps : List StepOf) → ArePlain calls steps → ⊥
