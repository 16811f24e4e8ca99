-- What a turn of a witness takes. Runs, verdicts, lateness and stamps speak of steps alone.
use Rattle.std.specs.Prelude.{◌≡◌, ℕ, ℤ, List, [], Option, Some, None, option_map}
use Rattle.kmipa_record.specs.Entries.{items_of}
use Rattle.kmipa_record.specs.Witnesses.{TurnOf}
use Rattle.kmipa_msgs.specs.Messages.{RequestOf, ResponseOf, request_of, response_of}
use Rattle.kmipa_batch.specs.Orders.{order_given}
use Rattle.kmipa_check.specs.Births.{IsBorn}
use Rattle.kmipa_check.specs.Calls.{CallOf, AreResponse}
use Rattle.kmipa_check.specs.Fills.{IsWanted, IsFilled}
use Rattle.kmipa_check.specs.Grants.{GrantsOf}
use Rattle.kmipa_check.specs.Moments.{IsMoment, at_moment}
use Rattle.kmipa_check.specs.Places.{GivesPlaces, MayBeTaken}
use Rattle.kmipa_check.specs.declared.step.Given.{Given}
use Rattle.kmipa_check.specs.declared.step.Given.TheVariants.{Recorded, FromTurn}
use Rattle.kmipa_check.specs.declared.step.Posed.{Posed}
use Rattle.kmipa_check.specs.declared.step.Posed.TheVariants as posed
use Rattle.kmipa_check.specs.declared.step.Step.{Step}

-- A call that is taken: its number, the places of its marks, its request with the births put in, the response that it is to give, the Time Stamp that this has as
-- it was recorded or answered, and the places of its items, counted from 1, in the order in which they are taken; none where they are taken
-- by place. The stamp of the response itself is the moment at which the call is taken.
pub record StepOf : Type 0 where
  pub number : ℤ
  pub begin : ℕ
  pub end : Option ℕ
  pub request : RequestOf
  pub response : ResponseOf
  pub stamp : ℤ
  pub places : Option (List ℕ)

-- the order in which its items are taken
abbrev pub order_of : StepOf → Option (List ℕ)
order_of s = order_given s.places

-- some place of the call waits for a payload that the witness has to give
abbrev pub NeedsFill : RequestOf → ResponseOf → Type 0
NeedsFill request response = (place : ℕ) × IsWanted request response place

-- the call, taken with this response at its Time Stamp, its items in the order of these places
abbrev pub step_along : CallOf → ResponseOf → Option (List ℕ) → StepOf
step_along c response places = record {
  number = c.number;
  begin = c.begin;
  end = c.end;
  request = c.request;
  response = response;
  stamp = response.stamp;
  places = places;
}

-- the same with another request, at a moment
abbrev pub step_at : CallOf → RequestOf → ResponseOf → ℤ → Option (List ℕ) → StepOf
step_at c request response moment places = record {
  number = c.number;
  begin = c.begin;
  end = c.end;
  request = request;
  response = at_moment response moment;
  stamp = response.stamp;
  places = places;
}

-- taken by place at its Time Stamp
abbrev pub step_with : CallOf → ResponseOf → StepOf
step_with c response = step_along c response None

-- the response that a call has by a turn: of a call that has ended the recorded one, and the turn gives none; of an open call what the
-- answer says that the turn gives
pub data IsAnswered (c : CallOf) (t : TurnOf) (response : ResponseOf) : Type 0 where
  recorded : c.response ≡ Some response → t.answer ≡ None → IsAnswered c t response
  given : (bytes : List ℕ) → c.response ≡ None → t.answer ≡ Some bytes → AreResponse c.request bytes response → IsAnswered c t response

-- The turn names the call, and they make this step: the call is taken with its request and its response, in which the turn's births and fills
-- are put, at the moment that the turn gives, and its items in the order of the places that the turn gives. No turn sets a place aside.
pub record IsStep (g : GrantsOf) (c : CallOf) (t : TurnOf) (s : StepOf) : Type 0 where
  pub named : t.call ≡ c.number
  pub response : ResponseOf
  pub answered : IsAnswered c t response
  pub moment : ℤ
  pub timed : IsMoment g response.stamp t.moment moment
  pub places : Option (List ℕ)
  pub ordered : GivesPlaces t.places places
  pub taken : MayBeTaken c.request response places
  pub full : ResponseOf
  pub filled : IsFilled c.request response t.fills full
  pub asked : RequestOf
  pub born : IsBorn g c.request response t.births asked
  pub no_aside : t.asides ≡ []
  pub is : s ≡ step_at c asked full moment places

-- the request that a step of the program takes
abbrev pub posed_of : Posed → RequestOf
posed_of (posed.Recorded request) = request_of request.now
posed_of (posed.Completed request) = request_of request.value

-- the response that a step of the program is to give
abbrev pub given_of : Given → ResponseOf
given_of (Recorded response) = response_of response.now
given_of (FromTurn response) = response_of response.value

-- what a step of the program means
abbrev pub step_of : Step → StepOf
step_of s = record {
  number = s.number;
  begin = s.begin;
  end = s.end;
  request = posed_of s.request;
  response = given_of s.response;
  stamp = s.stamp;
  places = option_map items_of s.places;
}
