-- WHERE NO ORDER OF THE CALLS CAN BEGIN OTHERWISE: then what is impossible at its begin is so in every order (profile).
use Rattle.std.specs.Prelude.{◌≡◌, ◌<◌, ◌≤◌, ℕ, List, [], Some, slice_get}
use Rattle.kmipa_record.specs.Witnesses.{TurnOf}
use Rattle.kmipa_turns.specs.Recorded.{RecordedOf}
use Rattle.kmipa_turns.specs.Steps.{StepOf, TakenOf, leaves, takes, WantsOrder}

-- a call is taken in one way alone: it can't be read, or its items are taken by place
abbrev pub IsOneWay : TakenOf → Type 0
IsOneWay (leaves left counts) = Unit {0}
IsOneWay (takes c places) = WantsOrder c → ⊥

-- The turn at this place takes the call at this place, by begin marks, in one way alone, sets nothing aside, and fills nothing in. The call has ended before
-- each later one begins.
pub record IsForcedAt (calls : List RecordedOf) (turns : List TurnOf) (order : List StepOf) (place : ℕ) : Type 0 where
  pub call : RecordedOf
  pub there : slice_get calls place ≡ Some call
  pub step : StepOf
  pub made : slice_get order place ≡ Some step
  pub taken : step.number ≡ call.number
  pub one_way : IsOneWay step.taken
  pub end : ℕ
  pub ended : step.end ≡ Some end
  pub ahead : (later : ℕ) (other : RecordedOf) → place < later → slice_get calls later ≡ Some other → end < other.begin
  pub turn : TurnOf
  pub taking : slice_get turns place ≡ Some turn
  pub unaside : turn.asides ≡ []
  pub unfilled : turn.fills ≡ []

-- so do the first turns: no order of the calls begins otherwise
abbrev pub IsForced : List RecordedOf → List TurnOf → List StepOf → ℕ → Type 0
IsForced calls turns order count = (place : ℕ) → place < count → IsForcedAt calls turns order place

-- the calls from this place on begin at this mark or behind it
abbrev pub BeginFrom : List RecordedOf → ℕ → ℕ → Type 0
BeginFrom calls from mark = (later : ℕ) (other : RecordedOf) → from ≤ later → slice_get calls later ≡ Some other → mark ≤ other.begin

-- The scan for it, from the end. Not promised.
pub record ScannedFrom (calls : List RecordedOf) (turns : List TurnOf) (order : List StepOf) (count from mark : ℕ) : Type 0 where
  pub behind : BeginFrom calls from mark
  pub forced : (place : ℕ) → from ≤ place → place < count → IsForcedAt calls turns order place
