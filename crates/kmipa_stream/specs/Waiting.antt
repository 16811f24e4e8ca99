-- The end marks that have come, and the first whose call waits for its turn. Not promised.
use Rattle.std.specs.Prelude.{◌≡◌, ◌<◌, ◌≤◌, ℕ, ℤ, List, length, map, slice_get, Option, Some, None}
use Rattle.kmipa_record.specs.Marks.{MarkOf}
use Rattle.kmipa_record.specs.Witnesses.{turn_of}
use Rattle.kmipa_record.specs.declared.turn.Turn.{Turn}
use Rattle.kmipa_check.specs.Calls.{HasEnd}
use Rattle.kmipa_check.specs.Numbers.{Indexes}
use Rattle.kmipa_check.specs.Orders.{NamesBefore}
use Rattle.kmipa_check.specs.declared.numbers.FirstPlaces.{FirstPlaces}
use Rattle.kmipa_stream.specs.declared.ends.EndSeen.{EndSeen}
use Rattle.kmipa_stream.specs.declared.ends.Ends.{Ends}

-- the places are those at which the turns first name a number
abbrev pub AreNamedAt : List Turn → FirstPlaces → Type 0
AreNamedAt turns named = Indexes (map (λ (turn : Turn). Some turn.call) turns) named

-- one of the first so many turns names the number
abbrev pub IsPassed : List Turn → ℕ → ℤ → Type 0
IsPassed turns count number = NamesBefore (map turn_of turns) count number

-- these are the end marks
pub record AreEnds (marks : List MarkOf) (ends : List EndSeen) : Type 0 where
  pub each : (place : ℕ) (e : EndSeen) → slice_get ends place ≡ Some e → (answered : List ℕ) × HasEnd marks e.number e.place answered
  pub all : (number : ℤ) (end : ℕ) (answered : List ℕ) → HasEnd marks number end answered
      → (place : ℕ) × ((e : EndSeen) × (slice_get ends place ≡ Some e) × (e.number ≡ number) × (e.place ≡ end))
  pub ascend : (i j : ℕ) (a b : EndSeen) → i < j → slice_get ends i ≡ Some a → slice_get ends j ≡ Some b → a.place < b.place

-- the end marks of calls that one of the first so many turns names, at their front
abbrev pub ArePassed : List Turn → ℕ → List EndSeen → ℕ → Type 0
ArePassed turns count ends passed = (place : ℕ) (e : EndSeen) → place < passed → slice_get ends place ≡ Some e → IsPassed turns count e.number

pub record Wait (marks : List MarkOf) (turns : List Turn) (count : ℕ) (ends : Ends) : Type 0 where
  pub are : AreEnds marks ends.seen.items
  pub within : ends.passed ≤ length ends.seen.items
  pub passed : ArePassed turns count ends.seen.items ends.passed

-- the calls that ended before this place are all named by the first so many turns
abbrev pub ArePassedBelow : List MarkOf → List Turn → ℕ → ℕ → Type 0
ArePassedBelow marks turns count place = (number : ℤ) (end : ℕ) (answered : List ℕ) → HasEnd marks number end answered → end < place → IsPassed turns count number

-- the first end mark of a call that none of the first so many turns names
abbrev pub IsFirstWaiting : List MarkOf → List Turn → ℕ → Option ℕ → Type 0
IsFirstWaiting marks turns count None = (place : ℕ) → ArePassedBelow marks turns count place
IsFirstWaiting marks turns count (Some place) =
    ArePassedBelow marks turns count place × ((number : ℤ) × (answered : List ℕ) × HasEnd marks number place answered × (IsPassed turns count number → ⊥))
