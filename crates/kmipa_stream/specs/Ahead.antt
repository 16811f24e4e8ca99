-- The transcripts that the marks which have come may still become. Not promised.
use Rattle.std.specs.Prelude.{◌≡◌, ◌⊎◌, ◌≤◌, ℕ, Bool, true, List, [], ◌++◌, Option, Some, None}
use Rattle.kmipa_record.specs.Marks.{MarkOf, AreRecorded}
use Rattle.kmipa_check.specs.Calls.{CallOf, IsRecorded}
use Rattle.kmipa_check.specs.CallReading.{IsOutsideAt}
use Rattle.kmipa_stream.specs.declared.lowest.Found.{Found}

-- a transcript begins with these marks; where it is closed it has no more
pub record IsAhead (closed : Bool) (marks all : List MarkOf) : Type 0 where
  pub rest : List MarkOf
  pub is : all ≡ marks ++ rest
  pub none : closed ≡ true → rest ≡ []
  pub recorded : AreRecorded all

-- in each of them the call that the mark at this place begins is inside the profile
abbrev pub IsInsideAhead : Bool → List MarkOf → ℕ → Type 0
IsInsideAhead closed marks begin = (all : List MarkOf) → IsAhead closed marks all → (c : CallOf) × IsRecorded all c × (c.begin ≡ begin)

-- a message was found, and its call begins there or before
abbrev pub IsFoundBy : Option Found → ℕ → Type 0
IsFoundBy None begin = ⊥
IsFoundBy (Some found) begin = found.begin ≤ begin

-- the call that begins there was read: it is inside, or does not matter any more
abbrev pub WasRead : Bool → List MarkOf → Option Found → ℕ → Type 0
WasRead closed marks lowest begin = IsInsideAhead closed marks begin ⊎ IsFoundBy lowest begin

-- what was found is outside
abbrev pub IsFound : List MarkOf → Option Found → Type 0
IsFound marks None = Unit {0}
IsFound marks (Some found) = IsOutsideAt marks found.begin found.number found.side found.outside.item found.outside.kind

-- what is found now begins neither behind this place nor behind what was found before
pub record IsLower (lowest : Option Found) (begin : ℕ) (found : Found) : Type 0 where
  pub least : found.begin ≤ begin
  pub below : (place : ℕ) → IsFoundBy lowest place → found.begin ≤ place
