-- A replay that goes on from a moment. Not promised: `Since` and `Segments` say what a check of a segment tells.
use Rattle.std.specs.Prelude.{◌≡◌, ℤ, List, length, map, Option, Some, None, Result, Ok, Err}
use Rattle.kmipa_store.specs.Ledger.{Meaning}
use Rattle.kmipa_store.specs.Choices.{IsSound}
use Rattle.kmipa_record.specs.Declarations.{DeclarationOf}
use Rattle.kmipa_check.specs.Steps.{StepOf}
use Rattle.kmipa_check.specs.Verdicts.{IsLate}
use Rattle.kmipa_check.specs.Left.{IsLeftBehind, entry_left}
use Rattle.kmipa_check.specs.Since.{AreSince, last_stamp, BeginsBelow, IsRefusedFirst, IsRefusedSince}
use Rattle.kmipa_check.specs.Replays.{Replayed}
use Rattle.kmipa_check.specs.declared.fault.CheckFault.{CheckFault}
use Rattle.kmipa_check.specs.declared.fault.CheckFault.TheVariants.{Outside, Witness, Memory}
use Rattle.kmipa_check.specs.declared.verdict.Refused.{Refused}
use Rattle.kmipa_check.specs.declared.verdict.Verdict.{Verdict}
use Rattle.kmipa_check.specs.declared.verdict.Verdict.TheVariants.{Yes, No}

-- whether the first turn is refused for its moment
abbrev pub FirstTold : Option ℤ → List StepOf → Option Refused → Type 0
FirstTold since order (Some r) = IsRefusedFirst since order r
FirstTold since order None = (first : StepOf) → BeginsBelow since order first → IsLate order 0 first

-- all steps are replayed, none below the moment
pub record IsReplayedSince (declared : DeclarationOf) (since : Option ℤ) (order : List StepOf) : Type 0 where
  pub ledger : Meaning
  pub replayed : Replayed declared order (length order) ledger
  pub since_then : AreSince since order

-- what a replay that goes on from a moment comes to
abbrev pub TellsSegment : DeclarationOf → Option ℤ → List StepOf → Result Verdict CheckFault → Type 0
TellsSegment declared since order (Ok Yes) = IsReplayedSince declared since order
TellsSegment declared since order (Ok (No refused)) = IsRefusedSince declared since order refused
TellsSegment declared since order (Err Memory) = Unit {0}
TellsSegment declared since order (Err (Outside number side o)) = ⊥
TellsSegment declared since order (Err (Witness f)) = ⊥

-- the entries are those of the objects of a sound ledger
pub record IsHeldAs (left : DeclarationOf) (m : Meaning) : Type 0 where
  pub sound : IsSound m
  pub entries : left.entries ≡ map (entry_left m.secrets) m.objects

-- the declaration of a ledger that replayed all steps, none below the moment, and the moment of the last
pub record IsLeftSince (declared : DeclarationOf) (since : Option ℤ) (order : List StepOf) (left : DeclarationOf) (until : Option ℤ) : Type 0 where
  pub behind : IsLeftBehind declared order left
  pub since_then : AreSince since order
  pub last : until ≡ last_stamp since order
