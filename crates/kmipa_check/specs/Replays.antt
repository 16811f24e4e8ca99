-- A replay of the first turns of an order. Not promised: `Verdicts` says what a verdict tells.
use Rattle.std.specs.Prelude.{◌≡◌, ℕ, ◌+◌, List, take, length, Contains, Option, Some, None, Result, Ok, Err}
use Rattle.kmipa_store.specs.Ledger.{Meaning}
use Rattle.kmipa_store.specs.Choices.{IsSound}
use Rattle.kmipa_record.specs.Declarations.{DeclarationOf}
use Rattle.kmipa_msgs.specs.Messages.{RulesOf}
use Rattle.kmipa_batch.specs.Readable.{IsReadableCall}
use Rattle.kmipa_check.specs.Places.{MayBeTaken}
use Rattle.kmipa_check.specs.Steps.{StepOf}
use Rattle.kmipa_check.specs.Runs.{rules_declared}
use Rattle.kmipa_check.specs.Verdicts.{ArePlaced, AreKnown, IsRefused}
use Rattle.kmipa_check.specs.declared.fault.CheckFault.{CheckFault}
use Rattle.kmipa_check.specs.declared.fault.CheckFault.TheVariants.{Outside, Witness, Memory}
use Rattle.kmipa_check.specs.declared.verdict.Refused.{Refused}
use Rattle.kmipa_check.specs.declared.verdict.Verdict.{Verdict}
use Rattle.kmipa_check.specs.declared.verdict.Verdict.TheVariants.{Yes, No}

-- the first turns are placed, and the ledger knows what they leave
pub record Replayed (declared : DeclarationOf) (order : List StepOf) (count : ℕ) (m : Meaning) : Type 0 where
  pub placed : ArePlaced order count
  pub known : AreKnown declared (take count order) m
  pub sound : IsSound m

-- each call can be judged, and its items may be taken in its order
abbrev pub AllTakable : List StepOf → Type 0
AllTakable calls = (c : StepOf) → Contains calls c → IsReadableCall c.request c.response × MayBeTaken c.request c.response c.places

-- what a turn comes to, from a ledger that has replayed the turns before
abbrev pub TurnTold : DeclarationOf → List StepOf → ℕ → Result (Option Refused) CheckFault → Meaning → Type 0
TurnTold declared order turn (Ok None) m = Replayed declared order (turn + 1) m
TurnTold declared order turn (Ok (Some refused)) m = IsRefused declared order refused
TurnTold declared order turn (Err Memory) m = Unit {0}
TurnTold declared order turn (Err (Outside number side o)) m = ⊥
TurnTold declared order turn (Err (Witness f)) m = ⊥

abbrev pub TurnTaken : RulesOf → List StepOf → ℕ → Meaning → Result (Option Refused) CheckFault → Meaning → Type 0
TurnTaken rules order turn before result after =
    (declared : DeclarationOf) → rules ≡ rules_declared declared → Replayed declared order turn before → TurnTold declared order turn result after

-- what a replay comes to
abbrev pub TellsRun : DeclarationOf → List StepOf → Result Verdict CheckFault → Type 0
TellsRun declared order (Ok Yes) = (m : Meaning) × Replayed declared order (length order) m
TellsRun declared order (Ok (No refused)) = IsRefused declared order refused
TellsRun declared order (Err Memory) = Unit {0}
TellsRun declared order (Err (Outside number side o)) = ⊥
TellsRun declared order (Err (Witness f)) = ⊥
