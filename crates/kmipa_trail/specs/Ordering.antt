-- What the order of a witness comes to. Not promised: `Orders` says what an order is.
use Rattle.std.specs.Prelude.{◌≡◌, ℕ, ◌+◌, ℤ, List, [], ◌∷◌, length, slice_get, Option, Some, None}
use Rattle.kmipa_record.specs.Witnesses.{TurnOf}
use Rattle.kmipa_check.specs.Grants.{GrantsOf}
use Rattle.kmipa_check.specs.Numbers.{place_in}
use Rattle.kmipa_check.specs.Ordering.{missing_or}
use Rattle.kmipa_check.specs.declared.numbers.FirstPlaces.{FirstPlaces}
use Rattle.kmipa_check.specs.declared.fault.StepFault.{StepFault}
use Rattle.kmipa_check.specs.declared.fault.StepFault.TheVariants as step_fault
use Rattle.kmipa_turns.specs.Recorded.{RecordedOf}
use Rattle.kmipa_turns.specs.Steps.{StepOf}
use Rattle.kmipa_trail.specs.Orders.{IsFormed, TurnFault, WitnessFaultAt}
use Rattle.kmipa_trail.specs.declared.fault.Fault.{Fault}
use Rattle.kmipa_trail.specs.declared.fault.Fault.TheVariants.{Witness, Memory}

-- these are the steps of the first turns
pub record AreFormed (g : GrantsOf) (calls : List RecordedOf) (turns : List TurnOf) (count : ℕ) (steps : List StepOf) : Type 0 where
  pub counted : length steps ≡ count
  pub each : (place : ℕ) (s : StepOf) → slice_get steps place ≡ Some s → IsFormed g calls turns place s

-- what ordering comes to
abbrev pub OrderFault : GrantsOf → List RecordedOf → List TurnOf → Fault → Type 0
OrderFault g calls turns (Witness f) = WitnessFaultAt g calls turns f.at f.kind
OrderFault g calls turns Memory = Unit {0}

-- the turn at this place makes no step; want of memory tells nothing
abbrev pub TurnRefused : GrantsOf → List RecordedOf → List TurnOf → ℕ → StepFault → Type 0
TurnRefused g calls turns place (step_fault.Unfit kind) = TurnFault g calls turns place kind
TurnRefused g calls turns place step_fault.Memory = Unit {0}

-- its fault, where turns are counted from 1
abbrev pub fault_at : ℕ → StepFault → Fault
fault_at place (step_fault.Unfit kind) = Witness (record { at = place + 1; kind = kind })
fault_at place step_fault.Memory = Memory

-- the number of the first call that has ended and is without a place, if there is one
abbrev pub first_missing : FirstPlaces → List RecordedOf → Option ℤ
first_missing named [] = None
first_missing named (c ∷ calls) = missing_or c.end (place_in named c.number) c.number (first_missing named calls)
