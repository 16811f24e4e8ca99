-- What the order of a witness comes to. Not promised: `Orders` says what an order is.
use Rattle.std.specs.Prelude.{◌<◌, ℕ, ◌+◌, ℤ, List, [], ◌∷◌, Option, Some, None}
use Rattle.kmipa_record.specs.Witnesses.{TurnOf}
use Rattle.kmipa_msgs.specs.Messages.{RequestOf, ResponseOf}
use Rattle.kmipa_check.specs.Calls.{CallOf}
use Rattle.kmipa_check.specs.Fills.{IsWanted}
use Rattle.kmipa_check.specs.Grants.{GrantsOf}
use Rattle.kmipa_check.specs.Orders.{IsAnswerFault, TurnFault}
use Rattle.kmipa_check.specs.Numbers.{place_in}
use Rattle.kmipa_check.specs.declared.numbers.FirstPlaces.{FirstPlaces}
use Rattle.kmipa_check.specs.declared.fault.CheckFault.{CheckFault}
use Rattle.kmipa_check.specs.declared.fault.CheckFault.TheVariants.{Witness, Memory}
use Rattle.kmipa_check.specs.declared.fault.StepFault.{StepFault}
use Rattle.kmipa_check.specs.declared.fault.StepFault.TheVariants as step_fault

-- no place below this one waits for a payload
abbrev pub NoneWantedBelow : RequestOf → ResponseOf → ℕ → Type 0
NoneWantedBelow request response count = (place : ℕ) → place < count → IsWanted request response place → ⊥

-- the answer that a turn gives to a call is refused; want of memory tells nothing
abbrev pub AnswerRefused : CallOf → TurnOf → StepFault → Type 0
AnswerRefused c t (step_fault.Unfit kind) = IsAnswerFault c t kind
AnswerRefused c t step_fault.Memory = Unit {0}

-- the turn at this place makes no step; want of memory tells nothing
abbrev pub TurnRefused : GrantsOf → List CallOf → List TurnOf → ℕ → StepFault → Type 0
TurnRefused g calls turns place (step_fault.Unfit kind) = TurnFault g calls turns place kind
TurnRefused g calls turns place step_fault.Memory = Unit {0}

-- its fault, where turns are counted from 1
abbrev pub fault_at : ℕ → StepFault → CheckFault
fault_at place (step_fault.Unfit kind) = Witness (record { at = place + 1; kind = kind })
fault_at place step_fault.Memory = Memory

-- the number of the first call that has ended and is without a place, if there is one
abbrev pub missing_or : Option ℕ → Option ℕ → ℤ → Option ℤ → Option ℤ
missing_or None place number rest = rest
missing_or (Some end) None number rest = Some number
missing_or (Some end) (Some place) number rest = rest

abbrev pub first_missing : FirstPlaces → List CallOf → Option ℤ
first_missing named [] = None
first_missing named (c ∷ calls) = missing_or c.end (place_in named c.number) c.number (first_missing named calls)
