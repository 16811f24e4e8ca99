-- A check that goes on from a moment (profile): no call is taken at a moment below it, as if a turn of that moment stood ahead of the first.
use Rattle.std.specs.Prelude.{◌≡◌, ◌⊎◌, ◌≤ℤ◌, ◌<ℤ◌, ℤ, List, [], ◌∷◌, Contains, Option, Some, None, slice_get, Result, Ok, Err}
use Rattle.kmipa_record.specs.Marks.{MarkOf, AreRecorded}
use Rattle.kmipa_record.specs.Declarations.{DeclarationOf}
use Rattle.kmipa_record.specs.Witnesses.{TurnOf}
use Rattle.kmipa_ops.specs.declared.why.Why.TheVariants.{StampRunsBack}
use Rattle.kmipa_check.specs.Calls.{CallOf, AreCalls}
use Rattle.kmipa_check.specs.Grants.{grants_declared}
use Rattle.kmipa_check.specs.Steps.{StepOf}
use Rattle.kmipa_check.specs.Orders.{IsOrder}
use Rattle.kmipa_check.specs.Runs.{IsAccepted}
use Rattle.kmipa_check.specs.Verdicts.{IsLate, IsRefused, Checks}
use Rattle.kmipa_check.specs.declared.segment.Checked.{Checked}
use Rattle.kmipa_check.specs.declared.segment.CheckedOn.{CheckedOn}
use Rattle.kmipa_check.specs.declared.fault.CheckFault.{CheckFault}
use Rattle.kmipa_check.specs.declared.fault.CheckFault.TheVariants.{Memory}
use Rattle.kmipa_check.specs.declared.verdict.Refused.{Refused}
use Rattle.kmipa_check.specs.declared.verdict.Verdict.{Verdict}
use Rattle.kmipa_check.specs.declared.verdict.Verdict.TheVariants.{Yes, No}

-- no moment of these steps is below this one, if there is one
abbrev pub AreSince : Option ℤ → List StepOf → Type 0
AreSince None steps = Unit {0}
AreSince (Some moment) steps = (s : StepOf) → Contains steps s → moment ≤ℤ s.response.stamp

-- the moment of the last of these steps; where there is none, the one from which they were to go on
abbrev pub last_stamp : Option ℤ → List StepOf → Option ℤ
last_stamp since [] = since
last_stamp since (s ∷ steps) = last_stamp (Some s.response.stamp) steps

-- the witness is accepted, and takes no call at a moment below this one
pub record IsAcceptedSince (marks : List MarkOf) (declared : DeclarationOf) (since : Option ℤ) (turns : List TurnOf) : Type 0 where
  pub accepted : IsAccepted marks declared turns
  pub since_then : AreSince since accepted.steps

-- the first of the steps has a moment below this one
pub record BeginsBelow (since : Option ℤ) (order : List StepOf) (first : StepOf) : Type 0 where
  pub moment : ℤ
  pub is : since ≡ Some moment
  pub there : slice_get order 0 ≡ Some first
  pub below : first.response.stamp <ℤ moment

-- the first turn is refused for its moment: it is below the one to go on from, and no call that ended before its own comes later
pub record IsRefusedFirst (since : Option ℤ) (order : List StepOf) (r : Refused) : Type 0 where
  pub first : StepOf
  pub begins : BeginsBelow since order first
  pub kept : IsLate order 0 first → ⊥
  pub is : r ≡ record { turn = 1; call = first.number; item = 0; why = StampRunsBack }

-- a no behind a moment: the first turn for its own, or else the no of a check without a moment
pub data IsRefusedSince (declared : DeclarationOf) (since : Option ℤ) (order : List StepOf) (r : Refused) : Type 0 where
  at_first : IsRefusedFirst since order r → IsRefusedSince declared since order r
  as_ever : ((first : StepOf) → BeginsBelow since order first → IsLate order 0 first) → IsRefused declared order r → IsRefusedSince declared since order r

-- what is answered of the verdict
abbrev pub verdict_told : Result Checked CheckFault → Result Verdict CheckFault
verdict_told (Ok checked) = Ok checked.verdict
verdict_told (Err fault) = Err fault

-- and of what is answered where the ledger is handed out too
abbrev pub checked_alone : Result CheckedOn CheckFault → Result Checked CheckFault
checked_alone (Ok on) = Ok on.checked
checked_alone (Err fault) = Err fault

-- what a check that goes on from a moment answers: its faults are those of a check without one
abbrev pub ChecksSince : List MarkOf → DeclarationOf → Option ℤ → List TurnOf → Result Verdict CheckFault → Type 0
ChecksSince marks declared since turns (Ok Yes) = IsAcceptedSince marks declared since turns
ChecksSince marks declared since turns (Ok (No r)) =
    (calls : List CallOf) × AreCalls marks calls × ((order : List StepOf) × IsOrder (grants_declared declared) calls turns order × IsRefusedSince declared since order r)
ChecksSince marks declared since turns (Err fault) = Checks marks declared turns (Err fault)

-- of a witness that is accepted since the moment it answers yes, unless memory runs out; so it answers yes exactly there
abbrev pub AcceptedSinceIsYes : Type 0
AcceptedSinceIsYes = (marks : List MarkOf) (declared : DeclarationOf) (since : Option ℤ) (turns : List TurnOf) (result : Result Verdict CheckFault)
    → AreRecorded marks → IsAcceptedSince marks declared since turns → ChecksSince marks declared since turns result → (result ≡ Ok Yes) ⊎ (result ≡ Err Memory)
