-- What a search of calls comes to. Not promised: `Found` says what a search tells.
use Rattle.std.specs.Prelude.{◌≡◌, ◌<◌, ◌≤◌, ℕ, List, length, Option, None, Some, IfSome, Vec, Result, Ok, Err, option_map}
use Rattle.std.specs.declared.alloc.Global.{Global}
use Rattle.kmipa_record.specs.Declarations.{DeclarationOf}
use Rattle.kmipa_check.specs.Steps.{StepOf}
use Rattle.kmipa_check.specs.declared.fault.CheckFault.{CheckFault}
use Rattle.kmipa_check.specs.declared.fault.CheckFault.TheVariants.{Outside, Witness, Memory}
use Rattle.kmipa_batch.specs.declared.refusal.CallRefusal.{CallRefusal}
use Rattle.kmipa_batch.specs.declared.refusal.CallRefusal.TheVariants as refusal
use Rattle.kmipa_orders.specs.Progress.{ComesTo}
use Rattle.kmipa_orders.specs.declared.order.Outcome.{Outcome}

-- these are all the seconds that a search has, which are over; or they aren't
abbrev pub AreOver : ℕ → Option ℕ → Type 0
AreOver seconds None = Unit {0}
AreOver seconds (Some after) = (after ≡ seconds) × (0 < after)

-- where they aren't
abbrev pub InTime : Option ℕ → Type 0 → Type 0
InTime None P = P
InTime (Some after) P = Unit {0}

abbrev pub TellsOutcome : DeclarationOf → List StepOf → ℕ → Result Outcome CheckFault → Type 0
TellsOutcome declared calls budget (Ok l) = InTime l.over (ComesTo declared calls budget (option_map (λ (v : Vec ℕ Global). v.items) l.order) l.steps)
TellsOutcome declared calls budget (Err Memory) = Unit {0}
TellsOutcome declared calls budget (Err (Outside number side o)) = ⊥
TellsOutcome declared calls budget (Err (Witness f)) = ⊥

-- no more calls were tried than the budget has, and each call of the order was
abbrev pub KeepsBudget : ℕ → Outcome → Type 0
KeepsBudget budget l = (l.steps ≤ budget) × IfSome l.order (λ order. length order.items ≤ l.steps)

-- what is reported of a call that was not taken
abbrev pub not_taken : CallRefusal → Result (Option ℕ) CheckFault
not_taken (refusal.Impossible item why) = Ok None
not_taken refusal.Memory = Err Memory
