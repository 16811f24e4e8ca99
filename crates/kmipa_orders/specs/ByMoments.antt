-- What a search at Time Stamps may spend of a budget, and what is found behind it. Not promised.
use Rattle.std.specs.Prelude.{◌≡◌, ◌≤◌, ℕ, List, Result, IfOk}
use Rattle.kmipa_record.specs.Marks.{MarkOf}
use Rattle.kmipa_record.specs.Declarations.{DeclarationOf}
use Rattle.kmipa_check.specs.Grants.{GrantsNothing, grants_declared}
use Rattle.kmipa_check.specs.declared.fault.CheckFault.{CheckFault}
use Rattle.kmipa_orders.specs.Found.{Finds}
use Rattle.kmipa_orders.specs.declared.found.Found.{Found}

-- no more than there is, and all where the declaration grants nothing
pub record IsKept (declared : DeclarationOf) (budget kept : ℕ) : Type 0 where
  pub few : kept ≤ budget
  pub all : GrantsNothing (grants_declared declared) → kept ≡ budget

-- behind what a search of these records finds within the budget this is found, unless it fails
abbrev pub FindsBehind : List MarkOf → DeclarationOf → ℕ → Found → Result Found CheckFault → Type 0
FindsBehind marks declared budget before result = Finds marks declared budget before → IfOk result (Finds marks declared budget)
