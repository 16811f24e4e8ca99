-- Calls that are taken one after the other, by their places, and when no run begins with them.
use Rattle.std.specs.Prelude.{◌≡◌, ◌++◌, ℕ, pos, true, List, [], ◌∷◌, slice_index_or, IsPermutation, None, length, Contains}
use Rattle.kmipa_object.specs.Inventory.{Thing}
use Rattle.kmipa_record.specs.Declarations.{DeclarationOf}
use Rattle.kmipa_msgs.specs.Messages.{RulesOf}
use Rattle.kmipa_msgs.specs.declared.request.BatchOption.TheVariants.{Stop}
use Rattle.kmipa_check.specs.Steps.{StepOf, step_with}
use Rattle.kmipa_check.specs.Described.{Describes}
use Rattle.kmipa_check.specs.Runs.{IsPlaced, Linked, rules_declared}
use Rattle.kmipa_orders.specs.Next.{IsNext}

-- what is read of a place that no step has
abbrev pub no_step : StepOf
no_step = step_with (record { number = pos 0; begin = 0; end = None; request = record { option = Stop; ordered = true; items = [] }; response = None }) (record { stamp = pos 0; items = [] })

-- the step at this place
abbrev pub step_at : List StepOf → ℕ → StepOf
step_at calls place = slice_index_or calls place no_step

-- a run of these steps in this order, from this inventory
pub record TakesAll (rules : RulesOf) (calls : List StepOf) (start : List Thing) (order : List StepOf) : Type 0 where
  pub once : IsPermutation calls order
  pub placed : IsPlaced order
  pub last : List Thing
  pub linked : Linked rules start order last

-- the calls taken, the oldest first
abbrev pub so_far : List StepOf → List ℕ → List StepOf
so_far calls [] = []
so_far calls (p ∷ taken) = so_far calls taken ++ step_at calls p ∷ []

-- no run of the calls from a described inventory begins with those taken
abbrev pub IsDead : DeclarationOf → List StepOf → List ℕ → Type 0
IsDead declared calls taken = (start : List Thing) (order rest : List StepOf)
    → Describes declared start → TakesAll (rules_declared declared) calls start order → order ≡ so_far calls taken ++ rest → ⊥

-- each was next when it was taken
abbrev pub AreNext : List StepOf → List ℕ → Type 0
AreNext calls [] = Unit {0}
AreNext calls (p ∷ taken) = IsNext calls taken p × AreNext calls taken

-- two lists of calls have the same calls
pub record AreSame (taken others : List ℕ) : Type 0 where
  pub long : length others ≡ length taken
  pub each : (p : ℕ) → Contains taken p → Contains others p
  pub back : (p : ℕ) → Contains others p → Contains taken p
