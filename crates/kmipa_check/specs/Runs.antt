-- Runs: steps one at a time, in an order, from an inventory that the declaration describes.
use Rattle.std.specs.Prelude.{◌≡◌, ◌≢◌, ◌<◌, ◌≤ℤ◌, ℕ, Option, Some, None, List, [], ◌∷◌, AllPairs, Contains}
use Rattle.kmipa_object.specs.Inventory.{Thing}
use Rattle.kmipa_record.specs.Marks.{MarkOf}
use Rattle.kmipa_record.specs.Declarations.{DeclarationOf}
use Rattle.kmipa_record.specs.Witnesses.{TurnOf}
use Rattle.kmipa_msgs.specs.Messages.{RulesOf, RowOf, default_rules}
use Rattle.kmipa_batch.specs.Calls.{CallSomeAlong}
use Rattle.kmipa_check.specs.Calls.{CallOf, AreCalls}
use Rattle.kmipa_check.specs.Steps.{StepOf, order_of, IsStep}
use Rattle.kmipa_check.specs.Described.{Describes}
use Rattle.kmipa_check.specs.Grants.{GrantsOf, grants_declared}
use Rattle.kmipa_check.specs.Orders.{IsOrder}

-- there is an end, and it stands before the place
abbrev pub EndsAhead : Option ℕ → ℕ → Type 0
EndsAhead None place = ⊥
EndsAhead (Some end) place = end < place

-- the end mark of one call stands before the begin mark of another; a call without an end is before nothing
abbrev pub Before : StepOf → StepOf → Type 0
Before a b = EndsAhead a.end b.begin

-- no step stands after one that it is before, and moments never fall
pub record IsPlaced (steps : List StepOf) : Type 0 where
  pub kept : AllPairs (λ (a b : StepOf). ¬ (Before b a)) steps
  pub stamped : AllPairs (λ (a b : StepOf). a.response.stamp ≤ℤ b.response.stamp) steps

-- the steps lead from one inventory to another, one after the other; each response is given in its order, or a completion of it
abbrev pub Linked : RulesOf → List Thing → List StepOf → List Thing → Type 0
Linked rules V [] W = W ≡ V
Linked rules V (s ∷ steps) W = (M : List Thing) × CallSomeAlong rules V s.request s.response (order_of s) M × Linked rules M steps W

-- some turn makes this step with one of the calls
abbrev pub IsOfCalls : GrantsOf → List CallOf → StepOf → Type 0
IsOfCalls g calls s = (c : CallOf) × (t : TurnOf) × Contains calls c × IsStep g c t s

-- the steps take each of these calls once that has ended, each open one at most once, and no other
pub record TakeEachOnce (g : GrantsOf) (calls : List CallOf) (steps : List StepOf) : Type 0 where
  pub of_calls : (s : StepOf) → Contains steps s → IsOfCalls g calls s
  pub once : AllPairs (λ (a b : StepOf). a.number ≢ b.number) steps
  pub all : (c : CallOf) (end : ℕ) → Contains calls c → c.end ≡ Some end → (s : StepOf) × Contains steps s × (s.number ≡ c.number)

-- a run of the calls by these steps, from this inventory: each call that has ended once, each open one at most once, none before one that it stands after, moments never falling
pub record IsRun (g : GrantsOf) (rules : RulesOf) (calls : List CallOf) (start : List Thing) (steps : List StepOf) : Type 0 where
  pub once : TakeEachOnce g calls steps
  pub placed : IsPlaced steps
  pub last : List Thing
  pub linked : Linked rules start steps last

-- the rows of a declaration; one without rows has the default one
abbrev pub rows_declared : List RowOf → List RowOf
rows_declared [] = default_rules.rows
rows_declared (row ∷ rows) = row ∷ rows

-- the rules that a declaration gives
abbrev pub rules_declared : DeclarationOf → RulesOf
rules_declared declared = record {
  unique_names = declared.settings.unique_names;
  rows = rows_declared declared.rows;
  allow_lines = declared.allow_lines;
  visibility = declared.settings.visibility;
}

-- The witness is formed for the calls of the transcript, and some inventory that the declaration describes has a run of all calls by the
-- steps of the witness, which gives every recorded response.
pub record IsAccepted (marks : List MarkOf) (declared : DeclarationOf) (turns : List TurnOf) : Type 0 where
  pub calls : List CallOf
  pub are : AreCalls marks calls
  pub steps : List StepOf
  pub order : IsOrder (grants_declared declared) calls turns steps
  pub start : List Thing
  pub described : Describes declared start
  pub run : IsRun (grants_declared declared) (rules_declared declared) calls start steps

-- Some inventory that the declaration describes has a run of all calls of the transcript, in some order.
pub record IsExplained (marks : List MarkOf) (declared : DeclarationOf) : Type 0 where
  pub calls : List CallOf
  pub are : AreCalls marks calls
  pub start : List Thing
  pub described : Describes declared start
  pub steps : List StepOf
  pub run : IsRun (grants_declared declared) (rules_declared declared) calls start steps
