-- What a server can have held where an item was refused: the inventories to which the turns ahead lead, and the items of the call that are taken
-- ahead of it.
use Rattle.std.specs.Prelude.{◌≡◌, ◌↔◌, ℕ, ◌+◌, List, take, Option, Some, None, slice_get}
use Rattle.kmipa_object.specs.Inventory.{Thing}
use Rattle.kmipa_msgs.specs.Messages.{AskOf, AnswerOf}
use Rattle.kmipa_record.specs.Declarations.{DeclarationOf, AreDeclared}
use Rattle.kmipa_ops.specs.Chains.{ChainSome}
use Rattle.kmipa_batch.specs.Calls.{pairs_of, pairs_taken}
use Rattle.kmipa_batch.specs.Orders.{place_at}
use Rattle.kmipa_check.specs.Described.{Describes}
use Rattle.kmipa_check.specs.Runs.{Linked, rules_declared}
use Rattle.kmipa_check.specs.Steps.{StepOf, order_of}
use Rattle.kmipa_explain.specs.Places.{at_item}

-- The inventory stands where the item of a turn is next, and the ID Placeholder holds this: the turns ahead lead to some inventory from one that
-- the declaration describes, and from there the items of the call lead to it that are taken ahead. The turn is counted from 0, the item from 1.
pub record StandsAt (declared : DeclarationOf) (order : List StepOf) (turn item : ℕ) (V : List Thing) (placeholder : Option (List ℕ)) : Type 0 where
  pub call : StepOf
  pub there : slice_get order turn ≡ Some call
  pub count : ℕ
  pub place : ℕ
  pub next : place_at (order_of call) count ≡ Some place
  pub reported : item ≡ place + 1
  pub start : List Thing
  pub described : Describes declared start
  pub before : List Thing
  pub linked : Linked (rules_declared declared) start (take turn order) before
  pub chain : ChainSome (rules_declared declared) call.response.stamp before None (take count (pairs_taken call.request call.response (order_of call))) V placeholder

-- what was held there, as a declaration: it describes exactly the inventories that stand there, and in each the ID Placeholder holds this
pub record IsHeldAt (declared : DeclarationOf) (order : List StepOf) (turn item : ℕ) (held : DeclarationOf) (placeholder : Option (List ℕ)) : Type 0 where
  pub objects : AreDeclared held
  pub exactly : (V : List Thing) (p : Option (List ℕ)) → StandsAt declared order turn item V p ↔ (Describes held V × (p ≡ placeholder))

-- this is told of what was held there, of the ID Placeholder, and of the item with its answer
pub record TellsOfHeld (declared : DeclarationOf) (order : List StepOf) (turn : ℕ) (c : StepOf) (item : ℕ) (Tells : DeclarationOf → Option (List ℕ) → AskOf → AnswerOf → Type 0) : Type 0 where
  pub held : DeclarationOf
  pub placeholder : Option (List ℕ)
  pub is : IsHeldAt declared order turn item held placeholder
  pub ask : AskOf
  pub answer : AnswerOf
  pub there : at_item (pairs_of c.request c.response) item ≡ Some (ask, answer)
  pub tells : Tells held placeholder ask answer
