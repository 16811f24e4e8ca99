-- The ledger of a replay up to a refused item. Not promised: `Standing` says what is told of it.
use Rattle.std.specs.Prelude.{◌≡◌, ℕ, List, take, true, Option, Some, None, slice_get, length}
use Rattle.kmipa_store.specs.Ledger.{Meaning}
use Rattle.kmipa_store.specs.Choices.{IsSound}
use Rattle.kmipa_msgs.specs.Messages.{RulesOf, AskOf, AnswerOf}
use Rattle.kmipa_record.specs.Declarations.{DeclarationOf}
use Rattle.kmipa_ops.specs.Blame.{speaks}
use Rattle.kmipa_ops.specs.Explains.{Explains, Refuted}
use Rattle.kmipa_ops.specs.declared.why.Why.{Why}
use Rattle.kmipa_batch.specs.Calls.{pairs_of, pairs_taken, RefusesMessage}
use Rattle.kmipa_batch.specs.Orders.{place_at}
use Rattle.kmipa_check.specs.Left.{declaration_left}
use Rattle.kmipa_check.specs.Runs.{rules_declared}
use Rattle.kmipa_check.specs.Steps.{StepOf, order_of}
use Rattle.kmipa_check.specs.Verdicts.{AreKnown, ArePossible}
use Rattle.kmipa_explain.specs.Items.{places_taken}
use Rattle.kmipa_explain.specs.Places.{at_item}
use Rattle.kmipa_explain.specs.Standing.{IsHeldAt}

-- the items of a call that are taken ahead of the one at this place lead the ledger from `m` to `n`, from an empty placeholder
pub record IsLedAhead (rules : RulesOf) (c : StepOf) (place : ℕ) (m n : Meaning) (placeholder : Option (List ℕ)) : Type 0 where
  pub count : ℕ
  pub next : place_at (order_of c) count ≡ Some place
  pub explains : Explains rules c.response.stamp m None (take count (pairs_taken c.request c.response (order_of c))) n placeholder
  pub sound : IsSound n

-- the item at this place of the call is refused for this reason, behind the turns and the items ahead of it
pub record IsItemRefused (declared : DeclarationOf) (order : List StepOf) (turn : ℕ) (c : StepOf) (place : ℕ) (why : Why) : Type 0 where
  pub there : slice_get order turn ≡ Some c
  pub possible : ArePossible declared order turn
  pub unrefused : RefusesMessage c.response → ⊥
  pub known : Meaning
  pub knows : AreKnown declared (take turn order) known
  pub between : Meaning
  pub placeholder : Option (List ℕ)
  pub led : IsLedAhead (rules_declared declared) c place known between placeholder
  pub ask : AskOf
  pub answer : AnswerOf
  pub pair : slice_get (pairs_of c.request c.response) place ≡ Some (ask, answer)
  pub refuted : Refuted (rules_declared declared) between placeholder c.response.stamp ask answer why

-- over this ledger the reason speaks against the item
pub record IsRefusedOver (declared : DeclarationOf) (c : StepOf) (item : ℕ) (why : Why) (m : Meaning) (placeholder : Option (List ℕ)) : Type 0 where
  pub sound : IsSound m
  pub ask : AskOf
  pub answer : AnswerOf
  pub there : at_item (pairs_of c.request c.response) item ≡ Some (ask, answer)
  pub speaks : speaks (rules_declared declared) m placeholder c.response.stamp ask answer why ≡ true

-- this declaration is what was held there, and it is that of a ledger over which the reason speaks
pub record IsStanding (declared : DeclarationOf) (order : List StepOf) (turn : ℕ) (c : StepOf) (item : ℕ) (why : Why) (held : DeclarationOf) (placeholder : Option (List ℕ)) : Type 0 where
  pub held_at : IsHeldAt declared order turn item held placeholder
  pub ledger : Meaning
  pub is : held ≡ declaration_left declared ledger
  pub over : IsRefusedOver declared c item why ledger placeholder

-- a place of a call stands at a position of the order in which its items are taken
abbrev pub IsTakenAt : StepOf → ℕ → ℕ → Type 0
IsTakenAt c place position = slice_get (places_taken (order_of c) (length c.request.items)) position ≡ Some place
