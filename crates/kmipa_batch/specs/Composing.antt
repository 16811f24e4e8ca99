-- What is taken along a list of pairs, whatever the list: how it composes, and what a refusal after it says.
use Rattle.std.specs.Prelude.{◌≡◌, ◌≤◌, ◌++◌, ℕ, ℤ, List, [], ◌∷◌, length, Option, Some, None}
use Rattle.kmipa_object.specs.Inventory.{Thing}
use Rattle.kmipa_store.specs.Ledger.{Meaning}
use Rattle.kmipa_store.specs.Choices.{Choice, Chooses, inv, IsSound}
use Rattle.kmipa_msgs.specs.Messages.{RulesOf, AskOf, RequestOf, AnswerOf, ResponseOf}
use Rattle.kmipa_ops.specs.declared.why.Why.{Why}
use Rattle.kmipa_ops.specs.Alike.{StandAlike}
use Rattle.kmipa_ops.specs.Chains.{ChainSome}
use Rattle.kmipa_ops.specs.Explains.{Explains, Refuted}
use Rattle.kmipa_batch.specs.Shapes.{IsShaped}
use Rattle.kmipa_batch.specs.Orders.{IsTakingOrder, places_from}
use Rattle.kmipa_batch.specs.Calls.{pairs_of, pairs_taken}
use Rattle.kmipa_batch.specs.Refusals.{SpeaksAtAlong}

-- from some inventory of the ledger these pairs are done
pub record CanChain (rules : RulesOf) (t : ℤ) (m : Meaning) (before : Option (List ℕ)) (pairs : List (AskOf × AnswerOf)) : Type 0 where
  pub choice : Choice
  pub chooses : Chooses m.secrets choice
  pub things : List Thing
  pub placeholder : Option (List ℕ)
  pub chain : ChainSome rules t (inv choice m.objects) before pairs things placeholder

-- a ledger that was led along some pairs, and then along others, was led along both together
abbrev pub ChainsCompose : Type 0
ChainsCompose =
    (rules : RulesOf) (t : ℤ) (m : Meaning) (before : Option (List ℕ)) (xs ys : List (AskOf × AnswerOf)) (k : Meaning) (between : Option (List ℕ)) (n : Meaning) (after : Option (List ℕ))
    → Explains rules t m before xs k between → Explains rules t k between ys n after → Explains rules t m before (xs ++ ys) n after

-- where the ledger was led along some pairs, and a reason speaks against the next, those are possible, and with it they are not
abbrev pub RefusalsAreExact : Type 0
RefusalsAreExact =
    (rules : RulesOf) (t : ℤ) (m : Meaning) (before : Option (List ℕ)) (pairs : List (AskOf × AnswerOf)) (n : Meaning) (after : Option (List ℕ)) (ask : AskOf) (answer : AnswerOf) (why : Why)
    → Explains rules t m before pairs n after → IsSound n → Refuted rules n after t ask answer why
    → CanChain rules t m before pairs × (CanChain rules t m before (pairs ++ (ask, answer) ∷ []) → ⊥)

-- by place, the pairs of a call are all its pairs
abbrev pub ByPlaceIsAll : Type 0
ByPlaceIsAll =
    (request : RequestOf) (response : ResponseOf) (count : ℕ) → length (pairs_of request response) ≤ count
    → pairs_taken request response (Some (places_from 0 count)) ≡ pairs_taken request response None

-- by place is an order in which the items of a call without order may be done, where each place has its shape
abbrev pub ByPlaceIsAnOrder : Type 0
ByPlaceIsAnOrder =
    (request : RequestOf) (response : ResponseOf) → IsShaped request response → IsTakingOrder request response (places_from 0 (length (pairs_of request response)))

-- whatever the ledger knows, after so many items of an order only one item of the call is reported
abbrev pub OneItemIsTold : Type 0
OneItemIsTold =
    (rules : RulesOf) (m n : Meaning) (request : RequestOf) (response : ResponseOf) (order : Option (List ℕ)) (count item other : ℕ) (why because : Why)
    → SpeaksAtAlong rules m request response order count item why → SpeaksAtAlong rules n request response order count other because → item ≡ other

-- and where two ledgers stand for the same inventories, however they number their secrets, it is reported with one reason
abbrev pub OneReasonIsTold : Type 0
OneReasonIsTold =
    (rules : RulesOf) (m n : Meaning) (request : RequestOf) (response : ResponseOf) (order : Option (List ℕ)) (count item other : ℕ) (why because : Why)
    → StandAlike m n → SpeaksAtAlong rules m request response order count item why → SpeaksAtAlong rules n request response order count other because → why ≡ because
