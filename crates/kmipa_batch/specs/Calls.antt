-- One call: what its batch does to an inventory at its response's Time Stamp.
use Rattle.std.specs.Prelude.{◌≡◌, ◌⊎◌, ℕ, true, List, [], ◌∷◌, Option, Some, None}
use Rattle.std.specs.List.{zip}
use Rattle.kmipa_object.specs.Inventory.{Thing}
use Rattle.kmipa_msgs.specs.declared.request.BatchOption.{BatchOption}
use Rattle.kmipa_msgs.specs.declared.request.BatchOption.TheVariants.{Undo}
use Rattle.kmipa_msgs.specs.declared.response.Status.TheVariants.{Failed}
use Rattle.kmipa_msgs.specs.Messages.{RulesOf, AskOf, RequestOf, AnswerOf, ResponseOf}
use Rattle.kmipa_ops.specs.Completes.{CompletesAnswer}
use Rattle.kmipa_ops.specs.Chains.{Chain}
use Rattle.kmipa_batch.specs.Shapes.{IsFirstFailed, NoneFailed, IsShaped}
use Rattle.kmipa_batch.specs.Orders.{is_unordered, IsTakingOrder, along}

-- the asks with their answers, by place
abbrev pub pairs_of : RequestOf → ResponseOf → List (AskOf × AnswerOf)
pairs_of request response = zip request.items response.items

-- the same as they are taken: by place, or in this order
abbrev pub pairs_taken : RequestOf → ResponseOf → Option (List ℕ) → List (AskOf × AnswerOf)
pairs_taken request response None = pairs_of request response
pairs_taken request response (Some order) = along (pairs_of request response) order

-- what a batch leaves whose items lead from V to M: under Undo with a failure V itself, and else M
pub data Leaves (option : BatchOption) (answers : List AnswerOf) (V M V' : List Thing) : Type 0 where
  goes_back : option ≡ Undo → (failed : ℕ) → IsFirstFailed answers failed → V' ≡ V → Leaves option answers V M V'
  goes_on : (option ≡ Undo → NoneFailed answers) → V' ≡ M → Leaves option answers V M V'

-- the items of the call are done by place, or in this order; the ID Placeholder is empty at the start of every call
pub record Batch (rules : RulesOf) (V : List Thing) (request : RequestOf) (response : ResponseOf) (order : Option (List ℕ)) (V' : List Thing) : Type 0 where
  pub shaped : IsShaped request response
  pub last : List Thing
  pub placeholder : Option (List ℕ)
  pub chain : Chain rules response.stamp V None (pairs_taken request response order) last placeholder
  pub leaves : Leaves request.option response.items V last V'

-- one failed item without Operation refuses the whole message
pub record RefusesMessage (response : ResponseOf) : Type 0 where
  pub answer : AnswerOf
  pub alone : response.items ≡ answer ∷ []
  pub failed : answer.status ≡ Failed
  pub unnamed : answer.operation ≡ None

-- a call in this order: its batch, or a refusal of the whole message, which changes nothing
abbrev pub CallAlong : RulesOf → List Thing → RequestOf → ResponseOf → Option (List ℕ) → List Thing → Type 0
CallAlong rules V request response order V' = Batch rules V request response order V' ⊎ (RefusesMessage response × (V' ≡ V))

-- how the items of a call may be done: by place; and where the request is without order, in any order that its answers allow
abbrev pub MayTake : RequestOf → ResponseOf → Option (List ℕ) → Type 0
MayTake request response None = Unit {0}
MayTake request response (Some order) = (is_unordered request ≡ true) × (RefusesMessage response → ⊥) × IsTakingOrder request response order

-- each answer is completed, and one without an item of the request stays
abbrev pub CompletesAnswers : List AskOf → List AnswerOf → List AnswerOf → Type 0
CompletesAnswers asks [] [] = Unit {0}
CompletesAnswers asks [] (full ∷ fulls) = ⊥
CompletesAnswers asks (answer ∷ answers) [] = ⊥
CompletesAnswers [] (answer ∷ answers) (full ∷ fulls) = (full ≡ answer) × CompletesAnswers [] answers fulls
CompletesAnswers (ask ∷ asks) (answer ∷ answers) (full ∷ fulls) = CompletesAnswer ask answer full × CompletesAnswers asks answers fulls

-- the full response is the recorded one, with a payload put in where an Undone item lacks its own
pub record Completes (request : RequestOf) (response full : ResponseOf) : Type 0 where
  pub stamp : full.stamp ≡ response.stamp
  pub items : CompletesAnswers request.items response.items full.items

-- some full response completes it, and that one is given in this order
pub record CallSomeAlong (rules : RulesOf) (V : List Thing) (request : RequestOf) (response : ResponseOf) (order : Option (List ℕ)) (V' : List Thing) : Type 0 where
  pub full : ResponseOf
  pub completes : Completes request response full
  pub call : CallAlong rules V request full order V'

-- the same by place
abbrev pub CallSome : RulesOf → List Thing → RequestOf → ResponseOf → List Thing → Type 0
CallSome rules V request response V' = CallSomeAlong rules V request response None V'
