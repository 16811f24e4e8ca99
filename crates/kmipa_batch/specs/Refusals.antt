-- What a ledger may claim of a call that it took or refused: one choice of bytes for every secret that ever existed meets all of it. The
-- items are taken by place (no order), or in the order that was handed in.
use Rattle.std.specs.Prelude.{◌≡◌, ◌≤◌, ◌<◌, ◌⊎◌, ℕ, ◌+◌, Bool, true, false, List, length, take, Option, Some, None, Result, Ok, Err, slice_get}
use Rattle.kmipa_object.specs.Inventory.{Thing}
use Rattle.kmipa_store.specs.Ledger.{Meaning, LedgerState, bytes_at}
use Rattle.kmipa_store.specs.Choices.{Choice, Chooses, Agrees, inv, IsSound, Extends}
use Rattle.kmipa_msgs.specs.Messages.{RulesOf, AskOf, RequestOf, AnswerOf, ResponseOf}
use Rattle.kmipa_ops.specs.declared.why.Why.{Why}
use Rattle.kmipa_ops.specs.declared.why.Why.TheVariants.{BatchShape}
use Rattle.kmipa_ops.specs.Chains.{ChainSome}
use Rattle.kmipa_ops.specs.Ascending.{SecretsAscend}
use Rattle.kmipa_ops.specs.Explains.{Explains, BringsOrShows, Refuted}
use Rattle.kmipa_batch.specs.Shapes.{IsShapedAt, IsFirstUnshaped}
use Rattle.kmipa_batch.specs.Orders.{is_unordered, place_at}
use Rattle.kmipa_batch.specs.Calls.{pairs_of, pairs_taken, RefusesMessage, CallSomeAlong}
use Rattle.kmipa_batch.specs.declared.refusal.CallRefusal.{CallRefusal}
use Rattle.kmipa_batch.specs.declared.refusal.CallRefusal.TheVariants.{Impossible, Memory}

-- the call, in this order, leads the ledger from `m` to `n`
pub record CallExplainsAlong (rules : RulesOf) (m : Meaning) (request : RequestOf) (response : ResponseOf) (order : Option (List ℕ)) (n : Meaning) : Type 0 where
  -- every choice afterwards was a choice before, and the call links the two inventories
  pub sound : (c : Choice) → Chooses n.secrets c → Chooses m.secrets c × CallSomeAlong rules (inv c m.objects) request response order (inv c n.objects)
  -- whatever the call reaches from an inventory before is an inventory afterwards, under a choice that agrees on the secrets before
  pub complete : (c : Choice) → Chooses m.secrets c → (V : List Thing) → CallSomeAlong rules (inv c m.objects) request response order V
      → (d : Choice) × Chooses n.secrets d × Agrees (length m.secrets) c d × (V ≡ inv d n.objects)
  -- bytes are known only where they were, or where an item reported them
  pub learns : (number : ℕ) (bytes : List ℕ) → bytes_at n.secrets number ≡ Some (Some bytes)
      → (bytes_at m.secrets number ≡ Some (Some bytes)) ⊎ BringsOrShows (pairs_of request response) bytes
  pub grows : length m.secrets ≤ length n.secrets
  pub extends : Extends m.secrets n.secrets
  -- each object keeps a secret of its own
  pub ascends : SecretsAscend m.objects → SecretsAscend n.objects

-- Whether the shape of a place is judged by the time that so many items are done. In an ordered call it is judged just before the place's
-- item; in a call without order all shapes are judged before the first item.
abbrev pub IsJudgedBy : Bool → ℕ → ℕ → Type 0
IsJudgedBy false count place = place < count
IsJudgedBy true count place = 0 < count

-- the shapes that are judged by the time that so many items are done are right
abbrev pub AreShapedFor : RequestOf → ResponseOf → ℕ → Type 0
AreShapedFor request response count = (place : ℕ) → IsJudgedBy (is_unordered request) count place → IsShapedAt request response place

-- from some inventory of the ledger the first items of the order are done, and the shapes that are judged by then are right
pub record IsPossibleUpToAlong (rules : RulesOf) (m : Meaning) (request : RequestOf) (response : ResponseOf) (order : Option (List ℕ)) (count : ℕ) : Type 0 where
  pub shaped : AreShapedFor request response count
  pub choice : Choice
  pub chooses : Chooses m.secrets choice
  pub things : List Thing
  pub placeholder : Option (List ℕ)
  pub chain : ChainSome rules response.stamp (inv choice m.objects) None (take count (pairs_taken request response order)) things placeholder

-- What speaks after the first `count` items of the order, and against which item, reported from 1. A shape that is judged next is wrong, and
-- the lowest place without its shape is reported. Or they are right, and against the next item speaks this reason, the lowest, the known bytes
-- being those of the ledger and of the items before.
pub data SpeaksAtAlong (rules : RulesOf) (m : Meaning) (request : RequestOf) (response : ResponseOf) (order : Option (List ℕ)) (count item : ℕ) (why : Why) : Type 0 where
  in_shape : (place : ℕ) → item ≡ place + 1 → IsJudgedBy (is_unordered request) (count + 1) place → IsFirstUnshaped request response place → why ≡ BatchShape
      → SpeaksAtAlong rules m request response order count item why
  in_item : (place : ℕ) → item ≡ place + 1 → AreShapedFor request response (count + 1) → place_at order count ≡ Some place
      → (between : Meaning) (placeholder : Option (List ℕ)) (ask : AskOf) (answer : AnswerOf)
      → Explains rules response.stamp m None (take count (pairs_taken request response order)) between placeholder → IsSound between
      → slice_get (pairs_of request response) place ≡ Some (ask, answer) → Refuted rules between placeholder response.stamp ask answer why
      → SpeaksAtAlong rules m request response order count item why

-- so many items are possible, with one more they are not, and this item is reported with this reason
pub record CallRefutedAlong (rules : RulesOf) (m : Meaning) (request : RequestOf) (response : ResponseOf) (order : Option (List ℕ)) (item : ℕ) (why : Why) : Type 0 where
  pub count : ℕ
  pub before : IsPossibleUpToAlong rules m request response order count
  pub never : IsPossibleUpToAlong rules m request response order (count + 1) → ⊥
  pub unrefused : RefusesMessage response → ⊥
  pub speaks : SpeaksAtAlong rules m request response order count item why

-- what taking a call in this order comes to: from a ledger `s` to `u`
abbrev pub CallTakenAlong : RulesOf → LedgerState → RequestOf → ResponseOf → Option (List ℕ) → Result (Unit {0}) CallRefusal → LedgerState → Type 0
CallTakenAlong rules s request response order (Ok done) u = CallExplainsAlong rules s.now request response order u.now × IsSound u.now × (u.marks ≡ s.marks)
CallTakenAlong rules s request response order (Err (Impossible item why)) u = CallRefutedAlong rules s.now request response order item why × (u ≡ s)
CallTakenAlong rules s request response order (Err Memory) u = u ≡ s
