-- What the items of a batch come to, one after the other. Not promised.
use Rattle.std.specs.Prelude.{◌≡◌, ◌≤◌, ℕ, ◌+◌, ℤ, List, length, take, Option, Some, None, Result, Ok, Err, slice_get}
use Rattle.kmipa_store.specs.Ledger.{Meaning, LedgerState}
use Rattle.kmipa_store.specs.Choices.{IsSound}
use Rattle.kmipa_msgs.specs.Messages.{RulesOf, AskOf, RequestOf, AnswerOf, ResponseOf}
use Rattle.kmipa_ops.specs.declared.why.Why.{Why}
use Rattle.kmipa_ops.specs.declared.why.Refusal.{Refusal}
use Rattle.kmipa_ops.specs.declared.why.Refusal.TheVariants as item
use Rattle.kmipa_ops.specs.Explains.{Explains, Refuted}
use Rattle.kmipa_batch.specs.Shapes.{IsShaped, IsFirstUnshaped}
use Rattle.kmipa_batch.specs.Orders.{one_of, along, places_from}
use Rattle.kmipa_batch.specs.Calls.{pairs_taken}
use Rattle.kmipa_batch.specs.Refusals.{CallRefutedAlong}
use Rattle.kmipa_batch.specs.declared.refusal.CallRefusal.{CallRefusal}
use Rattle.kmipa_batch.specs.declared.refusal.CallRefusal.TheVariants.{Impossible, Memory}

-- against the pair that is there speaks this reason
pub record PairRefuted (rules : RulesOf) (m : Meaning) (before : Option (List ℕ)) (t : ℤ) (pair : Option (AskOf × AnswerOf)) (why : Why) : Type 0 where
  pub ask : AskOf
  pub answer : AnswerOf
  pub there : pair ≡ Some (ask, answer)
  pub refuted : Refuted rules m before t ask answer why

-- what the pair at a place comes to, if there is one
abbrev pub PairCame : RulesOf → Meaning → Option (List ℕ) → ℤ → Option (AskOf × AnswerOf) → Result (Unit {0}) Refusal → Meaning → Option (List ℕ) → Type 0
PairCame rules m before t pair (Ok done) n after = Explains rules t m before (one_of pair) n after × IsSound n
PairCame rules m before t pair (Err (item.Impossible why)) n after = PairRefuted rules m before t pair why
PairCame rules m before t pair (Err item.Memory) n after = Unit {0}

-- and it leaves the marks
abbrev pub PairTaken : RulesOf → LedgerState → Option (List ℕ) → ℤ → Option (AskOf × AnswerOf) → Result (Unit {0}) Refusal → LedgerState → Option (List ℕ) → Type 0
PairTaken rules s before t pair result u after = PairCame rules s.now before t pair result u.now after × (u.marks ≡ s.marks)

-- a refusal at a place, which is reported from 1
abbrev pub refused_at : ℕ → Refusal → CallRefusal
refused_at place (item.Impossible why) = Impossible (place + 1) why
refused_at place item.Memory = Memory

-- the places of an order: these, or else so many by place
abbrev pub places_of : Option (List ℕ) → ℕ → List ℕ
places_of None count = places_from 0 count
places_of (Some order) count = order

-- how many places are taken: as many as were handed in, or else all that have an item
abbrev pub TakesCount : RequestOf → Option (List ℕ) → ℕ → Type 0
TakesCount request None count = length request.items ≤ count
TakesCount request (Some places) count = count ≡ length places

-- all pairs along this order were taken
pub record AlongDone (rules : RulesOf) (t : ℤ) (m : Meaning) (pairs : List (AskOf × AnswerOf)) (order : List ℕ) (n : Meaning) : Type 0 where
  pub placeholder : Option (List ℕ)
  pub explains : Explains rules t m None (along pairs order) n placeholder
  pub sound : IsSound n

-- those before a position of this order were taken, and against the pair of its place speaks this reason. The place is reported from 1
pub record AlongRefuted (rules : RulesOf) (t : ℤ) (m : Meaning) (pairs : List (AskOf × AnswerOf)) (order : List ℕ) (item : ℕ) (why : Why) : Type 0 where
  pub position : ℕ
  pub place : ℕ
  pub there : slice_get order position ≡ Some place
  pub reported : item ≡ place + 1
  pub between : Meaning
  pub placeholder : Option (List ℕ)
  pub explains : Explains rules t m None (along pairs (take position order)) between placeholder
  pub sound : IsSound between
  pub refuted : PairRefuted rules between placeholder t (slice_get pairs place) why

-- what the pairs along this order come to
abbrev pub AlongCame : RulesOf → ℤ → Meaning → List (AskOf × AnswerOf) → List ℕ → Result (Unit {0}) CallRefusal → Meaning → Type 0
AlongCame rules t m pairs order (Ok done) n = AlongDone rules t m pairs order n
AlongCame rules t m pairs order (Err (Impossible item why)) n = AlongRefuted rules t m pairs order item why
AlongCame rules t m pairs order (Err Memory) n = Unit {0}

-- and they leave the marks
abbrev pub AlongTaken : RulesOf → ℤ → LedgerState → List (AskOf × AnswerOf) → List ℕ → Result (Unit {0}) CallRefusal → LedgerState → Type 0
AlongTaken rules t s pairs order result u = AlongCame rules t s.now pairs order result u.now × (u.marks ≡ s.marks)

-- the lowest place without its shape, if there is one
abbrev pub LowestUnshaped : RequestOf → ResponseOf → Option ℕ → Type 0
LowestUnshaped request response None = IsShaped request response
LowestUnshaped request response (Some place) = IsFirstUnshaped request response place

-- all items were taken in this order, in their shape
pub record AllTaken (rules : RulesOf) (m : Meaning) (request : RequestOf) (response : ResponseOf) (order : Option (List ℕ)) (n : Meaning) : Type 0 where
  pub shaped : IsShaped request response
  pub placeholder : Option (List ℕ)
  pub explains : Explains rules response.stamp m None (pairs_taken request response order) n placeholder
  pub sound : IsSound n

-- what the items of a batch come to
abbrev pub Came : RulesOf → Meaning → RequestOf → ResponseOf → Option (List ℕ) → Result (Unit {0}) CallRefusal → Meaning → Type 0
Came rules m request response order (Ok done) n = AllTaken rules m request response order n
Came rules m request response order (Err (Impossible item why)) n = CallRefutedAlong rules m request response order item why
Came rules m request response order (Err Memory) n = Unit {0}

-- and they leave the marks
abbrev pub Ran : RulesOf → LedgerState → RequestOf → ResponseOf → Option (List ℕ) → Result (Unit {0}) CallRefusal → LedgerState → Type 0
Ran rules s request response order result u = Came rules s.now request response order result u.now × (u.marks ≡ s.marks)
