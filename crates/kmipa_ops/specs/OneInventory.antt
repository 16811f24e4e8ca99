-- A ledger that knows all bytes stands for one inventory: taking an item is then two-way, exactly what the item does to that inventory.
use Rattle.std.specs.Prelude.{◌≡◌, ◌↔◌, ℕ, ℤ, List, Option, Some, Result, Ok, Err, slice_get}
use Rattle.kmipa_object.specs.Inventory.{Thing}
use Rattle.kmipa_store.specs.Ledger.{Known, Meaning, LedgerState}
use Rattle.kmipa_store.specs.Choices.{Choice, Chooses, inv, IsSound}
use Rattle.kmipa_msgs.specs.Messages.{RulesOf, AskOf, AnswerOf}
use Rattle.kmipa_ops.specs.declared.why.Refusal.{Refusal}
use Rattle.kmipa_ops.specs.declared.why.Refusal.TheVariants.{Impossible, Memory}
use Rattle.kmipa_ops.specs.Completes.{DoesSome}
use Rattle.kmipa_ops.specs.Explains.{Taken}

-- the bytes of each secret are known
pub record KnowsAll (m : Meaning) : Type 0 where
  pub bytes : (number : ℕ) (secret : Known) → slice_get m.secrets number ≡ Some secret → (known : List ℕ) × (secret.bytes ≡ Some known)

-- an inventory that the ledger stands for: under some choice of the bytes that aren't known
abbrev pub StandsFor : Meaning → List Thing → Type 0
StandsFor m V = (c : Choice) × Chooses m.secrets c × (V ≡ inv c m.objects)

-- where all bytes are known it is one inventory
abbrev pub StandsForOne : Type 0
StandsForOne = (m : Meaning) (V W : List Thing) → IsSound m → KnowsAll m → StandsFor m V → StandsFor m W → V ≡ W

-- The item was taken: some completed answer leads on from the inventory, and what it can lead to is just what the ledger stands for then.
pub record LeadsOn (rules : RulesOf) (V : List Thing) (before : Option (List ℕ)) (t : ℤ) (ask : AskOf) (answer : AnswerOf) (n : Meaning) (after : Option (List ℕ)) : Type 0 where
  pub some : (W : List Thing) × StandsFor n W
  pub exactly : (W : List Thing) (p : Option (List ℕ)) → DoesSome rules V before t ask answer W p ↔ (StandsFor n W × (p ≡ after))

-- what taking an item says of the inventory before it: a refusal that no completed answer leads on; want of memory nothing
abbrev pub Decides : RulesOf → List Thing → Option (List ℕ) → ℤ → AskOf → AnswerOf → Result (Unit {0}) Refusal → Meaning → Option (List ℕ) → Type 0
Decides rules V before t ask answer (Ok done) n after = LeadsOn rules V before t ask answer n after
Decides rules V before t ask answer (Err (Impossible why)) n after = (W : List Thing) (p : Option (List ℕ)) → DoesSome rules V before t ask answer W p → ⊥
Decides rules V before t ask answer (Err Memory) n after = Unit {0}

abbrev pub TakingDecides : Type 0
TakingDecides =
    (rules : RulesOf) (s : LedgerState) (before : Option (List ℕ)) (t : ℤ) (ask : AskOf) (answer : AnswerOf) (result : Result (Unit {0}) Refusal) (u : LedgerState) (after : Option (List ℕ))
    → IsSound s.now → KnowsAll s.now → Taken rules s before t ask answer result u after
    → (V : List Thing) → StandsFor s.now V → Decides rules V before t ask answer result u.now after
