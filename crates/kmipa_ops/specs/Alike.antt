-- Ledgers that stand for the same inventories. However they number their secrets, the same reasons speak over both: what is known of an
-- object's bytes is told by the inventories themselves.
use Rattle.std.specs.Prelude.{◌≡◌, ◌↔◌, ℕ, ℤ, List, Option}
use Rattle.kmipa_object.specs.Inventory.{Thing}
use Rattle.kmipa_store.specs.Ledger.{Meaning}
use Rattle.kmipa_store.specs.Choices.{IsSound}
use Rattle.kmipa_msgs.specs.Messages.{RulesOf, AskOf, AnswerOf}
use Rattle.kmipa_ops.specs.declared.why.Why.{Why}
use Rattle.kmipa_ops.specs.Blame.{speaks, lowest}
use Rattle.kmipa_ops.specs.Explains.{Explains}
use Rattle.kmipa_ops.specs.OneInventory.{StandsFor}

-- they stand for the same inventories
abbrev pub StandAlike : Meaning → Meaning → Type 0
StandAlike m n = (V : List Thing) → StandsFor m V ↔ StandsFor n V

-- the same reasons speak over both, and so the same is the lowest
abbrev pub AlikeSpeakAlike : Type 0
AlikeSpeakAlike =
    (rules : RulesOf) (m n : Meaning) (before : Option (List ℕ)) (t : ℤ) (ask : AskOf) (answer : AnswerOf) → IsSound m → IsSound n → StandAlike m n
    → ((why : Why) → speaks rules m before t ask answer why ≡ speaks rules n before t ask answer why)
    × (lowest rules m before t ask answer ≡ lowest rules n before t ask answer)

-- where they were led along the same pairs, they stand alike again, and for the same placeholder
abbrev pub AlikeGoAlike : Type 0
AlikeGoAlike =
    (rules : RulesOf) (t : ℤ) (m n : Meaning) (before : Option (List ℕ)) (pairs : List (AskOf × AnswerOf)) (k l : Meaning) (after last : Option (List ℕ))
    → StandAlike m n → IsSound k → Explains rules t m before pairs k after → Explains rules t n before pairs l last → StandAlike k l × (after ≡ last)
