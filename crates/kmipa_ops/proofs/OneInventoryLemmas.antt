-- A ledger that knows all bytes: one inventory, and what taking an item says of it.
use Rattle.std.proofs.Common.{◌≡◌, ℕ, ℤ, List, [], ◌∷◌, length, Option, Ok, Err, refl, sym, ◌∙◌, subst}
use Rattle.kmipa_object.specs.Inventory.{Thing}
use Rattle.kmipa_object.proofs.ListLemmas.{below_get}
use Rattle.kmipa_store.specs.Ledger.{Meaning}
use Rattle.kmipa_store.specs.Choices.{Choice, Chooses, Agrees, inv, IsSound}
use Rattle.kmipa_store.proofs.InventoryLemmas.{inv-same}
use Rattle.kmipa_msgs.specs.Messages.{RulesOf, AskOf, AnswerOf}
use Rattle.kmipa_ops.specs.declared.why.Refusal.TheVariants.{Impossible, Memory}
use Rattle.kmipa_ops.specs.Completes.{DoesSome}
use Rattle.kmipa_ops.specs.Explains.{Explains}
use Rattle.kmipa_ops.specs.OneInventory.{KnowsAll, StandsFor, StandsForOne, LeadsOn, TakingDecides}

-- known bytes leave no choice
agree : (m : Meaning) (c d : Choice) → KnowsAll m → Chooses m.secrets c → Chooses m.secrets d → Agrees (length m.secrets) c d
agree m c d all x y number below =
    let s = below_get m.secrets number below in
    let k = all.bytes number s.0 s.1 in
    (y.suits number s.0 s.1).known k.0 k.1 ∙ sym ((x.suits number s.0 s.1).known k.0 k.1)

pub one_inventory : (m : Meaning) (c d : Choice) → IsSound m → KnowsAll m → Chooses m.secrets c → Chooses m.secrets d → inv d m.objects ≡ inv c m.objects
one_inventory m c d sound all x y = inv-same m.objects m.secrets c d sound.in_range (agree m c d all x y)

pub stands_for_one : StandsForOne
stands_for_one m V W sound all x y = x.2 ∙ sym (one_inventory m x.0 y.0 sound all x.1 y.1) ∙ sym y.2

leads_on : (rules : RulesOf) (m : Meaning) (before : Option (List ℕ)) (t : ℤ) (ask : AskOf) (answer : AnswerOf) (n : Meaning) (after : Option (List ℕ))
    → IsSound m → KnowsAll m → IsSound n → Explains rules t m before ((ask, answer) ∷ []) n after → (V : List Thing) → StandsFor m V → LeadsOn rules V before t ask answer n after
leads_on rules m before t ask answer n after sound all kept e V x = record {
  some = (inv kept.choice.0 n.objects, (kept.choice.0, kept.choice.1, refl));
  exactly = λ W p. (
    λ y.
        let P : List Thing → Type 0 = λ z. DoesSome rules z before t ask answer W p in
        let r = e.complete x.0 x.1 W p (W, p, subst P x.2 y, (refl, refl)) in
        ((r.0, r.1, r.3), r.4),
    λ y.
        let r = e.sound y.0.0 y.0.1 in
        let here : inv y.0.0 m.objects ≡ V = one_inventory m x.0 y.0.0 sound all x.1 r.0 ∙ sym x.2 in
        let P : List Thing → Type 0 = λ z. DoesSome rules z before t ask answer W p in
        let Q : List Thing → Type 0 = λ z. DoesSome rules (inv y.0.0 m.objects) before t ask answer z r.1.1 in
        let R : Option (List ℕ) → Type 0 = λ z. DoesSome rules (inv y.0.0 m.objects) before t ask answer W z in
        subst P here (subst R (sym r.1.3.1 ∙ sym y.1) (subst Q (sym r.1.3.0 ∙ sym y.0.2) r.1.2)),
  );
}

pub taking_decides : TakingDecides
taking_decides rules s before t ask answer (Ok done) u after sound all taken V x = leads_on rules s.now before t ask answer u.now after sound all taken.sound taken.explains V x
taking_decides rules s before t ask answer (Err (Impossible why)) u after sound all taken V x =
    λ W p y. let P : List Thing → Type 0 = λ z. DoesSome rules z before t ask answer W p in taken.0.never x.0 x.1 W p (subst P x.2 y)
taking_decides rules s before t ask answer (Err Memory) u after sound all taken V x = tt
