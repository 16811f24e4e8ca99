-- Create.
use Rattle.std.specs.Prelude.{ℕ, ℤ, Bool, false, List, Option, Some, None}
use Rattle.kmipa_attrs.specs.Sets.{Attributes}
use Rattle.kmipa_attrs.specs.declared.object_type.ObjectType.TheVariants.{SymmetricKey}
use Rattle.kmipa_object.specs.Inventory.{Card, Thing, given_of, rule_for, possible, Admitted}
use Rattle.kmipa_store.specs.Ledger.{Meaning, cards_of}
use Rattle.kmipa_msgs.specs.Messages.{RulesOf, RegisteredOf, PayloadOf, created}
use Rattle.kmipa_msgs.specs.Sayable.{SaysNew}
use Rattle.kmipa_ops.specs.Adding.{newborn, AddsObject, adding_speaks, with_own, names_new, AddingReason}
use Rattle.kmipa_ops.specs.Effects.{makes}
use Rattle.kmipa_ops.specs.Judging.{Judging}
use Rattle.kmipa_ops.specs.Row.{Deed, on_names}
use Rattle.kmipa_ops.specs.declared.why.Why.{Why}

-- of a Create, which makes a Symmetric Key, nobody says the bytes
abbrev pub Creates : RulesOf → List Thing → ℤ → Attributes → RegisteredOf → List Thing → Option (List ℕ) → Type 0
Creates rules V t a x V' after = (bytes : List ℕ) × AddsObject rules V t SymmetricKey a bytes x V' after

-- against a new object whose answer is there: a Create's bytes nobody says, so that some must be possible; a Register brings them
abbrev pub CreateReason : RulesOf → List Card → Attributes → Option RegisteredOf → Why → Type 0
CreateReason rules cs a None why = ⊥
CreateReason rules cs a (Some x) why =
    AddingReason rules cs SymmetricKey a.names ((bytes : List ℕ) × Admitted (rule_for SymmetricKey (given_of a)) bytes) x why

-- against a Create that is done: some bytes must be possible
abbrev pub create_speaks : RulesOf → List Card → Attributes → RegisteredOf → Why → Bool
create_speaks rules cs a x why = adding_speaks rules cs SymmetricKey a.names (possible (rule_for SymmetricKey (given_of a))) x why

abbrev pub seen_created : PayloadOf → Option RegisteredOf
seen_created (created x) = Some x
seen_created payload = None

abbrev pub create_says : RulesOf → Meaning → Attributes → Option RegisteredOf → Why → Bool
create_says rules m a None why = false
create_says rules m a (Some x) why = create_speaks rules (cards_of m.objects) a x why

abbrev pub create_leaves : Meaning → ℤ → Attributes → Option RegisteredOf → Meaning
create_leaves m t a None = m
create_leaves m t a (Some x) = with_own m (newborn t x.id SymmetricKey a) None

abbrev pub create_deed : Attributes → Deed
create_deed a = record {
  Shown = RegisteredOf;
  payload = created;
  seen = seen_created;
  says = SaysNew;
  subject = on_names a.names;
  may_lack = false;
  does = λ rules V before t x V' after. Creates rules V t a x V' after;
}

abbrev pub create_judging : (a : Attributes) → Judging (create_deed a)
create_judging a = record {
  effect = makes (record { kind = SymmetricKey; attributes = a; block = None });
  speaks = λ rules m before t shown why. create_says rules m a shown why;
  means = λ rules m before t shown why. CreateReason rules (cards_of m.objects) a shown why;
  leaves = λ m before t shown. create_leaves m t a shown;
  holds = names_new;
}
