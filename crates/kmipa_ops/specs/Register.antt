-- Register.
use Rattle.std.specs.Prelude.{ℕ, ℤ, Bool, false, List, Option, Some, None, ◌≡◌, true}
use Rattle.kmipa_attrs.specs.Sets.{Attributes}
use Rattle.kmipa_object.specs.Inventory.{Card, Thing, given_of, rule_for, admits}
use Rattle.kmipa_store.specs.Ledger.{Meaning, cards_of}
use Rattle.kmipa_msgs.specs.Messages.{RulesOf, RegisterOf, RegisteredOf, PayloadOf, registered}
use Rattle.kmipa_msgs.specs.Sayable.{SaysNew}
use Rattle.kmipa_ops.specs.Adding.{newborn, AddsObject, adding_speaks, with_own, names_new, AddingReason}
use Rattle.kmipa_ops.specs.Effects.{makes}
use Rattle.kmipa_ops.specs.Judging.{Judging}
use Rattle.kmipa_ops.specs.Row.{Deed, on_names}
use Rattle.kmipa_ops.specs.declared.why.Why.{Why}

-- the value that is there, of two of which one may be missing
abbrev pub either_of : {A : Type 0} → Option A → Option A → Option A
either_of None other = other
either_of (Some x) other = Some x

-- the attributes that a Register brings: an algorithm or a length may stand in its Attributes, in its Key Block or in both
abbrev pub brought : RegisterOf → Attributes
brought r = record r.attributes {
  algorithm = either_of r.attributes.algorithm r.block.algorithm;
  length = either_of r.attributes.length r.block.length;
}

abbrev pub Registers : RulesOf → List Thing → ℤ → RegisterOf → RegisteredOf → List Thing → Option (List ℕ) → Type 0
Registers rules V t r x V' after = AddsObject rules V t r.object_type (brought r) r.block.material x V' after

abbrev pub RegisterReason : RulesOf → List Card → RegisterOf → Option RegisteredOf → Why → Type 0
RegisterReason rules cs r None why = ⊥
RegisterReason rules cs r (Some x) why =
    AddingReason rules cs r.object_type r.attributes.names (admits (rule_for r.object_type (given_of (brought r))) r.block.material ≡ true) x why

-- against a Register that is done: its bytes must be possible
abbrev pub register_speaks : RulesOf → List Card → RegisterOf → RegisteredOf → Why → Bool
register_speaks rules cs r x why =
    adding_speaks rules cs r.object_type r.attributes.names (admits (rule_for r.object_type (given_of (brought r))) r.block.material) x why

abbrev pub seen_registered : PayloadOf → Option RegisteredOf
seen_registered (registered x) = Some x
seen_registered payload = None

abbrev pub register_says : RulesOf → Meaning → RegisterOf → Option RegisteredOf → Why → Bool
register_says rules m r None why = false
register_says rules m r (Some x) why = register_speaks rules (cards_of m.objects) r x why

abbrev pub register_leaves : Meaning → ℤ → RegisterOf → Option RegisteredOf → Meaning
register_leaves m t r None = m
register_leaves m t r (Some x) = with_own m (newborn t x.id r.object_type (brought r)) (Some r.block.material)

abbrev pub register_deed : RegisterOf → Deed
register_deed r = record {
  Shown = RegisteredOf;
  payload = registered;
  seen = seen_registered;
  says = SaysNew;
  subject = on_names r.attributes.names;
  may_lack = false;
  does = λ rules V before t x V' after. Registers rules V t r x V' after;
}

abbrev pub register_judging : (r : RegisterOf) → Judging (register_deed r)
register_judging r = record {
  effect = makes (record { kind = r.object_type; attributes = r.attributes; block = Some r.block });
  speaks = λ rules m before t shown why. register_says rules m r shown why;
  means = λ rules m before t shown why. RegisterReason rules (cards_of m.objects) r shown why;
  leaves = λ m before t shown. register_leaves m t r shown;
  holds = names_new;
}
