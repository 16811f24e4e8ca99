-- New objects: what Create and Register share.
use Rattle.std.specs.Prelude.{◌≡◌, ◌&&◌, ℕ, ℤ, Bool, false, List, [], ◌∷◌, ◌++◌, Option, Some, None, ◌==◌, not, is_some, length, Result, Ok, Err, true}
use Rattle.kmipa_attrs.specs.ObjectTypes.{type_number}
use Rattle.kmipa_attrs.specs.Sets.{Attributes, NameOf}
use Rattle.kmipa_attrs.specs.declared.object_type.ObjectType.{ObjectType}
use Rattle.kmipa_object.specs.Inventory.{Card, Thing, cards, given_of, place_of, rule_of, Admitted, live}
use Rattle.kmipa_object.specs.declared.life.Material.TheVariants.{Secret}
use Rattle.kmipa_object.specs.declared.life.SecretNo.{SecretNo}
use Rattle.kmipa_object.specs.declared.rule.Rule.{Rule}
use Rattle.kmipa_store.specs.Ledger.{changed, Meaning, LedgerState}
use Rattle.kmipa_msgs.specs.Messages.{RulesOf, RegisteredOf}
use Rattle.kmipa_ops.specs.Objects.{Echoes, any_live_named, is_other, HasNameOf, Differs}
use Rattle.kmipa_ops.specs.declared.why.Why.{Why}
use Rattle.kmipa_ops.specs.declared.why.Why.TheVariants.{IdentifierTaken, NameTaken, LengthImpossible, EchoDiffers}
use Rattle.std.specs.List.{Contains}

-- a new object of this type with these attributes, but for its bytes: its Initial Date is the moment
abbrev pub newborn : ℤ → List ℕ → ObjectType → Attributes → Card
newborn t id kind a = record {
  id = id;
  kind = kind;
  given = given_of a;
  dates = record { initial = Some t; activation = a.activation; deactivation = a.deactivation; destroy = None; compromise = None };
}

-- names are declared unique, and a live object has one that is asked for
abbrev pub name_taken : RulesOf → List Card → List NameOf → Bool
name_taken rules cs names = rules.unique_names && any_live_named cs names

-- Create or Register succeeds: a new object with these bytes stands after the others
pub record AddsObject (rules : RulesOf) (V : List Thing) (t : ℤ) (kind : ObjectType) (a : Attributes) (bytes : List ℕ) (x : RegisteredOf) (V' : List Thing) (after : Option (List ℕ)) : Type 0 where
  -- no object has the answered identifier, destroyed or not
  pub free : place_of x.id (cards V) ≡ None
  pub names : name_taken rules (cards V) a.names ≡ false
  pub admitted : Admitted (rule_of (newborn t x.id kind a)) bytes
  pub echo : Echoes x.object_type (type_number kind)
  pub leaves : V' ≡ V ++ record { card = newborn t x.id kind a; bytes = Some bytes } ∷ []
  pub placeholder : after ≡ Some x.id

-- against a Create or a Register that is done, of an object for which there are bytes or aren't
abbrev pub AddingReason : RulesOf → List Card → ObjectType → List NameOf → (HasBytes : Type 0) → RegisteredOf → Why → Type 0
AddingReason rules cs kind names HasBytes x IdentifierTaken = (c : Card) × Contains cs c × (x.id ≡ c.id)
AddingReason rules cs kind names HasBytes x NameTaken = (rules.unique_names ≡ true) × (c : Card) × Contains cs c × (live c ≡ true) × HasNameOf names c
AddingReason rules cs kind names HasBytes x LengthImpossible = HasBytes → ⊥
AddingReason rules cs kind names HasBytes x EchoDiffers = Differs x.object_type (type_number kind)
AddingReason rules cs kind names HasBytes x why = ⊥

-- against a new object of this type and these names, for which there are bytes or aren't
abbrev pub adding_speaks : RulesOf → List Card → ObjectType → List NameOf → Bool → RegisteredOf → Why → Bool
adding_speaks rules cs kind names has_bytes x IdentifierTaken = is_some (place_of x.id cs)
adding_speaks rules cs kind names has_bytes x NameTaken = name_taken rules cs names
adding_speaks rules cs kind names has_bytes x LengthImpossible = not has_bytes
adding_speaks rules cs kind names has_bytes x EchoDiffers = is_other (λ (a b : ℕ). a == b) x.object_type (type_number kind)
adding_speaks rules cs kind names has_bytes x why = false

-- with a new object, and a secret of its own, whose bytes are known or not
abbrev pub with_own : Meaning → Card → Option (List ℕ) → Meaning
with_own m card known = record {
  objects = m.objects ++ record { card = card; material = Secret (record { number = length m.secrets }) } ∷ [];
  secrets = m.secrets ++ record { rule = rule_of card; bytes = known } ∷ [];
  aside = m.aside;
}

-- a new secret, of known bytes or unknown ones, has the next number
abbrev pub MakesOwn : {E : Type 0} → LedgerState → Rule → Option (List ℕ) → Result SecretNo E → LedgerState → Type 0
MakesOwn s rule known (Ok secret) u =
    (secret.number ≡ length s.now.secrets)
    × (u ≡ changed s (record { objects = s.now.objects; secrets = s.now.secrets ++ record { rule = rule; bytes = known } ∷ []; aside = s.now.aside }))
MakesOwn s rule known (Err e) u = u.marks ≡ s.marks

-- the placeholder holds its identifier
abbrev pub names_new : Option (List ℕ) → Option RegisteredOf → Option (List ℕ)
names_new before None = before
names_new before (Some x) = Some x.id
