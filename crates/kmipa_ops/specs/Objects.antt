-- What an item is about: the identifier that is meant, the object that has it, and the fields that repeat what is known.
use Rattle.std.specs.Prelude.{◌≡◌, ◌&&◌, ◌==◌, ℕ, Bool, false, not, List, Option, Some, None, bytes_eq, slice_get, option_and_then, ◌≢◌}
use Rattle.std.specs.List.{Contains, list_any}
use Rattle.kmipa_attrs.specs.Sets.{NameOf}
use Rattle.kmipa_attrs.specs.ObjectTypes.{type_number}
use Rattle.kmipa_attrs.specs.declared.object_type.ObjectType.{ObjectType}
use Rattle.kmipa_object.specs.Inventory.{Card, Thing, cards, place_of, live}

-- the identifier that an item is about: the one that it names, or else the ID Placeholder (KMIP 2.1, section 6)
abbrev pub meant : Option (List ℕ) → Option (List ℕ) → Option (List ℕ)
meant (Some id) placeholder = Some id
meant None placeholder = placeholder

-- the inventory has this object, at this place, under this identifier
pub record HasObject (V : List Thing) (id : List ℕ) (place : ℕ) (object : Thing) : Type 0 where
  pub named : place_of id (cards V) ≡ Some place
  pub stands : slice_get V place ≡ Some object

-- the object but for its bytes, where an identifier is meant and an object has it
abbrev pub card_meant : List Card → Option (List ℕ) → Option Card
card_meant cs None = None
card_meant cs (Some id) = option_and_then (slice_get cs) (place_of id cs)

-- a field that may be absent says what is expected
abbrev pub Echoes : {A : Type 0} → Option A → A → Type 0
Echoes None expected = Unit {0}
Echoes (Some x) expected = x ≡ expected

-- two fields are equal where both are there
abbrev pub Agree : {A : Type 0} → Option A → Option A → Type 0
Agree None other = Unit {0}
Agree (Some x) other = Echoes other x

-- a field is there, and says something else than is expected
abbrev pub Differs : {A : Type 0} → Option A → A → Type 0
Differs {A} shown expected = (x : A) × (shown ≡ Some x) × (x ≢ expected)

-- two fields are there, and differ
abbrev pub Clashes : {A : Type 0} → Option A → Option A → Type 0
Clashes {A} shown other = (y : A) × (other ≡ Some y) × Differs shown y

-- a field is there, and says something else
abbrev pub is_other : {A : Type 0} → (A → A → Bool) → Option A → A → Bool
is_other same None expected = false
is_other same (Some x) expected = not (same x expected)

-- an identifier is there, and isn't the one meant
abbrev pub is_other_id : Option (List ℕ) → Option (List ℕ) → Bool
is_other_id shown None = false
is_other_id shown (Some id) = is_other bytes_eq shown id

-- two fields are there, and differ
abbrev pub clash : {A : Type 0} → (A → A → Bool) → Option A → Option A → Bool
clash same None other = false
clash same (Some x) other = is_other same other x

abbrev pub same_type : ObjectType → ObjectType → Bool
same_type a b = type_number a == type_number b

-- two names are equal where both their values and their types are
abbrev pub same_name : NameOf → NameOf → Bool
same_name a b = (a.kind == b.kind) && bytes_eq a.value b.value

-- the object has one of these names
abbrev pub HasNameOf : List NameOf → Card → Type 0
HasNameOf names c = (n : NameOf) × Contains names n × Contains c.given.names n

abbrev pub is_named : List NameOf → Card → Bool
is_named names c = list_any (λ (mine : NameOf). list_any (λ (asked : NameOf). same_name asked mine) names) c.given.names

-- an object has one of these names, destroyed or not
abbrev pub any_named : List Card → List NameOf → Bool
any_named cs names = list_any (is_named names) cs

-- a live object has one of these names
abbrev pub any_live_named : List Card → List NameOf → Bool
any_live_named cs names = list_any (λ (c : Card). live c && is_named names c) cs
