-- Complete inventories, in which each live object has bytes.
use Rattle.std.specs.Prelude.{◌≡◌, ◌<◌, ◌*◌, ◌%◌, ◌&&◌, ◌==◌, ℕ, ℤ, pos, negsuc, Bool, true, false, nat_lt, if◌then◌else◌, List, map, length, All, slice_get, bytes_eq, Option, Some, None, is_none}
use Rattle.std.specs.List.{position_from}
use Rattle.std.specs.String.{string_bytes}
use Rattle.kmipa_attrs.specs.Sets.{Attributes, NameOf, attributes_of}
use Rattle.kmipa_attrs.specs.declared.object_type.ObjectType.{ObjectType}
use Rattle.kmipa_attrs.specs.declared.object_type.ObjectType.TheVariants.{SymmetricKey, SecretData}
use Rattle.kmipa_object.specs.Life.{Dates, dates_of}
use Rattle.kmipa_object.specs.declared.object.Object.{Object}
use Rattle.kmipa_object.specs.declared.rule.Rule.{Rule}
use Rattle.kmipa_object.specs.declared.rule.Rule.TheVariants.{Any, Bits}

-- what an object keeps of the attributes that are given to it; of these its dates are apart
pub record Given : Type 0 where
  pub names : List NameOf
  pub algorithm : Option ℕ
  pub length : Option ℤ
  pub mask : Option ℤ

abbrev pub given_of : Attributes → Given
given_of a = record { names = a.names; algorithm = a.algorithm; length = a.length; mask = a.mask }

-- an object but for its bytes
pub record Card : Type 0 where
  pub id : List ℕ
  pub kind : ObjectType
  pub given : Given
  pub dates : Dates

abbrev pub card_of : Object → Card
card_of o = record { id = string_bytes o.id; kind = o.kind; given = given_of (attributes_of o.given); dates = dates_of o.life }

-- an object with its bytes, none where it is destroyed
pub record Thing : Type 0 where
  pub card : Card
  pub bytes : Option (List ℕ)

abbrev pub cards : List Thing → List Card
cards things = map (λ (t : Thing). t.card) things

-- the place of the first object with this identifier
abbrev pub place_of : List ℕ → List Card → Option ℕ
place_of id cs = position_from (λ (c : Card). bytes_eq id c.id) 0 cs

-- without a Destroy Date
abbrev pub live : Card → Bool
live c = is_none c.dates.destroy

-- an AES key (algorithm 3) of a given length has exactly that many bits
abbrev pub key_rule : Option ℕ → Option ℤ → Rule
key_rule (Some algorithm) (Some bits) = if algorithm == 3 then Bits bits else Any
key_rule _ _ = Any

-- what the bytes of an object of this type with these attributes must be
abbrev pub rule_for : ObjectType → Given → Rule
rule_for SymmetricKey given = key_rule given.algorithm given.length
rule_for SecretData given = Any

abbrev pub rule_of : Card → Rule
rule_of c = rule_for c.kind c.given

-- whether a rule admits bytes: any, or a positive number of bits that is eight times the number of bytes (profile)
abbrev pub admits : Rule → List ℕ → Bool
admits Any bytes = true
admits (Bits (pos bits)) bytes = nat_lt 0 bits && (bits == 8 * length bytes)
admits (Bits (negsuc n)) bytes = false

-- whether a rule admits any bytes at all: not where its bits are no positive multiple of 8
abbrev pub possible : Rule → Bool
possible Any = true
possible (Bits (pos bits)) = nat_lt 0 bits && (bits % 8 == 0)
possible (Bits (negsuc n)) = false

-- bytes that a rule admits: numbers below 256
pub record Admitted (rule : Rule) (bytes : List ℕ) : Type 0 where
  pub admitted : admits rule bytes ≡ true
  pub small : All (λ b. b < 256) bytes

abbrev pub PossibleRulesAdmit : Type 0
PossibleRulesAdmit = (rule : Rule) → possible rule ≡ true → (bytes : List ℕ) × Admitted rule bytes

abbrev pub RulesAdmitOnlyIfPossible : Type 0
RulesAdmitOnlyIfPossible = (rule : Rule) (bytes : List ℕ) → admits rule bytes ≡ true → possible rule ≡ true

-- a live object's bytes are there and admitted, a destroyed one's are gone
abbrev pub HasBytes : Bool → Rule → Option (List ℕ) → Type 0
HasBytes true rule (Some bytes) = Admitted rule bytes
HasBytes true rule None = ⊥
HasBytes false rule (Some bytes) = ⊥
HasBytes false rule None = Unit {0}

-- an inventory is listed in the order of arrival, no identifier twice
pub record IsInventory (things : List Thing) : Type 0 where
  pub distinct : (i j : ℕ) (a b : Thing) → slice_get things i ≡ Some a → slice_get things j ≡ Some b → a.card.id ≡ b.card.id → i ≡ j
  pub bytes : (i : ℕ) (a : Thing) → slice_get things i ≡ Some a → HasBytes (live a.card) (rule_of a.card) a.bytes
