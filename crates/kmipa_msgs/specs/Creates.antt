-- Create: the request { Object Type, Attributes } (KMIP 2.1, section 6.1), of a Symmetric Key with an algorithm, a length and a usage mask.
-- Its answer is that of a Register.
use Rattle.std.specs.Prelude.{◌≡◌, ℕ, Bool, true, false, ◌==◌, if◌then◌else◌, Option, Some, None, Result, List, [], ◌∷◌}
use Rattle.kmipa_ttlv.specs.Tree.{Tree, Trees}
use Rattle.kmipa_ttlv.specs.Tree
use Rattle.kmipa_attrs.specs.Fields.{first, at, inside, as_structure, as_enumeration}
use Rattle.kmipa_attrs.specs.ObjectTypes.{type_number, type_of}
use Rattle.kmipa_attrs.specs.Readings.{NeededFault, both, map_ok, passing}
use Rattle.kmipa_attrs.specs.Sets.{Attributes}
use Rattle.kmipa_attrs.specs.Tags.{cryptographic_algorithm, cryptographic_length, cryptographic_usage_mask, object_type_tag, attributes_tag}
use Rattle.kmipa_attrs.specs.declared.object_type.ObjectType
use Rattle.kmipa_attrs.specs.declared.object_type.ObjectType.TheVariants.{SymmetricKey}
use Rattle.kmipa_attrs.specs.declared.side.Side.TheVariants.{Client}
use Rattle.kmipa_msgs.specs.declared.kind.OutsideKind.{OutsideKind}
use Rattle.kmipa_msgs.specs.declared.kind.OutsideKind.TheVariants.{ObjectType, Missing, Disagree}
use Rattle.kmipa_msgs.specs.Kinds.{kind_number}
use Rattle.kmipa_msgs.specs.Tables.{Listed, Unlisted, IsThere, listed, unless_absent, unless_unlisted}
use Rattle.kmipa_msgs.specs.AttributeFields.{SaysGiven, GivenFault, agree, given_in}
use Rattle.kmipa_msgs.specs.Messages.{AskedOf, creates, PayloadOf, created}
use Rattle.kmipa_msgs.specs.Registers.{SaysRegistered, RegisteredFault, registered_in}
use Rattle.kmipa_msgs.specs.Row.{Row}
use Rattle.kmipa_msgs.specs.WrittenFields.{field, written_attributes}

-- the type of what is created
abbrev pub created_of : ℕ → Option ObjectType.ObjectType
created_of n = if n == 2 then Some SymmetricKey else None

-- before the type is compared; Attributes that have an algorithm are there
pub record SaysNewKey (ts : Trees) (a : Attributes) : Type 0 where
  pub object_type : Listed (at as_enumeration object_type_tag ts) created_of SymmetricKey
  pub attributes : SaysGiven (at as_structure attributes_tag ts) a
  pub algorithm : IsThere (first cryptographic_algorithm (inside attributes_tag ts))
  pub length : IsThere (first cryptographic_length (inside attributes_tag ts))
  pub mask : IsThere (first cryptographic_usage_mask (inside attributes_tag ts))

-- an Object Type attribute says the type of the payload
abbrev pub is_of_key : Attributes → Bool
is_of_key a = agree (λ m n. m == n) a.object_type (Some (type_number SymmetricKey))

pub record SaysCreate (ts : Trees) (a : Attributes) : Type 0 where
  pub key : SaysNewKey ts a
  pub agrees : is_of_key a ≡ true

pub record DisagreeingCreate (ts : Trees) : Type 0 where
  pub attributes : Attributes
  pub said : SaysNewKey ts attributes
  pub differ : is_of_key attributes ≡ false

-- a row for each field; an algorithm, a length or a mask of another type is at fault in the attributes alone
pub data CreateFault (ts : Trees) (k : OutsideKind) : Type 0 where
  in_object_type : NeededFault (at as_enumeration object_type_tag ts) Missing Missing k → CreateFault ts k
  in_type_number : k ≡ ObjectType → Unlisted (at as_enumeration object_type_tag ts) created_of → CreateFault ts k
  in_attributes : GivenFault Client (at as_structure attributes_tag ts) k → CreateFault ts k
  in_attribute_type : k ≡ ObjectType → Unlisted (at as_enumeration object_type_tag (inside attributes_tag ts)) type_of → CreateFault ts k
  in_algorithm : k ≡ Missing → first cryptographic_algorithm (inside attributes_tag ts) ≡ None → CreateFault ts k
  in_length : k ≡ Missing → first cryptographic_length (inside attributes_tag ts) ≡ None → CreateFault ts k
  in_mask : k ≡ Missing → first cryptographic_usage_mask (inside attributes_tag ts) ≡ None → CreateFault ts k
  in_agreement : k ≡ Disagree → DisagreeingCreate ts → CreateFault ts k

-- the reading
abbrev pub described_rows : Trees → Result ((Unit {0} × Unit {0}) × Unit {0}) OutsideKind
described_rows us =
    both kind_number
    (both kind_number (unless_absent (first cryptographic_algorithm us) Missing) (unless_absent (first cryptographic_length us) Missing))
    (unless_absent (first cryptographic_usage_mask us) Missing)

abbrev pub types_rows : Trees → Result (ObjectType.ObjectType × Unit {0}) OutsideKind
types_rows ts = both kind_number (listed (at as_enumeration object_type_tag ts) created_of Missing ObjectType) (unless_unlisted (at as_enumeration object_type_tag (inside attributes_tag ts)) type_of ObjectType)

abbrev pub new_key_rows : Trees → Result (((ObjectType.ObjectType × Unit {0}) × ((Unit {0} × Unit {0}) × Unit {0})) × Attributes) OutsideKind
new_key_rows ts = both kind_number (both kind_number (types_rows ts) (described_rows (inside attributes_tag ts))) (given_in Client (at as_structure attributes_tag ts))

unfoldable pub new_key_in : Trees → Result Attributes OutsideKind
new_key_in ts = map_ok (λ p. p.1) (new_key_rows ts)

unfoldable pub create_in : Trees → Result Attributes OutsideKind
create_in ts = passing is_of_key Disagree (new_key_in ts)

-- AS IT IS WRITTEN

abbrev pub create_fields : Attributes → List (Option Tree)
create_fields a = field Tree.enumeration object_type_tag (Some (type_number SymmetricKey)) ∷ Some (written_attributes a) ∷ []

-- ITS ROW

abbrev pub AsksCreate : Trees → AskedOf → Type 0
AsksCreate ts (creates x) = SaysCreate ts x
AsksCreate ts _ = ⊥

abbrev pub AnswersCreate : Trees → PayloadOf → Type 0
AnswersCreate ts (created x) = SaysRegistered ts x
AnswersCreate ts _ = ⊥

abbrev pub create_row : Row
create_row = record {
  SaysAsked = AsksCreate;
  AskedFault = λ ts k. CreateFault ts k;
  asked_in = λ ts. map_ok creates (create_in ts);
  SaysDone = AnswersCreate;
  DoneFault = λ ts k. RegisteredFault ts k;
  done_in = λ ts. map_ok created (registered_in ts);
  may_be_bare = false;
  NeedsPayload = Unit {0};
}
