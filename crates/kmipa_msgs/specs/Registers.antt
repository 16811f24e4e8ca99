-- Register: the request { Object Type, Attributes?, the object } and its answer { Object Type?, Unique Identifier } (KMIP 2.1, section 6.1).
use Rattle.std.specs.Prelude.{◌≡◌, ℕ, Bool, true, false, ◌==◌, ◌&&◌, List, Option, Some, Result, [], ◌∷◌}
use Rattle.std.specs.Ordering.{int_eq}
use Rattle.kmipa_ttlv.specs.Tree.{Tree, Trees}
use Rattle.kmipa_ttlv.specs.Tree
use Rattle.kmipa_attrs.specs.Fields.{at, inside, as_structure, as_text, as_enumeration}
use Rattle.kmipa_attrs.specs.ObjectTypes.{type_number, type_of}
use Rattle.kmipa_attrs.specs.Readings.{Optional, IsWrong, NeededFault, needed, optional, both, map_ok, passing}
use Rattle.kmipa_attrs.specs.Sets.{Attributes}
use Rattle.kmipa_attrs.specs.Tags.{object_type_tag, unique_identifier, attributes_tag}
use Rattle.kmipa_attrs.specs.declared.fields.Field.TheVariants.{There}
use Rattle.kmipa_attrs.specs.declared.object_type.ObjectType
use Rattle.kmipa_attrs.specs.declared.side.Side.TheVariants.{Client}
use Rattle.kmipa_msgs.specs.declared.kind.OutsideKind.{OutsideKind}
use Rattle.kmipa_msgs.specs.declared.kind.OutsideKind.TheVariants.{ObjectType, IdentifierForm, Missing, Disagree}
use Rattle.kmipa_msgs.specs.Kinds.{kind_number}
use Rattle.kmipa_msgs.specs.Messages.{BlockOf, RegisterOf, AskedOf, registers, RegisteredOf, PayloadOf, registered}
use Rattle.kmipa_msgs.specs.Tables.{Listed, Unlisted, listed, unless_unlisted}
use Rattle.kmipa_msgs.specs.KeyBlocks.{SaysBlock, BlockFault, block_in}
use Rattle.kmipa_msgs.specs.Objects.{shape_in, block_inside}
use Rattle.kmipa_msgs.specs.AttributeFields.{SaysGiven, GivenFault, agree, given_in}
use Rattle.kmipa_msgs.specs.Row.{Row}
use Rattle.kmipa_msgs.specs.WrittenKeys.{written_object}
use Rattle.kmipa_msgs.specs.WrittenFields.{field, written_attributes}

-- THE REQUEST

-- the parts of a Register, before they are compared: the type that the payload tells and that of the object's tag
pub record BroughtOf : Type 0 where
  pub object_type : ObjectType.ObjectType
  pub shape : ObjectType.ObjectType
  pub attributes : Attributes
  pub block : BlockOf

pub record SaysBrought (ts : Trees) (b : BroughtOf) : Type 0 where
  pub object_type : Listed (at as_enumeration object_type_tag ts) type_of b.object_type
  pub shape : shape_in ts ≡ There b.shape
  pub attributes : SaysGiven (at as_structure attributes_tag ts) b.attributes
  pub block : SaysBlock (block_inside ts) b.block

-- Object Type of payload, object and attribute are equal, and so are algorithm and length of Attributes and Key Block
abbrev pub agrees : BroughtOf → Bool
agrees b =
    (type_number b.object_type == type_number b.shape)
    && agree (λ m n. m == n) b.attributes.object_type (Some (type_number b.object_type))
    && agree (λ m n. m == n) b.attributes.algorithm b.block.algorithm
    && agree int_eq b.attributes.length b.block.length

abbrev pub brought_by : RegisterOf → BroughtOf
brought_by r = record { object_type = r.object_type; shape = r.object_type; attributes = r.attributes; block = r.block }

pub record SaysRegister (ts : Trees) (r : RegisterOf) : Type 0 where
  pub brought : SaysBrought ts (brought_by r)
  pub agrees : agrees (brought_by r) ≡ true

pub record Disagreeing (ts : Trees) : Type 0 where
  pub brought : BroughtOf
  pub said : SaysBrought ts brought
  pub differ : agrees brought ≡ false

-- a row for each field; the Object Type attribute is the first child with its tag
pub data RegisterFault (ts : Trees) (k : OutsideKind) : Type 0 where
  in_object_type : NeededFault (at as_enumeration object_type_tag ts) Missing Missing k → RegisterFault ts k
  in_type_number : k ≡ ObjectType → Unlisted (at as_enumeration object_type_tag ts) type_of → RegisterFault ts k
  in_attributes : GivenFault Client (at as_structure attributes_tag ts) k → RegisterFault ts k
  in_attribute_type : k ≡ ObjectType → Unlisted (at as_enumeration object_type_tag (inside attributes_tag ts)) type_of → RegisterFault ts k
  in_object : NeededFault (shape_in ts) Missing Missing k → RegisterFault ts k
  in_block : BlockFault (block_inside ts) k → RegisterFault ts k
  in_brought : k ≡ Disagree → Disagreeing ts → RegisterFault ts k

-- the reading
abbrev pub brought_rows : Trees → Result ((((ObjectType.ObjectType × ObjectType.ObjectType) × Unit {0}) × BlockOf) × Attributes) OutsideKind
brought_rows ts =
    both kind_number
    (both kind_number
    (both kind_number (both kind_number (listed (at as_enumeration object_type_tag ts) type_of Missing ObjectType) (needed (shape_in ts) Missing Missing)) (unless_unlisted (at as_enumeration object_type_tag (inside attributes_tag ts)) type_of ObjectType))
    (block_in (block_inside ts)))
    (given_in Client (at as_structure attributes_tag ts))

abbrev pub brought_at : (((ObjectType.ObjectType × ObjectType.ObjectType) × Unit {0}) × BlockOf) × Attributes → BroughtOf
brought_at p = record { object_type = p.0.0.0.0; shape = p.0.0.0.1; attributes = p.1; block = p.0.1 }

abbrev pub register_at : BroughtOf → RegisterOf
register_at b = record { object_type = b.object_type; attributes = b.attributes; block = b.block }

unfoldable pub brought_in : Trees → Result BroughtOf OutsideKind
brought_in ts = map_ok brought_at (brought_rows ts)

unfoldable pub register_in : Trees → Result RegisterOf OutsideKind
register_in ts = map_ok register_at (passing agrees Disagree (brought_in ts))

-- THE ANSWER; its Object Type may be any number

pub record SaysRegistered (ts : Trees) (r : RegisteredOf) : Type 0 where
  pub object_type : Optional (at as_enumeration object_type_tag ts) r.object_type
  pub id : at as_text unique_identifier ts ≡ There r.id

pub data RegisteredFault (ts : Trees) (k : OutsideKind) : Type 0 where
  in_type : k ≡ Missing → IsWrong (at as_enumeration object_type_tag ts) → RegisteredFault ts k
  in_identifier : NeededFault (at as_text unique_identifier ts) Missing IdentifierForm k → RegisteredFault ts k

abbrev pub registered_rows : Trees → Result (Option ℕ × List ℕ) OutsideKind
registered_rows ts = both kind_number (optional (at as_enumeration object_type_tag ts) Missing) (needed (at as_text unique_identifier ts) Missing IdentifierForm)

abbrev pub registered_at : Option ℕ × List ℕ → RegisteredOf
registered_at p = record { object_type = p.0; id = p.1 }

unfoldable pub registered_in : Trees → Result RegisteredOf OutsideKind
registered_in ts = map_ok registered_at (registered_rows ts)

-- AS THEY ARE WRITTEN

-- the algorithm and the length of a key stand in its attributes, in its block or in both, as they are given
abbrev pub register_fields : RegisterOf → List (Option Tree)
register_fields r =
    field Tree.enumeration object_type_tag (Some (type_number r.object_type)) ∷
    Some (written_attributes r.attributes) ∷
    Some (written_object r.object_type r.block) ∷
    []

abbrev pub registered_fields : RegisteredOf → List (Option Tree)
registered_fields r = field Tree.enumeration object_type_tag r.object_type ∷ field Tree.text unique_identifier (Some r.id) ∷ []

-- ITS ROW

abbrev pub AsksRegister : Trees → AskedOf → Type 0
AsksRegister ts (registers x) = SaysRegister ts x
AsksRegister ts _ = ⊥

abbrev pub AnswersRegister : Trees → PayloadOf → Type 0
AnswersRegister ts (registered x) = SaysRegistered ts x
AnswersRegister ts _ = ⊥

abbrev pub register_row : Row
register_row = record {
  SaysAsked = AsksRegister;
  AskedFault = λ ts k. RegisterFault ts k;
  asked_in = λ ts. map_ok registers (register_in ts);
  SaysDone = AnswersRegister;
  DoneFault = λ ts k. RegisteredFault ts k;
  done_in = λ ts. map_ok registered (registered_in ts);
  may_be_bare = false;
  NeedsPayload = Unit {0};
}
