-- Get Attributes: the request { Unique Identifier?, Attribute References } and its answer { Unique Identifier?, Attributes? }
-- (KMIP 2.1, section 6.1).
use Rattle.std.specs.Prelude.{◌≡◌, ℕ, Bool, false, ◌==◌, ◌&&◌, ◌||◌, not, nat_lt, cond, is_some, is_none, filter_map, length, List, Option, None, Result, true, [], ◌∷◌, Some, map}
use Rattle.kmipa_ttlv.specs.Tree.{Tree, Trees, none, more}
use Rattle.kmipa_ttlv.specs.Tree
use Rattle.kmipa_attrs.specs.Fields.{tag_of, first, every, at, inside, as_structure, as_text, as_enumeration}
use Rattle.kmipa_attrs.specs.ObjectTypes.{type_of}
use Rattle.kmipa_attrs.specs.Readings.{Optional, IsWrong, both, map_ok}
use Rattle.kmipa_attrs.specs.Sets.{Attributes}
use Rattle.kmipa_attrs.specs.Tags.{object_type_tag, unique_identifier, attributes_tag, attribute_reference}
use Rattle.kmipa_attrs.specs.declared.side.Side.TheVariants.{Server}
use Rattle.kmipa_msgs.specs.declared.kind.OutsideKind.{OutsideKind}
use Rattle.kmipa_msgs.specs.declared.kind.OutsideKind.TheVariants.{ObjectType, IdentifierForm}
use Rattle.kmipa_msgs.specs.Kinds.{kind_number}
use Rattle.kmipa_msgs.specs.Messages.{GetAttributesOf, AskedOf, gets_attributes, GotAttributesOf, PayloadOf, got_attributes}
use Rattle.kmipa_msgs.specs.Tables.{Unlisted, unless_unlisted}
use Rattle.kmipa_msgs.specs.Identifiers.{IdentifierFault, identifier_in}
use Rattle.kmipa_msgs.specs.AttributeFields.{SaysGiven, GivenFault, given_in}
use Rattle.kmipa_msgs.specs.Row.{Row}
use Rattle.kmipa_msgs.specs.WrittenFields.{field, written_attributes}

-- THE REQUEST

-- the tags that the Attribute References name as Enumerations, in their order
unfoldable pub references : Trees → List ℕ
references ts = filter_map as_enumeration (every attribute_reference ts)

-- there is an Attribute Reference, of any type
abbrev pub is_selective : Trees → Bool
is_selective ts = is_some (first attribute_reference ts)

-- the tag that an Attribute Reference names as an Enumeration
abbrev pub as_reference : Tree → Option ℕ
as_reference t = cond (tag_of t == attribute_reference) (as_enumeration t) None

-- neither an identifier nor such a reference
abbrev pub is_other : Tree → Bool
is_other t = not (tag_of t == unique_identifier) && is_none (as_reference t)

unfoldable pub some_other : Trees → Bool
some_other none = false
some_other (more t ts) = is_other t || some_other ts

-- there is an item beside the identifier and such references; a second identifier is one
abbrev pub has_others : Trees → Bool
has_others ts = some_other ts || nat_lt 1 (length (every unique_identifier ts))

pub record SaysGetAttributes (ts : Trees) (g : GetAttributesOf) : Type 0 where
  pub id : Optional (at as_text unique_identifier ts) g.id
  pub references : g.references ≡ references ts
  pub is_selective : g.is_selective ≡ is_selective ts
  pub has_others : g.has_others ≡ has_others ts

abbrev pub GetAttributesFault : Trees → OutsideKind → Type 0
GetAttributesFault ts k = IdentifierFault ts k

-- the reading
abbrev pub get_attributes_at : Trees → Option (List ℕ) → GetAttributesOf
get_attributes_at ts id = record { id = id; references = references ts; is_selective = is_selective ts; has_others = has_others ts }

unfoldable pub get_attributes_in : Trees → Result GetAttributesOf OutsideKind
get_attributes_in ts = map_ok (get_attributes_at ts) (identifier_in ts)

-- THE ANSWER

pub record SaysGotAttributes (ts : Trees) (g : GotAttributesOf) : Type 0 where
  pub id : Optional (at as_text unique_identifier ts) g.id
  pub attributes : SaysGiven (at as_structure attributes_tag ts) g.attributes

-- the Object Type attribute is the first child with its tag
pub data GotAttributesFault (ts : Trees) (k : OutsideKind) : Type 0 where
  in_identifier : k ≡ IdentifierForm → IsWrong (at as_text unique_identifier ts) → GotAttributesFault ts k
  in_attributes : GivenFault Server (at as_structure attributes_tag ts) k → GotAttributesFault ts k
  in_attribute_type : k ≡ ObjectType → Unlisted (at as_enumeration object_type_tag (inside attributes_tag ts)) type_of → GotAttributesFault ts k

-- the reading
abbrev pub got_attributes_rows : Trees → Result ((Unit {0} × Option (List ℕ)) × Attributes) OutsideKind
got_attributes_rows ts =
    both kind_number
    (both kind_number (unless_unlisted (at as_enumeration object_type_tag (inside attributes_tag ts)) type_of ObjectType) (identifier_in ts))
    (given_in Server (at as_structure attributes_tag ts))

abbrev pub got_attributes_at : (Unit {0} × Option (List ℕ)) × Attributes → GotAttributesOf
got_attributes_at p = record { id = p.0.1; attributes = p.1 }

unfoldable pub got_attributes_in : Trees → Result GotAttributesOf OutsideKind
got_attributes_in ts = map_ok got_attributes_at (got_attributes_rows ts)

-- AS THEY ARE WRITTEN

-- Attribute References as Enumerations
abbrev pub reference_fields : List ℕ → List (Option Tree)
reference_fields tags = map (λ tag. field Tree.enumeration attribute_reference (Some tag)) tags

abbrev pub get_attributes_fields : GetAttributesOf → List (Option Tree)
get_attributes_fields g = field Tree.text unique_identifier g.id ∷ reference_fields g.references

abbrev pub got_attributes_fields : GotAttributesOf → List (Option Tree)
got_attributes_fields g = field Tree.text unique_identifier g.id ∷ Some (written_attributes g.attributes) ∷ []

-- ITS ROW

abbrev pub AsksGetAttributes : Trees → AskedOf → Type 0
AsksGetAttributes ts (gets_attributes x) = SaysGetAttributes ts x
AsksGetAttributes ts _ = ⊥

abbrev pub AnswersGetAttributes : Trees → PayloadOf → Type 0
AnswersGetAttributes ts (got_attributes x) = SaysGotAttributes ts x
AnswersGetAttributes ts _ = ⊥

abbrev pub get_attributes_row : Row
get_attributes_row = record {
  SaysAsked = AsksGetAttributes;
  AskedFault = λ ts k. GetAttributesFault ts k;
  asked_in = λ ts. map_ok gets_attributes (get_attributes_in ts);
  SaysDone = AnswersGetAttributes;
  DoneFault = λ ts k. GotAttributesFault ts k;
  done_in = λ ts. map_ok got_attributes (got_attributes_in ts);
  may_be_bare = true;
  NeedsPayload = ⊥;
}
