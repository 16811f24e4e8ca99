-- Locate: the request { Maximum Items?, Attributes? } and its answer { any number of Unique Identifiers } (KMIP 2.1, section 6.1, Locate).
use Rattle.std.specs.Prelude.{◌≡◌, ℕ, Bool, true, false, ◌==◌, ◌||◌, not, map, List, [], ◌∷◌, Option, Some, None, Result, Ok, Err}
use Rattle.kmipa_ttlv.specs.Tree.{Tree, Trees, structure, none, more}
use Rattle.kmipa_ttlv.specs.Tree
use Rattle.kmipa_attrs.specs.Attributes.{each, SomeWrong}
use Rattle.kmipa_attrs.specs.Fields.{tag_of, at, inside, value_in, as_structure, as_text, as_integer, as_enumeration}
use Rattle.kmipa_attrs.specs.Filters.{FilterOf, is_repeated, SaysFilter, FilterFault, filter_in}
use Rattle.kmipa_attrs.specs.ObjectTypes.{type_of}
use Rattle.kmipa_attrs.specs.Readings.{IsWrong, both, map_ok}
use Rattle.kmipa_attrs.specs.Sets.{Attributes}
use Rattle.kmipa_attrs.specs.Tags.{maximum_items, object_type_tag, unique_identifier, attributes_tag}
use Rattle.kmipa_attrs.specs.declared.fault.AttrFault.{AttrFault}
use Rattle.kmipa_msgs.specs.declared.kind.OutsideKind.{OutsideKind}
use Rattle.kmipa_msgs.specs.declared.kind.OutsideKind.TheVariants.{ObjectType, IdentifierForm, Missing, Attribute}
use Rattle.kmipa_msgs.specs.Kinds.{kind_number}
use Rattle.kmipa_msgs.specs.Messages.{AskedOf, locates, PayloadOf, located}
use Rattle.kmipa_msgs.specs.Row.{Row}
use Rattle.kmipa_msgs.specs.Tables.{Unlisted, unless_wrong, unless_unlisted}
use Rattle.kmipa_msgs.specs.WrittenFields.{field, written_attributes}

-- THE REQUEST

-- neither Maximum Items nor Attributes
abbrev pub is_unknown : ℕ → Bool
is_unknown tag = not ((tag == maximum_items) || (tag == attributes_tag))

unfoldable pub some_unknown : Trees → Bool
some_unknown none = false
some_unknown (more t ts) = is_unknown (tag_of t) || some_unknown ts

-- there is an item beside one Maximum Items and one Attributes; a second of either is one
abbrev pub has_unknown : Trees → Bool
has_unknown ts = some_unknown ts || (is_repeated maximum_items ts || is_repeated attributes_tag ts)

-- the filter that the children say; absent Attributes ask for nothing
abbrev pub SaysLocate : Trees → FilterOf → Type 0
SaysLocate ts q = SaysFilter (inside attributes_tag ts) (value_in (at as_integer maximum_items ts)) (has_unknown ts) q

-- a row for each field; the Object Type filter is the first child with its tag
pub data LocateFault (ts : Trees) (k : OutsideKind) : Type 0 where
  in_maximum : k ≡ Missing → IsWrong (at as_integer maximum_items ts) → LocateFault ts k
  in_attributes : k ≡ Missing → IsWrong (at as_structure attributes_tag ts) → LocateFault ts k
  in_type_number : k ≡ ObjectType → Unlisted (at as_enumeration object_type_tag (inside attributes_tag ts)) type_of → LocateFault ts k
  in_filter : (reported : AttrFault) → k ≡ Attribute → FilterFault (inside attributes_tag ts) reported → LocateFault ts k

-- the reading
abbrev pub filter_kind : Result FilterOf AttrFault → Result FilterOf OutsideKind
filter_kind (Ok q) = Ok q
filter_kind (Err fault) = Err Attribute

abbrev pub shape_rows : Trees → Result ((Unit {0} × Unit {0}) × Unit {0}) OutsideKind
shape_rows ts =
    both kind_number
    (both kind_number (unless_wrong (at as_integer maximum_items ts) Missing) (unless_wrong (at as_structure attributes_tag ts) Missing))
    (unless_unlisted (at as_enumeration object_type_tag (inside attributes_tag ts)) type_of ObjectType)

abbrev pub sought_in : Trees → Result FilterOf OutsideKind
sought_in ts = filter_kind (filter_in (value_in (at as_integer maximum_items ts)) (has_unknown ts) (inside attributes_tag ts))

unfoldable pub locate_in : Trees → Result FilterOf OutsideKind
locate_in ts = map_ok (λ p. p.1) (both kind_number (shape_rows ts) (sought_in ts))

-- THE ANSWER

-- each identifier, in their order
abbrev pub SaysLocated : Trees → List (List ℕ) → Type 0
SaysLocated ts ids = each as_text unique_identifier ts ≡ map Some ids

abbrev pub LocatedFault : Trees → OutsideKind → Type 0
LocatedFault ts k = (k ≡ IdentifierForm) × SomeWrong (each as_text unique_identifier ts)

-- the reading
abbrev pub all_held : {A K : Type 0} → K → List (Option A) → Result (List A) K
all_held k [] = Ok []
all_held k (None ∷ held) = Err k
all_held k (Some x ∷ held) = map_ok (λ xs. x ∷ xs) (all_held k held)

unfoldable pub located_in : Trees → Result (List (List ℕ)) OutsideKind
located_in ts = all_held IdentifierForm (each as_text unique_identifier ts)

-- AS THEY ARE WRITTEN

-- the attributes by which a filter is written
abbrev pub sought_attributes : FilterOf → Attributes
sought_attributes q = record {
  names = q.names;
  object_type = q.object_type;
  algorithm = q.algorithm;
  length = q.length;
  mask = None;
  state = q.state;
  initial = None;
  activation = None;
  deactivation = None;
  destroy = None;
  compromise = None;
}

abbrev pub locate_fields : FilterOf → List (Option Tree)
locate_fields q = field Tree.integer maximum_items q.maximum ∷ Some (written_attributes (sought_attributes q)) ∷ []

abbrev pub located_fields : List (List ℕ) → List (Option Tree)
located_fields ids = map (λ id. field Tree.text unique_identifier (Some id)) ids

-- ITS ROW

abbrev pub AsksLocate : Trees → AskedOf → Type 0
AsksLocate ts (locates x) = SaysLocate ts x
AsksLocate ts _ = ⊥

abbrev pub AnswersLocate : Trees → PayloadOf → Type 0
AnswersLocate ts (located x) = SaysLocated ts x
AnswersLocate ts _ = ⊥

abbrev pub locate_row : Row
locate_row = record {
  SaysAsked = AsksLocate;
  AskedFault = λ ts k. LocateFault ts k;
  asked_in = λ ts. map_ok locates (locate_in ts);
  SaysDone = AnswersLocate;
  DoneFault = λ ts k. LocatedFault ts k;
  done_in = λ ts. map_ok located (located_in ts);
  may_be_bare = true;
  NeedsPayload = Unit {0};
}
