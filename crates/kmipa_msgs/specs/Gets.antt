-- Get: the request { Unique Identifier? } and its answer { Object Type?, Unique Identifier?, the object } (KMIP 2.1, section 6.1).
use Rattle.std.specs.Prelude.{◌≡◌, ℕ, List, Option, Result, false, [], ◌∷◌, Some}
use Rattle.std.specs.Option.{option_map}
use Rattle.kmipa_ttlv.specs.Tree.{Tree, Trees}
use Rattle.kmipa_ttlv.specs.Tree
use Rattle.kmipa_attrs.specs.Fields.{first, at, as_text, as_enumeration}
use Rattle.kmipa_attrs.specs.ObjectTypes.{type_number, type_of}
use Rattle.kmipa_attrs.specs.Readings.{Optional, IsWrong, NeededFault, needed, optional, both, map_ok}
use Rattle.kmipa_attrs.specs.Tags.{key_wrapping_specification, object_type_tag, unique_identifier}
use Rattle.kmipa_attrs.specs.declared.fields.Field.TheVariants.{There}
use Rattle.kmipa_attrs.specs.declared.object_type.ObjectType
use Rattle.kmipa_msgs.specs.declared.kind.OutsideKind.{OutsideKind}
use Rattle.kmipa_msgs.specs.declared.kind.OutsideKind.TheVariants.{ObjectType, IdentifierForm, Wrapped, Missing}
use Rattle.kmipa_msgs.specs.Kinds.{kind_number}
use Rattle.kmipa_msgs.specs.Messages.{BlockOf, AskedOf, gets, GotOf, PayloadOf, got}
use Rattle.kmipa_msgs.specs.Tables.{Unlisted, MaybeListed, IsThere, maybe_listed, unless_there}
use Rattle.kmipa_msgs.specs.KeyBlocks.{SaysBlock, BlockFault, block_in}
use Rattle.kmipa_msgs.specs.Objects.{shape_in, block_inside}
use Rattle.kmipa_msgs.specs.Row.{Row}
use Rattle.kmipa_msgs.specs.WrittenKeys.{written_object}
use Rattle.kmipa_msgs.specs.WrittenFields.{field}

-- THE REQUEST

abbrev pub SaysGet : Trees → Option (List ℕ) → Type 0
SaysGet ts id = Optional (at as_text unique_identifier ts) id

-- Key Wrapping Specification is looked for here alone
pub data GetFault (ts : Trees) (k : OutsideKind) : Type 0 where
  in_identifier : k ≡ IdentifierForm → IsWrong (at as_text unique_identifier ts) → GetFault ts k
  in_specification : k ≡ Wrapped → IsThere (first key_wrapping_specification ts) → GetFault ts k

abbrev pub get_rows : Trees → Result (Unit {0} × Option (List ℕ)) OutsideKind
get_rows ts = both kind_number (unless_there (first key_wrapping_specification ts) Wrapped) (optional (at as_text unique_identifier ts) IdentifierForm)

unfoldable pub get_in : Trees → Result (Option (List ℕ)) OutsideKind
get_in ts = map_ok (λ p. p.1) (get_rows ts)

-- THE ANSWER

pub record SaysGot (ts : Trees) (g : GotOf) : Type 0 where
  pub object_type : MaybeListed (at as_enumeration object_type_tag ts) type_of g.object_type
  pub id : Optional (at as_text unique_identifier ts) g.id
  pub shape : shape_in ts ≡ There g.shape
  pub block : SaysBlock (block_inside ts) g.block

pub data GotFault (ts : Trees) (k : OutsideKind) : Type 0 where
  in_type : k ≡ Missing → IsWrong (at as_enumeration object_type_tag ts) → GotFault ts k
  in_type_number : k ≡ ObjectType → Unlisted (at as_enumeration object_type_tag ts) type_of → GotFault ts k
  in_shown_identifier : k ≡ IdentifierForm → IsWrong (at as_text unique_identifier ts) → GotFault ts k
  in_object : NeededFault (shape_in ts) Missing Missing k → GotFault ts k
  in_block : BlockFault (block_inside ts) k → GotFault ts k

abbrev pub got_rows : Trees → Result (((Option ObjectType.ObjectType × ObjectType.ObjectType) × Option (List ℕ)) × BlockOf) OutsideKind
got_rows ts =
    both kind_number
    (both kind_number (both kind_number (maybe_listed (at as_enumeration object_type_tag ts) type_of Missing ObjectType) (needed (shape_in ts) Missing Missing)) (optional (at as_text unique_identifier ts) IdentifierForm))
    (block_in (block_inside ts))

abbrev pub got_at : ((Option ObjectType.ObjectType × ObjectType.ObjectType) × Option (List ℕ)) × BlockOf → GotOf
got_at p = record { object_type = p.0.0.0; id = p.0.1; shape = p.0.0.1; block = p.1 }

unfoldable pub got_in : Trees → Result GotOf OutsideKind
got_in ts = map_ok got_at (got_rows ts)

-- AS IT IS WRITTEN

abbrev pub got_fields : GotOf → List (Option Tree)
got_fields g =
    field Tree.enumeration object_type_tag (option_map type_number g.object_type) ∷
    field Tree.text unique_identifier g.id ∷
    Some (written_object g.shape g.block) ∷
    []

-- ITS ROW

abbrev pub AsksGet : Trees → AskedOf → Type 0
AsksGet ts (gets x) = SaysGet ts x
AsksGet ts _ = ⊥

abbrev pub AnswersGet : Trees → PayloadOf → Type 0
AnswersGet ts (got x) = SaysGot ts x
AnswersGet ts _ = ⊥

abbrev pub get_row : Row
get_row = record {
  SaysAsked = AsksGet;
  AskedFault = λ ts k. GetFault ts k;
  asked_in = λ ts. map_ok gets (get_in ts);
  SaysDone = AnswersGet;
  DoneFault = λ ts k. GotFault ts k;
  done_in = λ ts. map_ok got (got_in ts);
  may_be_bare = false;
  NeedsPayload = ⊥;
}
