-- Where a payload is outside for a kind, a demand of this kind fails.
use Rattle.std.proofs.Common.{◌≡◌, ◌≢◌, ◌⊎◌, ◌≤◌, ℕ, Bool, true, false, is_some, length, List, [], ◌∷◌, ◌++◌, Option, Some, None, refl, sym, subst, inl, inr, option_to_list}
use Rattle.kmipa_ttlv.specs.Tree.{Tree, Trees, none}
use Rattle.kmipa_attrs.specs.Attributes.{AttributesFault, ClientFault, NamesFault, SingleFault, SomeWrong, TypeFault, each}
use Rattle.kmipa_attrs.specs.Attributes.{AttributesFault as attribute}
use Rattle.kmipa_attrs.specs.Names.{as_name}
use Rattle.kmipa_attrs.specs.Filters.{FilterFault}
use Rattle.kmipa_attrs.specs.Filters.{FilterFault as filter}
use Rattle.kmipa_attrs.specs.Fields.{first, every, at, inside, in_field, typed, as_structure, as_integer, as_enumeration, as_text, as_bytes, as_date}
use Rattle.kmipa_attrs.specs.ObjectTypes.{type_of}
use Rattle.kmipa_attrs.specs.Readings.{IsWrong, NeededFault}
use Rattle.kmipa_attrs.specs.Tags.{activation_date, attributes_tag, compromise_date, cryptographic_algorithm, cryptographic_length, cryptographic_usage_mask, deactivation_date, destroy_date, initial_date, key_format_type, key_material, key_value, key_wrapping_data, key_wrapping_specification, maximum_items, name_tag, object_type_tag, revocation_reason, revocation_reason_code, state_tag, unique_identifier}
use Rattle.kmipa_attrs.specs.declared.fault.AttrFault.{AttrFault}
use Rattle.kmipa_attrs.specs.declared.fault.AttrFault.TheVariants.{WrongType, Repeated, NotForClients, Memory}
use Rattle.kmipa_attrs.specs.declared.fields.Field.{Field}
use Rattle.kmipa_attrs.specs.declared.fields.Field.TheVariants.{Absent, Wrong, There}
use Rattle.kmipa_attrs.specs.declared.side.Side.{Side}
use Rattle.kmipa_attrs.specs.declared.side.Side.TheVariants.{Client, Server}
use Rattle.kmipa_msgs.specs.declared.kind.OutsideKind.{OutsideKind}
use Rattle.kmipa_msgs.specs.declared.kind.OutsideKind.TheVariants.{Missing, Attribute, Format, IdentifierForm, Disagree}
use Rattle.kmipa_msgs.specs.declared.operation.Operation.{Operation}
use Rattle.kmipa_msgs.specs.declared.operation.Operation.TheVariants as operation
use Rattle.kmipa_msgs.specs.AttributeFields.{GivenFault}
use Rattle.kmipa_msgs.specs.Asks.{AskedFault}
use Rattle.kmipa_msgs.specs.Payloads.{DoneFault}
use Rattle.kmipa_msgs.specs.Creates.{CreateFault, DisagreeingCreate, created_of}
use Rattle.kmipa_msgs.specs.Creates.{CreateFault as create}
use Rattle.kmipa_msgs.specs.Registers.{Disagreeing, RegisterFault, RegisteredFault}
use Rattle.kmipa_msgs.specs.Registers.{RegisterFault as register}
use Rattle.kmipa_msgs.specs.Registers.{RegisteredFault as registered}
use Rattle.kmipa_msgs.specs.Locates.{LocateFault, LocatedFault}
use Rattle.kmipa_msgs.specs.Locates.{LocateFault as locate}
use Rattle.kmipa_msgs.specs.Gets.{GetFault, GotFault}
use Rattle.kmipa_msgs.specs.Gets.{GetFault as get}
use Rattle.kmipa_msgs.specs.Gets.{GotFault as got}
use Rattle.kmipa_msgs.specs.GetsAttributes.{GotAttributesFault}
use Rattle.kmipa_msgs.specs.GetsAttributes.{GotAttributesFault as got_attributes}
use Rattle.kmipa_msgs.specs.Identifiers.{IdentifierFault}
use Rattle.kmipa_msgs.specs.KeyBlocks.{BlockFault}
use Rattle.kmipa_msgs.specs.KeyBlocks.{BlockFault as block}
use Rattle.kmipa_msgs.specs.Numbers.{format_of}
use Rattle.kmipa_msgs.specs.Objects.{object_in, block_inside, as_shape, shape_in}
use Rattle.kmipa_msgs.specs.Revokes.{RevokeFault}
use Rattle.kmipa_msgs.specs.Revokes.{RevokeFault as revoke}
use Rattle.kmipa_msgs.specs.Tables.{IsThere}
use Rattle.kmipa_outside.specs.AskedDemands.{create_demands, register_demands, locate_demands, get_demands, revoke_demands, identifier_demands}
use Rattle.kmipa_outside.specs.Demands.{Fails, fails, all_at}
use Rattle.kmipa_outside.specs.DoneDemands.{registered_demands, located_demands, got_demands, got_attributes_demands}
use Rattle.kmipa_outside.specs.Laws.{AnyOf, IsBroken, AskedReasonsAreDemanded, DoneReasonsAreDemanded}
use Rattle.kmipa_outside.specs.SharedDemands.{block_demands, attribute_demands, client_demands, filter_demands}
use Rattle.kmipa_outside.specs.declared.demand.Demand.{Demand}
use Rattle.kmipa_outside.specs.declared.demand.Numbers.TheVariants as numbers
use Rattle.kmipa_outside.specs.declared.demand.Step.TheVariants.{Object}
use Rattle.kmipa_outside.specs.declared.demand.Wanted.{Wanted}
use Rattle.kmipa_outside.specs.declared.demand.Wanted.TheVariants as wanted
use Rattle.kmipa_outside.specs.declared.types.ItemType.{ItemType}
use Rattle.kmipa_outside.specs.declared.types.ItemType.TheVariants as type
use Rattle.kmipa_outside.specs.AgreementDemands.{agreement_demands}
use Rattle.kmipa_outside.specs.Tables.{asked_demands}
use Rattle.kmipa_outside.proofs.AgreementLemmas.{create_disagrees, register_disagrees}
use Rattle.kmipa_outside.proofs.ToldLemmas.{any_left, any_right}
use Rattle.kmipa_outside.proofs.FailLemmas.{Decides, Fail, decides_structure, decides_integer, decides_enumeration, decides_text, decides_bytes, decides_date, fails_wrong, fails_either, fails_needed, fails_there, fails_none}
use Rattle.kmipa_outside.proofs.NumberLemmas.{fails_unlisted, fails_each, fails_name, fails_repeated}

-- ---- attributes

-- a demand on one of these children
abbrev IsBrokenAmong : OutsideKind → Trees → Demand → Type 0
IsBrokenAmong k us d = (d.kind ≡ k) × (is_some (fails d.wanted (all_at d.field us)) ≡ true)

type_wrong : {A : Type 0} (held : List (Option A)) (reported : AttrFault) → TypeFault held reported → SomeWrong held
type_wrong held WrongType w = w
type_wrong held Repeated w = absurd w
type_wrong held NotForClients w = absurd w
type_wrong held Memory w = absurd w

single_fails : {A : Type 0} (how : Tree → Option A) (ty : ItemType) → Decides how ty → (n : ℕ) (us : Trees) (reported : AttrFault) → SingleFault (each how n us) reported
    → Fail (wanted.EachTyped ty) n us ⊎ Fail wanted.Once n us
single_fails how ty d n us WrongType w = inl (fails_each how ty d n us w)
single_fails how ty d n us Repeated w = inr (fails_repeated how n us w)
single_fails how ty d n us NotForClients w = absurd w
single_fails how ty d n us Memory w = absurd w

client_there : (o : Option Tree) (reported : AttrFault) → ClientFault Client o reported → IsThere o
client_there None reported w = absurd w
client_there (Some t) WrongType w = absurd w
client_there (Some t) Repeated w = absurd w
client_there (Some t) NotForClients w = tt
client_there (Some t) Memory w = absurd w

server_none : (o : Option Tree) (reported : AttrFault) → ClientFault Server o reported → ⊥
server_none None reported w = w
server_none (Some t) WrongType w = w
server_none (Some t) Repeated w = w
server_none (Some t) NotForClients w = w
server_none (Some t) Memory w = w

client_finds : (us : Trees) (k : OutsideKind) (reported : AttrFault) → Attribute ≡ k → AttributesFault Client us reported → AnyOf (IsBrokenAmong k us) (attribute_demands ++ client_demands)
client_finds us k reported e f = elim f [
  | attribute.in_names w ↦ inl (e, fails_name name_tag us (type_wrong (each as_name name_tag us) reported w))
  | attribute.in_object_type w ↦ elim (single_fails as_enumeration type.Enumeration decides_enumeration object_type_tag us reported w) [ inl h ↦ inr (inl (e, h)) | inr h ↦ inr (inr (inl (e, h))) ]
  | attribute.in_algorithm w ↦ elim (single_fails as_enumeration type.Enumeration decides_enumeration cryptographic_algorithm us reported w) [ inl h ↦ inr (inr (inr (inl (e, h)))) | inr h ↦ inr (inr (inr (inr (inl (e, h))))) ]
  | attribute.in_length w ↦ elim (single_fails as_integer type.Integer decides_integer cryptographic_length us reported w) [ inl h ↦ inr (inr (inr (inr (inr (inl (e, h)))))) | inr h ↦ inr (inr (inr (inr (inr (inr (inl (e, h))))))) ]
  | attribute.in_mask w ↦ elim (single_fails as_integer type.Integer decides_integer cryptographic_usage_mask us reported w) [ inl h ↦ inr (inr (inr (inr (inr (inr (inr (inl (e, h)))))))) | inr h ↦ inr (inr (inr (inr (inr (inr (inr (inr (inl (e, h))))))))) ]
  | attribute.in_state w ↦ elim (single_fails as_enumeration type.Enumeration decides_enumeration state_tag us reported w) [ inl h ↦ inr (inr (inr (inr (inr (inr (inr (inr (inr (inl (e, h)))))))))) | inr h ↦ inr (inr (inr (inr (inr (inr (inr (inr (inr (inr (inl (e, h))))))))))) ]
  | attribute.in_initial w ↦ elim (single_fails as_date type.DateTime decides_date initial_date us reported w) [ inl h ↦ inr (inr (inr (inr (inr (inr (inr (inr (inr (inr (inr (inl (e, h)))))))))))) | inr h ↦ inr (inr (inr (inr (inr (inr (inr (inr (inr (inr (inr (inr (inl (e, h))))))))))))) ]
  | attribute.in_activation w ↦ elim (single_fails as_date type.DateTime decides_date activation_date us reported w) [ inl h ↦ inr (inr (inr (inr (inr (inr (inr (inr (inr (inr (inr (inr (inr (inl (e, h)))))))))))))) | inr h ↦ inr (inr (inr (inr (inr (inr (inr (inr (inr (inr (inr (inr (inr (inr (inl (e, h))))))))))))))) ]
  | attribute.in_deactivation w ↦ elim (single_fails as_date type.DateTime decides_date deactivation_date us reported w) [ inl h ↦ inr (inr (inr (inr (inr (inr (inr (inr (inr (inr (inr (inr (inr (inr (inr (inl (e, h)))))))))))))))) | inr h ↦ inr (inr (inr (inr (inr (inr (inr (inr (inr (inr (inr (inr (inr (inr (inr (inr (inl (e, h))))))))))))))))) ]
  | attribute.in_destroy w ↦ elim (single_fails as_date type.DateTime decides_date destroy_date us reported w) [ inl h ↦ inr (inr (inr (inr (inr (inr (inr (inr (inr (inr (inr (inr (inr (inr (inr (inr (inr (inl (e, h)))))))))))))))))) | inr h ↦ inr (inr (inr (inr (inr (inr (inr (inr (inr (inr (inr (inr (inr (inr (inr (inr (inr (inr (inl (e, h))))))))))))))))))) ]
  | attribute.in_compromise w ↦ elim (single_fails as_date type.DateTime decides_date compromise_date us reported w) [ inl h ↦ inr (inr (inr (inr (inr (inr (inr (inr (inr (inr (inr (inr (inr (inr (inr (inr (inr (inr (inr (inl (e, h)))))))))))))))))))) | inr h ↦ inr (inr (inr (inr (inr (inr (inr (inr (inr (inr (inr (inr (inr (inr (inr (inr (inr (inr (inr (inr (inl (e, h))))))))))))))))))))) ]
  | attribute.of_client_state w ↦ inr (inr (inr (inr (inr (inr (inr (inr (inr (inr (inr (inr (inr (inr (inr (inr (inr (inr (inr (inr (inr (inl (e, fails_there state_tag us (client_there (first state_tag us) reported w)))))))))))))))))))))))
  | attribute.of_client_initial w ↦ inr (inr (inr (inr (inr (inr (inr (inr (inr (inr (inr (inr (inr (inr (inr (inr (inr (inr (inr (inr (inr (inr (inl (e, fails_there initial_date us (client_there (first initial_date us) reported w))))))))))))))))))))))))
  | attribute.of_client_destroy w ↦ inr (inr (inr (inr (inr (inr (inr (inr (inr (inr (inr (inr (inr (inr (inr (inr (inr (inr (inr (inr (inr (inr (inr (inl (e, fails_there destroy_date us (client_there (first destroy_date us) reported w)))))))))))))))))))))))))
  | attribute.of_client_compromise w ↦ inr (inr (inr (inr (inr (inr (inr (inr (inr (inr (inr (inr (inr (inr (inr (inr (inr (inr (inr (inr (inr (inr (inr (inr (inl (e, fails_there compromise_date us (client_there (first compromise_date us) reported w))))))))))))))))))))))))))
  | attribute.of_client_identifier w ↦ inr (inr (inr (inr (inr (inr (inr (inr (inr (inr (inr (inr (inr (inr (inr (inr (inr (inr (inr (inr (inr (inr (inr (inr (inr (inl (e, fails_there unique_identifier us (client_there (first unique_identifier us) reported w)))))))))))))))))))))))))))
]

server_finds : (us : Trees) (k : OutsideKind) (reported : AttrFault) → Attribute ≡ k → AttributesFault Server us reported → AnyOf (IsBrokenAmong k us) attribute_demands
server_finds us k reported e f = elim f [
  | attribute.in_names w ↦ inl (e, fails_name name_tag us (type_wrong (each as_name name_tag us) reported w))
  | attribute.in_object_type w ↦ elim (single_fails as_enumeration type.Enumeration decides_enumeration object_type_tag us reported w) [ inl h ↦ inr (inl (e, h)) | inr h ↦ inr (inr (inl (e, h))) ]
  | attribute.in_algorithm w ↦ elim (single_fails as_enumeration type.Enumeration decides_enumeration cryptographic_algorithm us reported w) [ inl h ↦ inr (inr (inr (inl (e, h)))) | inr h ↦ inr (inr (inr (inr (inl (e, h))))) ]
  | attribute.in_length w ↦ elim (single_fails as_integer type.Integer decides_integer cryptographic_length us reported w) [ inl h ↦ inr (inr (inr (inr (inr (inl (e, h)))))) | inr h ↦ inr (inr (inr (inr (inr (inr (inl (e, h))))))) ]
  | attribute.in_mask w ↦ elim (single_fails as_integer type.Integer decides_integer cryptographic_usage_mask us reported w) [ inl h ↦ inr (inr (inr (inr (inr (inr (inr (inl (e, h)))))))) | inr h ↦ inr (inr (inr (inr (inr (inr (inr (inr (inl (e, h))))))))) ]
  | attribute.in_state w ↦ elim (single_fails as_enumeration type.Enumeration decides_enumeration state_tag us reported w) [ inl h ↦ inr (inr (inr (inr (inr (inr (inr (inr (inr (inl (e, h)))))))))) | inr h ↦ inr (inr (inr (inr (inr (inr (inr (inr (inr (inr (inl (e, h))))))))))) ]
  | attribute.in_initial w ↦ elim (single_fails as_date type.DateTime decides_date initial_date us reported w) [ inl h ↦ inr (inr (inr (inr (inr (inr (inr (inr (inr (inr (inr (inl (e, h)))))))))))) | inr h ↦ inr (inr (inr (inr (inr (inr (inr (inr (inr (inr (inr (inr (inl (e, h))))))))))))) ]
  | attribute.in_activation w ↦ elim (single_fails as_date type.DateTime decides_date activation_date us reported w) [ inl h ↦ inr (inr (inr (inr (inr (inr (inr (inr (inr (inr (inr (inr (inr (inl (e, h)))))))))))))) | inr h ↦ inr (inr (inr (inr (inr (inr (inr (inr (inr (inr (inr (inr (inr (inr (inl (e, h))))))))))))))) ]
  | attribute.in_deactivation w ↦ elim (single_fails as_date type.DateTime decides_date deactivation_date us reported w) [ inl h ↦ inr (inr (inr (inr (inr (inr (inr (inr (inr (inr (inr (inr (inr (inr (inr (inl (e, h)))))))))))))))) | inr h ↦ inr (inr (inr (inr (inr (inr (inr (inr (inr (inr (inr (inr (inr (inr (inr (inr (inl (e, h))))))))))))))))) ]
  | attribute.in_destroy w ↦ elim (single_fails as_date type.DateTime decides_date destroy_date us reported w) [ inl h ↦ inr (inr (inr (inr (inr (inr (inr (inr (inr (inr (inr (inr (inr (inr (inr (inr (inr (inl (e, h)))))))))))))))))) | inr h ↦ inr (inr (inr (inr (inr (inr (inr (inr (inr (inr (inr (inr (inr (inr (inr (inr (inr (inr (inl (e, h))))))))))))))))))) ]
  | attribute.in_compromise w ↦ elim (single_fails as_date type.DateTime decides_date compromise_date us reported w) [ inl h ↦ inr (inr (inr (inr (inr (inr (inr (inr (inr (inr (inr (inr (inr (inr (inr (inr (inr (inr (inr (inl (e, h)))))))))))))))))))) | inr h ↦ inr (inr (inr (inr (inr (inr (inr (inr (inr (inr (inr (inr (inr (inr (inr (inr (inr (inr (inr (inr (inl (e, h))))))))))))))))))))) ]
  | attribute.of_client_state w ↦ absurd (server_none (first state_tag us) reported w)
  | attribute.of_client_initial w ↦ absurd (server_none (first initial_date us) reported w)
  | attribute.of_client_destroy w ↦ absurd (server_none (first destroy_date us) reported w)
  | attribute.of_client_compromise w ↦ absurd (server_none (first compromise_date us) reported w)
  | attribute.of_client_identifier w ↦ absurd (server_none (first unique_identifier us) reported w)
]

-- what is at fault in Attributes: their type, or one of them
given_finds : (side : Side) (k : OutsideKind) (ds : List Demand) → ((us : Trees) (reported : AttrFault) → Attribute ≡ k → AttributesFault side us reported → AnyOf (IsBrokenAmong k us) ds)
    → (f : Field Trees) → GivenFault side f k → ((k ≡ Missing) × IsWrong f) ⊎ AnyOf (IsBrokenAmong k (in_field f)) ds
given_finds side k ds finds Absent w = absurd w
given_finds side k ds finds Wrong w = inl (w, tt)
given_finds side k ds finds (There us) w = inr (finds us w.1.0 (sym w.0) w.1.1)

filter_finds : (us : Trees) (k : OutsideKind) (reported : AttrFault) → Attribute ≡ k → FilterFault us reported → AnyOf (IsBrokenAmong k us) filter_demands
filter_finds us k reported e f = elim f [
  | filter.in_names w ↦ inl (e, fails_name name_tag us (type_wrong (each as_name name_tag us) reported w))
  | filter.in_object_type w ↦ inr (inl (e, fails_each as_enumeration type.Enumeration decides_enumeration object_type_tag us (type_wrong (each as_enumeration object_type_tag us) reported w)))
  | filter.in_algorithm w ↦ inr (inr (inl (e, fails_each as_enumeration type.Enumeration decides_enumeration cryptographic_algorithm us (type_wrong (each as_enumeration cryptographic_algorithm us) reported w))))
  | filter.in_length w ↦ inr (inr (inr (inl (e, fails_each as_integer type.Integer decides_integer cryptographic_length us (type_wrong (each as_integer cryptographic_length us) reported w)))))
  | filter.in_mask w ↦ inr (inr (inr (inr (inl (e, fails_each as_integer type.Integer decides_integer cryptographic_usage_mask us (type_wrong (each as_integer cryptographic_usage_mask us) reported w))))))
  | filter.in_state w ↦ inr (inr (inr (inr (inr (inl (e, fails_each as_enumeration type.Enumeration decides_enumeration state_tag us (type_wrong (each as_enumeration state_tag us) reported w)))))))
  | filter.in_initial w ↦ inr (inr (inr (inr (inr (inr (inl (e, fails_each as_date type.DateTime decides_date initial_date us (type_wrong (each as_date initial_date us) reported w))))))))
  | filter.in_activation w ↦ inr (inr (inr (inr (inr (inr (inr (inl (e, fails_each as_date type.DateTime decides_date activation_date us (type_wrong (each as_date activation_date us) reported w)))))))))
  | filter.in_deactivation w ↦ inr (inr (inr (inr (inr (inr (inr (inr (inl (e, fails_each as_date type.DateTime decides_date deactivation_date us (type_wrong (each as_date deactivation_date us) reported w))))))))))
  | filter.in_destroy w ↦ inr (inr (inr (inr (inr (inr (inr (inr (inr (inl (e, fails_each as_date type.DateTime decides_date destroy_date us (type_wrong (each as_date destroy_date us) reported w)))))))))))
  | filter.in_compromise w ↦ inr (inr (inr (inr (inr (inr (inr (inr (inr (inr (inl (e, fails_each as_date type.DateTime decides_date compromise_date us (type_wrong (each as_date compromise_date us) reported w))))))))))))
]

-- ---- Key Blocks

block_finds : (ts : Trees) (k : OutsideKind) → BlockFault (block_inside ts) k → AnyOf (IsBroken k ts) block_demands
block_finds ts k f = elim f [
  | block.in_wrapping e w ↦ inl (sym e, fails_there key_wrapping_data (block_inside ts) w)
  | block.in_format w ↦ let g = fails_needed as_enumeration type.Enumeration decides_enumeration key_format_type (block_inside ts) Missing k w in inr (inl (g.0, g.1))
  | block.in_format_number e w ↦ inr (inr (inl (sym e, fails_unlisted numbers.KeyFormats format_of (λ m. refl) key_format_type (block_inside ts) w)))
  | block.in_value w ↦ elim (fails_either as_structure type.Structure decides_structure key_value (block_inside ts) Missing Format k w) [ inl h ↦ inr (inr (inr (inl (h.0, h.1)))) | inr h ↦ inr (inr (inr (inr (inl (h.0, h.1))))) ]
  | block.in_material w ↦ elim (fails_either as_bytes type.Bytes decides_bytes key_material (inside key_value (block_inside ts)) Missing Format k w) [ inl h ↦ inr (inr (inr (inr (inr (inl (h.0, h.1)))))) | inr h ↦ inr (inr (inr (inr (inr (inr (inl (h.0, h.1))))))) ]
  | block.in_algorithm e w ↦ inr (inr (inr (inr (inr (inr (inr (inl (sym e, fails_wrong as_enumeration type.Enumeration decides_enumeration cryptographic_algorithm (block_inside ts) w))))))))
  | block.in_length e w ↦ inr (inr (inr (inr (inr (inr (inr (inr (inl (sym e, fails_wrong as_integer type.Integer decides_integer cryptographic_length (block_inside ts) w)))))))))
]

-- no object
object_finds_at : (o : Option Tree) (k : OutsideKind) → NeededFault (typed as_shape o) Missing Missing k → (Missing ≡ k) × (is_some (fails wanted.There (option_to_list o)) ≡ true)
object_finds_at None k h = (sym h, refl)
object_finds_at (Some t) k h = absurd h

object_finds : (ts : Trees) (k : OutsideKind) → NeededFault (shape_in ts) Missing Missing k → (Missing ≡ k) × (is_some (fails wanted.There (all_at Object ts)) ≡ true)
object_finds ts k h = object_finds_at (object_in ts) k h

-- ---- what is asked

create_finds : (ts : Trees) (k : OutsideKind) → CreateFault ts k → AnyOf (IsBroken k ts) (create_demands ++ (attribute_demands ++ client_demands)) ⊎ ((k ≡ Disagree) × DisagreeingCreate ts)
create_finds ts k f = elim f [
  | create.in_object_type w ↦ let g = fails_needed as_enumeration type.Enumeration decides_enumeration object_type_tag ts Missing k w in inl (inl (g.0, g.1))
  | create.in_type_number e w ↦ inl (inr (inl (sym e, fails_unlisted numbers.CreatedType created_of (λ m. refl) object_type_tag ts w)))
  | create.in_attributes w ↦ elim (given_finds Client k (attribute_demands ++ client_demands) (λ us. client_finds us k) (at as_structure attributes_tag ts) w) [ inl h ↦ inl (inr (inr (inl (sym h.0, fails_wrong as_structure type.Structure decides_structure attributes_tag ts h.1)))) | inr h ↦ inl (any_right (IsBroken k ts) create_demands (attribute_demands ++ client_demands) h) ]
  | create.in_attribute_type e w ↦ inl (inr (inr (inr (inl (sym e, fails_unlisted numbers.ObjectTypes type_of (λ m. refl) object_type_tag (inside attributes_tag ts) w)))))
  | create.in_algorithm e w ↦ inl (inr (inr (inr (inr (inl (sym e, fails_none cryptographic_algorithm (inside attributes_tag ts) w))))))
  | create.in_length e w ↦ inl (inr (inr (inr (inr (inr (inl (sym e, fails_none cryptographic_length (inside attributes_tag ts) w)))))))
  | create.in_mask e w ↦ inl (inr (inr (inr (inr (inr (inr (inl (sym e, fails_none cryptographic_usage_mask (inside attributes_tag ts) w))))))))
  | create.in_agreement e w ↦ inr (e, w)
]

register_finds : (ts : Trees) (k : OutsideKind) → RegisterFault ts k → AnyOf (IsBroken k ts) (register_demands ++ (block_demands ++ (attribute_demands ++ client_demands))) ⊎ ((k ≡ Disagree) × Disagreeing ts)
register_finds ts k f = elim f [
  | register.in_object_type w ↦ let g = fails_needed as_enumeration type.Enumeration decides_enumeration object_type_tag ts Missing k w in inl (inl (g.0, g.1))
  | register.in_type_number e w ↦ inl (inr (inl (sym e, fails_unlisted numbers.ObjectTypes type_of (λ m. refl) object_type_tag ts w)))
  | register.in_attributes w ↦ elim (given_finds Client k (attribute_demands ++ client_demands) (λ us. client_finds us k) (at as_structure attributes_tag ts) w) [ inl h ↦ inl (inr (inr (inl (sym h.0, fails_wrong as_structure type.Structure decides_structure attributes_tag ts h.1)))) | inr h ↦ inl (any_right (IsBroken k ts) register_demands (block_demands ++ (attribute_demands ++ client_demands)) (any_right (IsBroken k ts) block_demands (attribute_demands ++ client_demands) h)) ]
  | register.in_attribute_type e w ↦ inl (inr (inr (inr (inl (sym e, fails_unlisted numbers.ObjectTypes type_of (λ m. refl) object_type_tag (inside attributes_tag ts) w)))))
  | register.in_object w ↦ let g = object_finds ts k w in inl (inr (inr (inr (inr (inl (g.0, g.1))))))
  | register.in_block w ↦ inl (any_right (IsBroken k ts) register_demands (block_demands ++ (attribute_demands ++ client_demands)) (any_left (IsBroken k ts) block_demands (attribute_demands ++ client_demands) (block_finds ts k w)))
  | register.in_brought e w ↦ inr (e, w)
]

locate_finds : (ts : Trees) (k : OutsideKind) → LocateFault ts k → AnyOf (IsBroken k ts) (locate_demands ++ filter_demands)
locate_finds ts k f = elim f [
  | locate.in_maximum e w ↦ inl (sym e, fails_wrong as_integer type.Integer decides_integer maximum_items ts w)
  | locate.in_attributes e w ↦ inr (inl (sym e, fails_wrong as_structure type.Structure decides_structure attributes_tag ts w))
  | locate.in_type_number e w ↦ inr (inr (inl (sym e, fails_unlisted numbers.ObjectTypes type_of (λ m. refl) object_type_tag (inside attributes_tag ts) w)))
  | locate.in_filter reported e w ↦ any_right (IsBroken k ts) locate_demands filter_demands (filter_finds (inside attributes_tag ts) k reported (sym e) w)
]

get_finds : (ts : Trees) (k : OutsideKind) → GetFault ts k → AnyOf (IsBroken k ts) get_demands
get_finds ts k f = elim f [
  | get.in_identifier e w ↦ inl (sym e, fails_wrong as_text type.Text decides_text unique_identifier ts w)
  | get.in_specification e w ↦ inr (inl (sym e, fails_there key_wrapping_specification ts w))
]

revoke_finds : (ts : Trees) (k : OutsideKind) → RevokeFault ts k → AnyOf (IsBroken k ts) revoke_demands
revoke_finds ts k f = elim f [
  | revoke.in_identifier e w ↦ inl (sym e, fails_wrong as_text type.Text decides_text unique_identifier ts w)
  | revoke.in_code w ↦ let g = fails_needed as_enumeration type.Enumeration decides_enumeration revocation_reason_code (inside revocation_reason ts) Missing k w in inr (inl (g.0, g.1))
]

identifier_finds : (ts : Trees) (k : OutsideKind) → IdentifierFault ts k → AnyOf (IsBroken k ts) identifier_demands
identifier_finds ts k f = inl (sym f.0, fails_wrong as_text type.Text decides_text unique_identifier ts f.1)

-- a demand fails, or what is to agree doesn't
found_or : (ts : Trees) (k : OutsideKind) (ds es : List Demand) → AnyOf (IsBroken k ts) ds ⊎ ((k ≡ Disagree) × AnyOf (IsBroken Disagree ts) es) → AnyOf (IsBroken k ts) (ds ++ es)
found_or ts k ds es h = elim h [
  | inl g ↦ any_left (IsBroken k ts) ds es g
  | inr g ↦ let P : OutsideKind → Type 0 = λ j. AnyOf (IsBroken j ts) es in any_right (IsBroken k ts) ds es (subst P (sym g.0) g.1)
]

pub asked_demanded : AskedReasonsAreDemanded
asked_demanded operation.Create ts k f =
    found_or ts k (asked_demands operation.Create) (agreement_demands operation.Create ts) (elim (create_finds ts k f) [ inl g ↦ inl g | inr g ↦ inr (g.0, create_disagrees ts g.1) ])
asked_demanded operation.Register ts k f =
    found_or ts k (asked_demands operation.Register) (agreement_demands operation.Register ts) (elim (register_finds ts k f) [ inl g ↦ inl g | inr g ↦ inr (g.0, register_disagrees ts g.1) ])
asked_demanded operation.Locate ts k f = any_left (IsBroken k ts) (asked_demands operation.Locate) [] (locate_finds ts k f)
asked_demanded operation.Get ts k f = any_left (IsBroken k ts) (asked_demands operation.Get) [] (get_finds ts k f)
asked_demanded operation.GetAttributes ts k f = any_left (IsBroken k ts) (asked_demands operation.GetAttributes) [] (identifier_finds ts k f)
asked_demanded operation.Activate ts k f = any_left (IsBroken k ts) (asked_demands operation.Activate) [] (identifier_finds ts k f)
asked_demanded operation.Revoke ts k f = any_left (IsBroken k ts) (asked_demands operation.Revoke) [] (revoke_finds ts k f)
asked_demanded operation.Destroy ts k f = any_left (IsBroken k ts) (asked_demands operation.Destroy) [] (identifier_finds ts k f)
asked_demanded (operation.Idle n) ts k f = absurd f
asked_demanded (operation.Other n) ts k f = absurd f

-- ---- what was done

registered_finds : (ts : Trees) (k : OutsideKind) → RegisteredFault ts k → AnyOf (IsBroken k ts) registered_demands
registered_finds ts k f = elim f [
  | registered.in_type e w ↦ inl (sym e, fails_wrong as_enumeration type.Enumeration decides_enumeration object_type_tag ts w)
  | registered.in_identifier w ↦ elim (fails_either as_text type.Text decides_text unique_identifier ts Missing IdentifierForm k w) [ inl h ↦ inr (inl (h.0, h.1)) | inr h ↦ inr (inr (inl (h.0, h.1))) ]
]

located_finds : (ts : Trees) (k : OutsideKind) → LocatedFault ts k → AnyOf (IsBroken k ts) located_demands
located_finds ts k f = inl (sym f.0, fails_each as_text type.Text decides_text unique_identifier ts f.1)

got_finds : (ts : Trees) (k : OutsideKind) → GotFault ts k → AnyOf (IsBroken k ts) (got_demands ++ block_demands)
got_finds ts k f = elim f [
  | got.in_type e w ↦ inl (sym e, fails_wrong as_enumeration type.Enumeration decides_enumeration object_type_tag ts w)
  | got.in_type_number e w ↦ inr (inl (sym e, fails_unlisted numbers.ObjectTypes type_of (λ m. refl) object_type_tag ts w))
  | got.in_shown_identifier e w ↦ inr (inr (inl (sym e, fails_wrong as_text type.Text decides_text unique_identifier ts w)))
  | got.in_object w ↦ let g = object_finds ts k w in inr (inr (inr (inl (g.0, g.1))))
  | got.in_block w ↦ any_right (IsBroken k ts) got_demands block_demands (block_finds ts k w)
]

got_attributes_finds : (ts : Trees) (k : OutsideKind) → GotAttributesFault ts k → AnyOf (IsBroken k ts) (got_attributes_demands ++ attribute_demands)
got_attributes_finds ts k f = elim f [
  | got_attributes.in_identifier e w ↦ inl (sym e, fails_wrong as_text type.Text decides_text unique_identifier ts w)
  | got_attributes.in_attributes w ↦ elim (given_finds Server k attribute_demands (λ us. server_finds us k) (at as_structure attributes_tag ts) w) [ inl h ↦ inr (inl (sym h.0, fails_wrong as_structure type.Structure decides_structure attributes_tag ts h.1)) | inr h ↦ any_right (IsBroken k ts) got_attributes_demands attribute_demands h ]
  | got_attributes.in_attribute_type e w ↦ inr (inr (inl (sym e, fails_unlisted numbers.ObjectTypes type_of (λ m. refl) object_type_tag (inside attributes_tag ts) w)))
]

pub done_demanded : DoneReasonsAreDemanded
done_demanded operation.Create ts k judged f = registered_finds ts k f
done_demanded operation.Register ts k judged f = registered_finds ts k f
done_demanded operation.Locate ts k judged f = located_finds ts k f
done_demanded operation.Get ts k judged f = got_finds ts k f
done_demanded operation.GetAttributes ts k judged f = got_attributes_finds ts k f
done_demanded operation.Activate ts k judged f = identifier_finds ts k f
done_demanded operation.Revoke ts k judged f = identifier_finds ts k f
done_demanded operation.Destroy ts k judged f = identifier_finds ts k f
done_demanded (operation.Idle n) ts k judged f = let h : false ≡ true = judged in cc
done_demanded (operation.Other n) ts k judged f = let h : false ≡ true = judged in cc
