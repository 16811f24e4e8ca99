-- Where a demand fails, the payload is outside for its kind.
use Rattle.std.proofs.Common.{◌≡◌, ℕ, Bool, true, false, is_some, List, [], ◌∷◌, ◌++◌, Option, Some, None, refl, inl, inr, option_to_list}
use Rattle.kmipa_ttlv.specs.Tree.{Tree, Trees, none}
use Rattle.kmipa_attrs.specs.Attributes.{AttributesFault, ClientFault}
use Rattle.kmipa_attrs.specs.Attributes.{AttributesFault as attribute}
use Rattle.kmipa_attrs.specs.Filters.{FilterFault as filter}
use Rattle.kmipa_attrs.specs.Fields.{first, every, at, inside, in_field, typed, as_structure, as_integer, as_enumeration, as_text, as_bytes, as_date}
use Rattle.kmipa_attrs.specs.ObjectTypes.{type_of}
use Rattle.kmipa_attrs.specs.Readings.{IsWrong, NeededFault}
use Rattle.kmipa_attrs.specs.Tags.{activation_date, attributes_tag, compromise_date, cryptographic_algorithm, cryptographic_length, cryptographic_usage_mask, deactivation_date, destroy_date, initial_date, key_format_type, key_material, key_value, key_wrapping_data, key_wrapping_specification, maximum_items, name_tag, object_type_tag, revocation_reason, revocation_reason_code, state_tag, unique_identifier}
use Rattle.kmipa_attrs.specs.declared.fault.AttrFault.{AttrFault}
use Rattle.kmipa_attrs.specs.declared.fault.AttrFault.TheVariants.{WrongType, Repeated, NotForClients}
use Rattle.kmipa_attrs.specs.declared.fields.Field.{Field}
use Rattle.kmipa_attrs.specs.declared.fields.Field.TheVariants.{Absent, Wrong, There}
use Rattle.kmipa_attrs.specs.declared.side.Side.{Side}
use Rattle.kmipa_attrs.specs.declared.side.Side.TheVariants.{Client, Server}
use Rattle.kmipa_msgs.specs.declared.kind.OutsideKind.{OutsideKind}
use Rattle.kmipa_msgs.specs.declared.kind.OutsideKind.TheVariants.{Missing, Attribute, Format, IdentifierForm}
use Rattle.kmipa_msgs.specs.declared.operation.Operation.{Operation}
use Rattle.kmipa_msgs.specs.declared.operation.Operation.TheVariants as operation
use Rattle.kmipa_msgs.specs.AttributeFields.{GivenFault}
use Rattle.kmipa_msgs.specs.Asks.{AskedFault}
use Rattle.kmipa_msgs.specs.Payloads.{DoneFault}
use Rattle.kmipa_msgs.specs.Creates.{CreateFault, created_of}
use Rattle.kmipa_msgs.specs.Creates.{CreateFault as create}
use Rattle.kmipa_msgs.specs.Registers.{RegisterFault, RegisteredFault}
use Rattle.kmipa_msgs.specs.Registers.{RegisterFault as register}
use Rattle.kmipa_msgs.specs.Registers.{RegisteredFault as registered}
use Rattle.kmipa_msgs.specs.Locates.{LocateFault, LocatedFault}
use Rattle.kmipa_msgs.specs.Locates.{LocateFault as locate}
use Rattle.kmipa_msgs.specs.Gets.{GetFault, GotFault}
use Rattle.kmipa_msgs.specs.Gets.{GetFault as get}
use Rattle.kmipa_msgs.specs.Gets.{GotFault as got}
use Rattle.kmipa_msgs.specs.GetsAttributes.{GotAttributesFault}
use Rattle.kmipa_msgs.specs.GetsAttributes.{GotAttributesFault as got_attributes}
use Rattle.kmipa_msgs.specs.Identifiers.{IdentifierFault}
use Rattle.kmipa_msgs.specs.KeyBlocks.{BlockFault}
use Rattle.kmipa_msgs.specs.KeyBlocks.{BlockFault as block}
use Rattle.kmipa_msgs.specs.Numbers.{format_of}
use Rattle.kmipa_msgs.specs.Objects.{object_in, block_inside, as_shape, shape_in}
use Rattle.kmipa_msgs.specs.Revokes.{RevokeFault}
use Rattle.kmipa_msgs.specs.Revokes.{RevokeFault as revoke}
use Rattle.kmipa_msgs.specs.Tables.{IsThere}
use Rattle.kmipa_outside.specs.AskedDemands.{create_demands, register_demands, locate_demands, get_demands, revoke_demands, identifier_demands}
use Rattle.kmipa_outside.specs.Demands.{Fails, fails, all_at}
use Rattle.kmipa_outside.specs.DoneDemands.{registered_demands, located_demands, got_demands, got_attributes_demands}
use Rattle.kmipa_outside.specs.Laws.{Each, AskedDemandsAreReasons, DoneDemandsAreReasons}
use Rattle.kmipa_outside.specs.SharedDemands.{block_demands, attribute_demands, client_demands, filter_demands}
use Rattle.kmipa_outside.specs.declared.demand.Demand.{Demand}
use Rattle.kmipa_outside.specs.declared.demand.Numbers.TheVariants as numbers
use Rattle.kmipa_outside.specs.declared.demand.Step.TheVariants.{Object}
use Rattle.kmipa_outside.specs.declared.demand.Wanted.{Wanted}
use Rattle.kmipa_outside.specs.declared.demand.Wanted.TheVariants as wanted
use Rattle.kmipa_outside.specs.declared.types.ItemType.{ItemType}
use Rattle.kmipa_outside.specs.declared.types.ItemType.TheVariants as type
use Rattle.kmipa_outside.proofs.FailLemmas.{Fail, decides_structure, decides_integer, decides_enumeration, decides_text, decides_bytes, decides_date, wrong, absent, mistyped, needed, there, none_there}
use Rattle.kmipa_outside.proofs.NumberLemmas.{unlisted, each_wrong, name_wrong, repeated}

-- ---- lists

pub each_append : {A : Type 0} (P : A → Type 0) (xs ys : List A) → Each P xs → Each P ys → Each P (xs ++ ys)
each_append P [] ys h g = g
each_append P (x ∷ xs) ys h g = (h.0, each_append P xs ys h.1 g)

-- what follows of a fault of a part
each_of : (ts : Trees) (A B : OutsideKind → Type 0) → ((k : OutsideKind) → A k → B k) → (ds : List Demand) → Each (λ (d : Demand). Fails d ts → A d.kind) ds → Each (λ (d : Demand). Fails d ts → B d.kind) ds
each_of ts A B f [] h = tt
each_of ts A B f (d ∷ ds) h = (λ e. f d.kind (h.0 e), each_of ts A B f ds h.1)

-- ---- attributes

given_wrong : (side : Side) (f : Field Trees) → IsWrong f → GivenFault side f Missing
given_wrong side Absent w = absurd w
given_wrong side Wrong w = refl
given_wrong side (There ts) w = absurd w

-- among no children nothing of this sort fails
pub quiet_each : (ty : ItemType) (n : ℕ) → Fail (wanted.EachTyped ty) n none → ⊥
unfolding every
quiet_each ty n e = let h : false ≡ true = e in cc

pub quiet_name : (n : ℕ) → Fail wanted.EachName n none → ⊥
unfolding every
quiet_name n e = let h : false ≡ true = e in cc

pub quiet_once : (n : ℕ) → Fail wanted.Once n none → ⊥
unfolding every
quiet_once n e = let h : false ≡ true = e in cc

pub quiet_nothing : (n : ℕ) → Fail wanted.Nothing n none → ⊥
unfolding every
quiet_nothing n e = let h : false ≡ true = e in cc

given : (side : Side) (f : Field Trees) (w : Wanted) (n : ℕ) → (Fail w n none → ⊥) → ((us : Trees) → Fail w n us → (reported : AttrFault) × AttributesFault side us reported)
    → Fail w n (in_field f) → GivenFault side f Attribute
given side Absent w n quiet make e = absurd (quiet e)
given side Wrong w n quiet make e = absurd (quiet e)
given side (There us) w n quiet make e = (refl, make us e)

client_fault : (o : Option Tree) → IsThere o → ClientFault Client o NotForClients
client_fault None w = absurd w
client_fault (Some t) w = tt

attribute_reasons : (side : Side) (ts : Trees) → Each (λ (d : Demand). Fails d ts → GivenFault side (at as_structure attributes_tag ts) d.kind) attribute_demands
attribute_reasons side ts = (
  (λ e. given side (at as_structure attributes_tag ts) wanted.EachName name_tag (quiet_name name_tag) (λ us h. (WrongType, attribute.in_names (name_wrong name_tag us h))) e),
  (
    (λ e. given side (at as_structure attributes_tag ts) (wanted.EachTyped type.Enumeration) object_type_tag (quiet_each type.Enumeration object_type_tag) (λ us h. (WrongType, attribute.in_object_type (each_wrong as_enumeration type.Enumeration decides_enumeration object_type_tag us h))) e),
    (
      (λ e. given side (at as_structure attributes_tag ts) wanted.Once object_type_tag (quiet_once object_type_tag) (λ us h. (Repeated, attribute.in_object_type (repeated as_enumeration object_type_tag us h))) e),
      (
        (λ e. given side (at as_structure attributes_tag ts) (wanted.EachTyped type.Enumeration) cryptographic_algorithm (quiet_each type.Enumeration cryptographic_algorithm) (λ us h. (WrongType, attribute.in_algorithm (each_wrong as_enumeration type.Enumeration decides_enumeration cryptographic_algorithm us h))) e),
        (
          (λ e. given side (at as_structure attributes_tag ts) wanted.Once cryptographic_algorithm (quiet_once cryptographic_algorithm) (λ us h. (Repeated, attribute.in_algorithm (repeated as_enumeration cryptographic_algorithm us h))) e),
          (
            (λ e. given side (at as_structure attributes_tag ts) (wanted.EachTyped type.Integer) cryptographic_length (quiet_each type.Integer cryptographic_length) (λ us h. (WrongType, attribute.in_length (each_wrong as_integer type.Integer decides_integer cryptographic_length us h))) e),
            (
              (λ e. given side (at as_structure attributes_tag ts) wanted.Once cryptographic_length (quiet_once cryptographic_length) (λ us h. (Repeated, attribute.in_length (repeated as_integer cryptographic_length us h))) e),
              (
                (λ e. given side (at as_structure attributes_tag ts) (wanted.EachTyped type.Integer) cryptographic_usage_mask (quiet_each type.Integer cryptographic_usage_mask) (λ us h. (WrongType, attribute.in_mask (each_wrong as_integer type.Integer decides_integer cryptographic_usage_mask us h))) e),
                (
                  (λ e. given side (at as_structure attributes_tag ts) wanted.Once cryptographic_usage_mask (quiet_once cryptographic_usage_mask) (λ us h. (Repeated, attribute.in_mask (repeated as_integer cryptographic_usage_mask us h))) e),
                  (
                    (λ e. given side (at as_structure attributes_tag ts) (wanted.EachTyped type.Enumeration) state_tag (quiet_each type.Enumeration state_tag) (λ us h. (WrongType, attribute.in_state (each_wrong as_enumeration type.Enumeration decides_enumeration state_tag us h))) e),
                    (
                      (λ e. given side (at as_structure attributes_tag ts) wanted.Once state_tag (quiet_once state_tag) (λ us h. (Repeated, attribute.in_state (repeated as_enumeration state_tag us h))) e),
                      (
                        (λ e. given side (at as_structure attributes_tag ts) (wanted.EachTyped type.DateTime) initial_date (quiet_each type.DateTime initial_date) (λ us h. (WrongType, attribute.in_initial (each_wrong as_date type.DateTime decides_date initial_date us h))) e),
                        (
                          (λ e. given side (at as_structure attributes_tag ts) wanted.Once initial_date (quiet_once initial_date) (λ us h. (Repeated, attribute.in_initial (repeated as_date initial_date us h))) e),
                          (
                            (λ e. given side (at as_structure attributes_tag ts) (wanted.EachTyped type.DateTime) activation_date (quiet_each type.DateTime activation_date) (λ us h. (WrongType, attribute.in_activation (each_wrong as_date type.DateTime decides_date activation_date us h))) e),
                            (
                              (λ e. given side (at as_structure attributes_tag ts) wanted.Once activation_date (quiet_once activation_date) (λ us h. (Repeated, attribute.in_activation (repeated as_date activation_date us h))) e),
                              (
                                (λ e. given side (at as_structure attributes_tag ts) (wanted.EachTyped type.DateTime) deactivation_date (quiet_each type.DateTime deactivation_date) (λ us h. (WrongType, attribute.in_deactivation (each_wrong as_date type.DateTime decides_date deactivation_date us h))) e),
                                (
                                  (λ e. given side (at as_structure attributes_tag ts) wanted.Once deactivation_date (quiet_once deactivation_date) (λ us h. (Repeated, attribute.in_deactivation (repeated as_date deactivation_date us h))) e),
                                  (
                                    (λ e. given side (at as_structure attributes_tag ts) (wanted.EachTyped type.DateTime) destroy_date (quiet_each type.DateTime destroy_date) (λ us h. (WrongType, attribute.in_destroy (each_wrong as_date type.DateTime decides_date destroy_date us h))) e),
                                    (
                                      (λ e. given side (at as_structure attributes_tag ts) wanted.Once destroy_date (quiet_once destroy_date) (λ us h. (Repeated, attribute.in_destroy (repeated as_date destroy_date us h))) e),
                                      (
                                        (λ e. given side (at as_structure attributes_tag ts) (wanted.EachTyped type.DateTime) compromise_date (quiet_each type.DateTime compromise_date) (λ us h. (WrongType, attribute.in_compromise (each_wrong as_date type.DateTime decides_date compromise_date us h))) e),
                                        (
                                          (λ e. given side (at as_structure attributes_tag ts) wanted.Once compromise_date (quiet_once compromise_date) (λ us h. (Repeated, attribute.in_compromise (repeated as_date compromise_date us h))) e),
                                          tt,
                                        ),
                                      ),
                                    ),
                                  ),
                                ),
                              ),
                            ),
                          ),
                        ),
                      ),
                    ),
                  ),
                ),
              ),
            ),
          ),
        ),
      ),
    ),
  ),
)

client_reasons : (ts : Trees) → Each (λ (d : Demand). Fails d ts → GivenFault Client (at as_structure attributes_tag ts) d.kind) client_demands
client_reasons ts = (
  (λ e. given Client (at as_structure attributes_tag ts) wanted.Nothing state_tag (quiet_nothing state_tag) (λ us h. (NotForClients, attribute.of_client_state (client_fault (first state_tag us) (there state_tag us h)))) e),
  (
    (λ e. given Client (at as_structure attributes_tag ts) wanted.Nothing initial_date (quiet_nothing initial_date) (λ us h. (NotForClients, attribute.of_client_initial (client_fault (first initial_date us) (there initial_date us h)))) e),
    (
      (λ e. given Client (at as_structure attributes_tag ts) wanted.Nothing destroy_date (quiet_nothing destroy_date) (λ us h. (NotForClients, attribute.of_client_destroy (client_fault (first destroy_date us) (there destroy_date us h)))) e),
      (
        (λ e. given Client (at as_structure attributes_tag ts) wanted.Nothing compromise_date (quiet_nothing compromise_date) (λ us h. (NotForClients, attribute.of_client_compromise (client_fault (first compromise_date us) (there compromise_date us h)))) e),
        (
          (λ e. given Client (at as_structure attributes_tag ts) wanted.Nothing unique_identifier (quiet_nothing unique_identifier) (λ us h. (NotForClients, attribute.of_client_identifier (client_fault (first unique_identifier us) (there unique_identifier us h)))) e),
          tt,
        ),
      ),
    ),
  ),
)

given_reasons : (ts : Trees) → Each (λ (d : Demand). Fails d ts → GivenFault Client (at as_structure attributes_tag ts) d.kind) (attribute_demands ++ client_demands)
given_reasons ts = each_append (λ (d : Demand). Fails d ts → GivenFault Client (at as_structure attributes_tag ts) d.kind) attribute_demands client_demands (attribute_reasons Client ts) (client_reasons ts)

filter_reasons : (ts : Trees) → Each (λ (d : Demand). Fails d ts → LocateFault ts d.kind) filter_demands
filter_reasons ts = (
  (λ e. locate.in_filter WrongType refl (filter.in_names (name_wrong name_tag (inside attributes_tag ts) e))),
  (
    (λ e. locate.in_filter WrongType refl (filter.in_object_type (each_wrong as_enumeration type.Enumeration decides_enumeration object_type_tag (inside attributes_tag ts) e))),
    (
      (λ e. locate.in_filter WrongType refl (filter.in_algorithm (each_wrong as_enumeration type.Enumeration decides_enumeration cryptographic_algorithm (inside attributes_tag ts) e))),
      (
        (λ e. locate.in_filter WrongType refl (filter.in_length (each_wrong as_integer type.Integer decides_integer cryptographic_length (inside attributes_tag ts) e))),
        (
          (λ e. locate.in_filter WrongType refl (filter.in_mask (each_wrong as_integer type.Integer decides_integer cryptographic_usage_mask (inside attributes_tag ts) e))),
          (
            (λ e. locate.in_filter WrongType refl (filter.in_state (each_wrong as_enumeration type.Enumeration decides_enumeration state_tag (inside attributes_tag ts) e))),
            (
              (λ e. locate.in_filter WrongType refl (filter.in_initial (each_wrong as_date type.DateTime decides_date initial_date (inside attributes_tag ts) e))),
              (
                (λ e. locate.in_filter WrongType refl (filter.in_activation (each_wrong as_date type.DateTime decides_date activation_date (inside attributes_tag ts) e))),
                (
                  (λ e. locate.in_filter WrongType refl (filter.in_deactivation (each_wrong as_date type.DateTime decides_date deactivation_date (inside attributes_tag ts) e))),
                  (
                    (λ e. locate.in_filter WrongType refl (filter.in_destroy (each_wrong as_date type.DateTime decides_date destroy_date (inside attributes_tag ts) e))),
                    (
                      (λ e. locate.in_filter WrongType refl (filter.in_compromise (each_wrong as_date type.DateTime decides_date compromise_date (inside attributes_tag ts) e))),
                      tt,
                    ),
                  ),
                ),
              ),
            ),
          ),
        ),
      ),
    ),
  ),
)

-- ---- Key Blocks

block_reasons : (ts : Trees) → Each (λ (d : Demand). Fails d ts → BlockFault (block_inside ts) d.kind) block_demands
block_reasons ts = (
  (λ e. block.in_wrapping refl (there key_wrapping_data (block_inside ts) e)),
  (
    (λ e. block.in_format (needed as_enumeration type.Enumeration decides_enumeration key_format_type (block_inside ts) Missing e)),
    (
      (λ e. block.in_format_number refl (unlisted numbers.KeyFormats format_of (λ m. refl) key_format_type (block_inside ts) e)),
      (
        (λ e. block.in_value (absent as_structure key_value (block_inside ts) Missing Format e)),
        (
          (λ e. block.in_value (mistyped as_structure type.Structure decides_structure key_value (block_inside ts) Missing Format e)),
          (
            (λ e. block.in_material (absent as_bytes key_material (inside key_value (block_inside ts)) Missing Format e)),
            (
              (λ e. block.in_material (mistyped as_bytes type.Bytes decides_bytes key_material (inside key_value (block_inside ts)) Missing Format e)),
              (
                (λ e. block.in_algorithm refl (wrong as_enumeration type.Enumeration decides_enumeration cryptographic_algorithm (block_inside ts) e)),
                (
                  (λ e. block.in_length refl (wrong as_integer type.Integer decides_integer cryptographic_length (block_inside ts) e)),
                  tt,
                ),
              ),
            ),
          ),
        ),
      ),
    ),
  ),
)

-- no object
object_absent_at : (o : Option Tree) → is_some (fails wanted.There (option_to_list o)) ≡ true → NeededFault (typed as_shape o) Missing Missing Missing
object_absent_at None e = refl
object_absent_at (Some t) e = let h : false ≡ true = e in cc

object_absent : (ts : Trees) → is_some (fails wanted.There (all_at Object ts)) ≡ true → NeededFault (shape_in ts) Missing Missing Missing
object_absent ts e = object_absent_at (object_in ts) e

-- ---- what is asked

create_reasons : (ts : Trees) → Each (λ (d : Demand). Fails d ts → CreateFault ts d.kind) create_demands
create_reasons ts = (
  (λ e. create.in_object_type (needed as_enumeration type.Enumeration decides_enumeration object_type_tag ts Missing e)),
  (
    (λ e. create.in_type_number refl (unlisted numbers.CreatedType created_of (λ m. refl) object_type_tag ts e)),
    (
      (λ e. create.in_attributes (given_wrong Client (at as_structure attributes_tag ts) (wrong as_structure type.Structure decides_structure attributes_tag ts e))),
      (
        (λ e. create.in_attribute_type refl (unlisted numbers.ObjectTypes type_of (λ m. refl) object_type_tag (inside attributes_tag ts) e)),
        (
          (λ e. create.in_algorithm refl (none_there cryptographic_algorithm (inside attributes_tag ts) e)),
          (
            (λ e. create.in_length refl (none_there cryptographic_length (inside attributes_tag ts) e)),
            (
              (λ e. create.in_mask refl (none_there cryptographic_usage_mask (inside attributes_tag ts) e)),
              tt,
            ),
          ),
        ),
      ),
    ),
  ),
)

register_reasons : (ts : Trees) → Each (λ (d : Demand). Fails d ts → RegisterFault ts d.kind) register_demands
register_reasons ts = (
  (λ e. register.in_object_type (needed as_enumeration type.Enumeration decides_enumeration object_type_tag ts Missing e)),
  (
    (λ e. register.in_type_number refl (unlisted numbers.ObjectTypes type_of (λ m. refl) object_type_tag ts e)),
    (
      (λ e. register.in_attributes (given_wrong Client (at as_structure attributes_tag ts) (wrong as_structure type.Structure decides_structure attributes_tag ts e))),
      (
        (λ e. register.in_attribute_type refl (unlisted numbers.ObjectTypes type_of (λ m. refl) object_type_tag (inside attributes_tag ts) e)),
        (
          (λ e. register.in_object (object_absent ts e)),
          tt,
        ),
      ),
    ),
  ),
)

locate_reasons : (ts : Trees) → Each (λ (d : Demand). Fails d ts → LocateFault ts d.kind) locate_demands
locate_reasons ts = (
  (λ e. locate.in_maximum refl (wrong as_integer type.Integer decides_integer maximum_items ts e)),
  (
    (λ e. locate.in_attributes refl (wrong as_structure type.Structure decides_structure attributes_tag ts e)),
    (
      (λ e. locate.in_type_number refl (unlisted numbers.ObjectTypes type_of (λ m. refl) object_type_tag (inside attributes_tag ts) e)),
      tt,
    ),
  ),
)

get_reasons : (ts : Trees) → Each (λ (d : Demand). Fails d ts → GetFault ts d.kind) get_demands
get_reasons ts = (
  (λ e. get.in_identifier refl (wrong as_text type.Text decides_text unique_identifier ts e)),
  (
    (λ e. get.in_specification refl (there key_wrapping_specification ts e)),
    tt,
  ),
)

revoke_reasons : (ts : Trees) → Each (λ (d : Demand). Fails d ts → RevokeFault ts d.kind) revoke_demands
revoke_reasons ts = (
  (λ e. revoke.in_identifier refl (wrong as_text type.Text decides_text unique_identifier ts e)),
  (
    (λ e. revoke.in_code (needed as_enumeration type.Enumeration decides_enumeration revocation_reason_code (inside revocation_reason ts) Missing e)),
    tt,
  ),
)

identifier_reasons : (ts : Trees) → Each (λ (d : Demand). Fails d ts → IdentifierFault ts d.kind) identifier_demands
identifier_reasons ts = (
  (λ e. (refl, (wrong as_text type.Text decides_text unique_identifier ts e))),
  tt,
)

pub asked_reasons : AskedDemandsAreReasons
asked_reasons operation.Create ts =
    each_append (λ (d : Demand). Fails d ts → CreateFault ts d.kind) create_demands (attribute_demands ++ client_demands) (create_reasons ts)
    (each_of ts (GivenFault Client (at as_structure attributes_tag ts)) (CreateFault ts) (λ k w. create.in_attributes w) (attribute_demands ++ client_demands) (given_reasons ts))
asked_reasons operation.Register ts =
    each_append (λ (d : Demand). Fails d ts → RegisterFault ts d.kind) register_demands (block_demands ++ (attribute_demands ++ client_demands)) (register_reasons ts)
    (each_append (λ (d : Demand). Fails d ts → RegisterFault ts d.kind) block_demands (attribute_demands ++ client_demands)
    (each_of ts (BlockFault (block_inside ts)) (RegisterFault ts) (λ k w. register.in_block w) block_demands (block_reasons ts))
    (each_of ts (GivenFault Client (at as_structure attributes_tag ts)) (RegisterFault ts) (λ k w. register.in_attributes w) (attribute_demands ++ client_demands) (given_reasons ts)))
asked_reasons operation.Locate ts = each_append (λ (d : Demand). Fails d ts → LocateFault ts d.kind) locate_demands filter_demands (locate_reasons ts) (filter_reasons ts)
asked_reasons operation.Get ts = get_reasons ts
asked_reasons operation.GetAttributes ts = identifier_reasons ts
asked_reasons operation.Activate ts = identifier_reasons ts
asked_reasons operation.Revoke ts = revoke_reasons ts
asked_reasons operation.Destroy ts = identifier_reasons ts
asked_reasons (operation.Idle n) ts = tt
asked_reasons (operation.Other n) ts = tt

-- ---- what was done

registered_reasons : (ts : Trees) → Each (λ (d : Demand). Fails d ts → RegisteredFault ts d.kind) registered_demands
registered_reasons ts = (
  (λ e. registered.in_type refl (wrong as_enumeration type.Enumeration decides_enumeration object_type_tag ts e)),
  (
    (λ e. registered.in_identifier (absent as_text unique_identifier ts Missing IdentifierForm e)),
    (
      (λ e. registered.in_identifier (mistyped as_text type.Text decides_text unique_identifier ts Missing IdentifierForm e)),
      tt,
    ),
  ),
)

located_reasons : (ts : Trees) → Each (λ (d : Demand). Fails d ts → LocatedFault ts d.kind) located_demands
located_reasons ts = (
  (λ e. (refl, each_wrong as_text type.Text decides_text unique_identifier ts e)),
  tt,
)

got_reasons : (ts : Trees) → Each (λ (d : Demand). Fails d ts → GotFault ts d.kind) got_demands
got_reasons ts = (
  (λ e. got.in_type refl (wrong as_enumeration type.Enumeration decides_enumeration object_type_tag ts e)),
  (
    (λ e. got.in_type_number refl (unlisted numbers.ObjectTypes type_of (λ m. refl) object_type_tag ts e)),
    (
      (λ e. got.in_shown_identifier refl (wrong as_text type.Text decides_text unique_identifier ts e)),
      (
        (λ e. got.in_object (object_absent ts e)),
        tt,
      ),
    ),
  ),
)

got_attributes_reasons : (ts : Trees) → Each (λ (d : Demand). Fails d ts → GotAttributesFault ts d.kind) got_attributes_demands
got_attributes_reasons ts = (
  (λ e. got_attributes.in_identifier refl (wrong as_text type.Text decides_text unique_identifier ts e)),
  (
    (λ e. got_attributes.in_attributes (given_wrong Server (at as_structure attributes_tag ts) (wrong as_structure type.Structure decides_structure attributes_tag ts e))),
    (
      (λ e. got_attributes.in_attribute_type refl (unlisted numbers.ObjectTypes type_of (λ m. refl) object_type_tag (inside attributes_tag ts) e)),
      tt,
    ),
  ),
)

pub done_reasons : DoneDemandsAreReasons
done_reasons operation.Create ts = registered_reasons ts
done_reasons operation.Register ts = registered_reasons ts
done_reasons operation.Locate ts = located_reasons ts
done_reasons operation.Get ts =
    each_append (λ (d : Demand). Fails d ts → GotFault ts d.kind) got_demands block_demands (got_reasons ts)
    (each_of ts (BlockFault (block_inside ts)) (GotFault ts) (λ k w. got.in_block w) block_demands (block_reasons ts))
done_reasons operation.GetAttributes ts =
    each_append (λ (d : Demand). Fails d ts → GotAttributesFault ts d.kind) got_attributes_demands attribute_demands (got_attributes_reasons ts)
    (each_of ts (GivenFault Server (at as_structure attributes_tag ts)) (GotAttributesFault ts) (λ k w. got_attributes.in_attributes w) attribute_demands (attribute_reasons Server ts))
done_reasons operation.Activate ts = identifier_reasons ts
done_reasons operation.Revoke ts = identifier_reasons ts
done_reasons operation.Destroy ts = identifier_reasons ts
done_reasons (operation.Idle n) ts = tt
done_reasons (operation.Other n) ts = tt
