-- What payloads share: the Key Block of an object, and attributes (KMIP 2.1, sections 3.1 and 4).
use Rattle.std.specs.Prelude.{List, [], ◌∷◌}
use Rattle.kmipa_attrs.specs.Tags.{activation_date, compromise_date, cryptographic_algorithm, cryptographic_length, cryptographic_usage_mask, deactivation_date, destroy_date, initial_date, key_format_type, key_material, key_value, key_wrapping_data, name_tag, object_type_tag, state_tag, unique_identifier}
use Rattle.kmipa_msgs.specs.declared.kind.OutsideKind.TheVariants as kind
use Rattle.kmipa_outside.specs.Demands.{wants}
use Rattle.kmipa_outside.specs.declared.demand.Demand.{Demand}
use Rattle.kmipa_outside.specs.declared.demand.Inside.TheVariants as inside
use Rattle.kmipa_outside.specs.declared.demand.Numbers.TheVariants as numbers
use Rattle.kmipa_outside.specs.declared.demand.Step.TheVariants.{Tag}
use Rattle.kmipa_outside.specs.declared.demand.Wanted.TheVariants as wanted
use Rattle.kmipa_outside.specs.declared.types.ItemType.TheVariants as type

-- a Key Block
abbrev pub block_demands : List Demand
block_demands =
    wants inside.Block (Tag key_wrapping_data) wanted.Nothing kind.Wrapped ∷
    wants inside.Block (Tag key_format_type) (wanted.Typed type.Enumeration) kind.Missing ∷
    wants inside.Block (Tag key_format_type) (wanted.OneOf numbers.KeyFormats) kind.Format ∷
    wants inside.Block (Tag key_value) wanted.There kind.Missing ∷
    wants inside.Block (Tag key_value) (wanted.MaybeTyped type.Structure) kind.Format ∷
    wants inside.Value (Tag key_material) wanted.There kind.Missing ∷
    wants inside.Value (Tag key_material) (wanted.MaybeTyped type.Bytes) kind.Format ∷
    wants inside.Block (Tag cryptographic_algorithm) (wanted.MaybeTyped type.Enumeration) kind.Missing ∷
    wants inside.Block (Tag cryptographic_length) (wanted.MaybeTyped type.Integer) kind.Missing ∷
    []

-- attributes, by whomever they are given
abbrev pub attribute_demands : List Demand
attribute_demands =
    wants inside.Attributes (Tag name_tag) wanted.EachName kind.Attribute ∷
    wants inside.Attributes (Tag object_type_tag) (wanted.EachTyped type.Enumeration) kind.Attribute ∷
    wants inside.Attributes (Tag object_type_tag) wanted.Once kind.Attribute ∷
    wants inside.Attributes (Tag cryptographic_algorithm) (wanted.EachTyped type.Enumeration) kind.Attribute ∷
    wants inside.Attributes (Tag cryptographic_algorithm) wanted.Once kind.Attribute ∷
    wants inside.Attributes (Tag cryptographic_length) (wanted.EachTyped type.Integer) kind.Attribute ∷
    wants inside.Attributes (Tag cryptographic_length) wanted.Once kind.Attribute ∷
    wants inside.Attributes (Tag cryptographic_usage_mask) (wanted.EachTyped type.Integer) kind.Attribute ∷
    wants inside.Attributes (Tag cryptographic_usage_mask) wanted.Once kind.Attribute ∷
    wants inside.Attributes (Tag state_tag) (wanted.EachTyped type.Enumeration) kind.Attribute ∷
    wants inside.Attributes (Tag state_tag) wanted.Once kind.Attribute ∷
    wants inside.Attributes (Tag initial_date) (wanted.EachTyped type.DateTime) kind.Attribute ∷
    wants inside.Attributes (Tag initial_date) wanted.Once kind.Attribute ∷
    wants inside.Attributes (Tag activation_date) (wanted.EachTyped type.DateTime) kind.Attribute ∷
    wants inside.Attributes (Tag activation_date) wanted.Once kind.Attribute ∷
    wants inside.Attributes (Tag deactivation_date) (wanted.EachTyped type.DateTime) kind.Attribute ∷
    wants inside.Attributes (Tag deactivation_date) wanted.Once kind.Attribute ∷
    wants inside.Attributes (Tag destroy_date) (wanted.EachTyped type.DateTime) kind.Attribute ∷
    wants inside.Attributes (Tag destroy_date) wanted.Once kind.Attribute ∷
    wants inside.Attributes (Tag compromise_date) (wanted.EachTyped type.DateTime) kind.Attribute ∷
    wants inside.Attributes (Tag compromise_date) wanted.Once kind.Attribute ∷
    []

-- attributes that no client may give
abbrev pub client_demands : List Demand
client_demands =
    wants inside.Attributes (Tag state_tag) wanted.Nothing kind.Attribute ∷
    wants inside.Attributes (Tag initial_date) wanted.Nothing kind.Attribute ∷
    wants inside.Attributes (Tag destroy_date) wanted.Nothing kind.Attribute ∷
    wants inside.Attributes (Tag compromise_date) wanted.Nothing kind.Attribute ∷
    wants inside.Attributes (Tag unique_identifier) wanted.Nothing kind.Attribute ∷
    []

-- the filters of a Locate: their types alone
abbrev pub filter_demands : List Demand
filter_demands =
    wants inside.Attributes (Tag name_tag) wanted.EachName kind.Attribute ∷
    wants inside.Attributes (Tag object_type_tag) (wanted.EachTyped type.Enumeration) kind.Attribute ∷
    wants inside.Attributes (Tag cryptographic_algorithm) (wanted.EachTyped type.Enumeration) kind.Attribute ∷
    wants inside.Attributes (Tag cryptographic_length) (wanted.EachTyped type.Integer) kind.Attribute ∷
    wants inside.Attributes (Tag cryptographic_usage_mask) (wanted.EachTyped type.Integer) kind.Attribute ∷
    wants inside.Attributes (Tag state_tag) (wanted.EachTyped type.Enumeration) kind.Attribute ∷
    wants inside.Attributes (Tag initial_date) (wanted.EachTyped type.DateTime) kind.Attribute ∷
    wants inside.Attributes (Tag activation_date) (wanted.EachTyped type.DateTime) kind.Attribute ∷
    wants inside.Attributes (Tag deactivation_date) (wanted.EachTyped type.DateTime) kind.Attribute ∷
    wants inside.Attributes (Tag destroy_date) (wanted.EachTyped type.DateTime) kind.Attribute ∷
    wants inside.Attributes (Tag compromise_date) (wanted.EachTyped type.DateTime) kind.Attribute ∷
    []
