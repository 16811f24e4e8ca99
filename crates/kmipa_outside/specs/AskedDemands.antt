-- What the fields of Request Payloads are to be (KMIP 2.1, section 6.1).
use Rattle.std.specs.Prelude.{List, [], ◌∷◌}
use Rattle.kmipa_attrs.specs.Tags.{attributes_tag, cryptographic_algorithm, cryptographic_length, cryptographic_usage_mask, key_wrapping_specification, maximum_items, object_type_tag, revocation_reason_code, unique_identifier}
use Rattle.kmipa_msgs.specs.declared.kind.OutsideKind.TheVariants as kind
use Rattle.kmipa_outside.specs.Demands.{wants}
use Rattle.kmipa_outside.specs.declared.demand.Demand.{Demand}
use Rattle.kmipa_outside.specs.declared.demand.Inside.TheVariants as inside
use Rattle.kmipa_outside.specs.declared.demand.Numbers.TheVariants as numbers
use Rattle.kmipa_outside.specs.declared.demand.Step.TheVariants.{Tag, Object}
use Rattle.kmipa_outside.specs.declared.demand.Wanted.TheVariants as wanted
use Rattle.kmipa_outside.specs.declared.types.ItemType.TheVariants as type

-- Create; and its Attributes, as of a client
abbrev pub create_demands : List Demand
create_demands =
    wants inside.Here (Tag object_type_tag) (wanted.Typed type.Enumeration) kind.Missing ∷
    wants inside.Here (Tag object_type_tag) (wanted.OneOf numbers.CreatedType) kind.ObjectType ∷
    wants inside.Here (Tag attributes_tag) (wanted.MaybeTyped type.Structure) kind.Missing ∷
    wants inside.Attributes (Tag object_type_tag) (wanted.OneOf numbers.ObjectTypes) kind.ObjectType ∷
    wants inside.Attributes (Tag cryptographic_algorithm) wanted.There kind.Missing ∷
    wants inside.Attributes (Tag cryptographic_length) wanted.There kind.Missing ∷
    wants inside.Attributes (Tag cryptographic_usage_mask) wanted.There kind.Missing ∷
    []

-- Register; besides, its Attributes as of a client, and its Key Block
abbrev pub register_demands : List Demand
register_demands =
    wants inside.Here (Tag object_type_tag) (wanted.Typed type.Enumeration) kind.Missing ∷
    wants inside.Here (Tag object_type_tag) (wanted.OneOf numbers.ObjectTypes) kind.ObjectType ∷
    wants inside.Here (Tag attributes_tag) (wanted.MaybeTyped type.Structure) kind.Missing ∷
    wants inside.Attributes (Tag object_type_tag) (wanted.OneOf numbers.ObjectTypes) kind.ObjectType ∷
    wants inside.Here Object wanted.There kind.Missing ∷
    []

-- Locate; besides, its filters
abbrev pub locate_demands : List Demand
locate_demands =
    wants inside.Here (Tag maximum_items) (wanted.MaybeTyped type.Integer) kind.Missing ∷
    wants inside.Here (Tag attributes_tag) (wanted.MaybeTyped type.Structure) kind.Missing ∷
    wants inside.Attributes (Tag object_type_tag) (wanted.OneOf numbers.ObjectTypes) kind.ObjectType ∷
    []

-- Get
abbrev pub get_demands : List Demand
get_demands =
    wants inside.Here (Tag unique_identifier) (wanted.MaybeTyped type.Text) kind.IdentifierForm ∷
    wants inside.Here (Tag key_wrapping_specification) wanted.Nothing kind.Wrapped ∷
    []

-- Revoke
abbrev pub revoke_demands : List Demand
revoke_demands =
    wants inside.Here (Tag unique_identifier) (wanted.MaybeTyped type.Text) kind.IdentifierForm ∷
    wants inside.Revocation (Tag revocation_reason_code) (wanted.Typed type.Enumeration) kind.Missing ∷
    []

-- a payload that has at most an identifier
abbrev pub identifier_demands : List Demand
identifier_demands =
    wants inside.Here (Tag unique_identifier) (wanted.MaybeTyped type.Text) kind.IdentifierForm ∷
    []
