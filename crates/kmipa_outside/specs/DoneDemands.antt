-- What the fields of answers and their Response Payloads are to be (KMIP 2.1, sections 6.1 and 9).
use Rattle.std.specs.Prelude.{List, [], ◌∷◌}
use Rattle.kmipa_attrs.specs.Tags.{attributes_tag, object_type_tag, operation_tag, result_reason, result_status, unique_identifier}
use Rattle.kmipa_msgs.specs.declared.kind.OutsideKind.TheVariants as kind
use Rattle.kmipa_outside.specs.Demands.{wants}
use Rattle.kmipa_outside.specs.declared.demand.Demand.{Demand}
use Rattle.kmipa_outside.specs.declared.demand.Inside.TheVariants as inside
use Rattle.kmipa_outside.specs.declared.demand.Numbers.TheVariants as numbers
use Rattle.kmipa_outside.specs.declared.demand.Step.TheVariants.{Tag, Object}
use Rattle.kmipa_outside.specs.declared.demand.Wanted.TheVariants as wanted
use Rattle.kmipa_outside.specs.declared.types.ItemType.TheVariants as type

-- an item of a response; 2 is Pending
abbrev pub answer_demands : List Demand
answer_demands =
    wants inside.Here (Tag operation_tag) (wanted.MaybeTyped type.Enumeration) kind.Missing ∷
    wants inside.Here (Tag result_status) (wanted.Typed type.Enumeration) kind.Missing ∷
    wants inside.Here (Tag result_status) (wanted.Other 2) kind.Pending ∷
    wants inside.Here (Tag result_status) (wanted.OneOf numbers.Statuses) kind.Missing ∷
    wants inside.Here (Tag result_reason) (wanted.MaybeTyped type.Enumeration) kind.Missing ∷
    []

-- an object that was made
abbrev pub registered_demands : List Demand
registered_demands =
    wants inside.Here (Tag object_type_tag) (wanted.MaybeTyped type.Enumeration) kind.Missing ∷
    wants inside.Here (Tag unique_identifier) wanted.There kind.Missing ∷
    wants inside.Here (Tag unique_identifier) (wanted.MaybeTyped type.Text) kind.IdentifierForm ∷
    []

-- identifiers that were found
abbrev pub located_demands : List Demand
located_demands =
    wants inside.Here (Tag unique_identifier) (wanted.EachTyped type.Text) kind.IdentifierForm ∷
    []

-- an object that is shown; besides, its Key Block
abbrev pub got_demands : List Demand
got_demands =
    wants inside.Here (Tag object_type_tag) (wanted.MaybeTyped type.Enumeration) kind.Missing ∷
    wants inside.Here (Tag object_type_tag) (wanted.OneOf numbers.ObjectTypes) kind.ObjectType ∷
    wants inside.Here (Tag unique_identifier) (wanted.MaybeTyped type.Text) kind.IdentifierForm ∷
    wants inside.Here Object wanted.There kind.Missing ∷
    []

-- attributes that are shown; besides, those as of a server
abbrev pub got_attributes_demands : List Demand
got_attributes_demands =
    wants inside.Here (Tag unique_identifier) (wanted.MaybeTyped type.Text) kind.IdentifierForm ∷
    wants inside.Here (Tag attributes_tag) (wanted.MaybeTyped type.Structure) kind.Missing ∷
    wants inside.Attributes (Tag object_type_tag) (wanted.OneOf numbers.ObjectTypes) kind.ObjectType ∷
    []
