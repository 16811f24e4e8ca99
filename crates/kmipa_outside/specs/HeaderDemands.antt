-- The headers of messages (KMIP 2.1, section 9).
use Rattle.std.specs.Prelude.{ℕ, pos, List, [], ◌∷◌}
use Rattle.kmipa_attrs.specs.Tags.{batch_count, batch_error_continuation_option, batch_order_option, protocol_version_major, protocol_version_minor, time_stamp}
use Rattle.kmipa_msgs.specs.declared.kind.OutsideKind.TheVariants as kind
use Rattle.kmipa_outside.specs.Demands.{wants}
use Rattle.kmipa_outside.specs.declared.demand.Demand.{Demand}
use Rattle.kmipa_outside.specs.declared.demand.Inside.TheVariants as inside
use Rattle.kmipa_outside.specs.declared.demand.Numbers.TheVariants as numbers
use Rattle.kmipa_outside.specs.declared.demand.Step.TheVariants.{Tag}
use Rattle.kmipa_outside.specs.declared.demand.Wanted.TheVariants as wanted
use Rattle.kmipa_outside.specs.declared.types.ItemType.TheVariants as type

-- a Request Header, before so many items
abbrev pub request_header_demands : ℕ → List Demand
request_header_demands count =
    wants inside.Version (Tag protocol_version_major) (wanted.Integer (pos 2)) kind.Version ∷
    wants inside.Version (Tag protocol_version_minor) (wanted.Integer (pos 1)) kind.Version ∷
    wants inside.Here (Tag batch_count) (wanted.Count count) kind.Count ∷
    wants inside.Here (Tag batch_error_continuation_option) (wanted.MaybeTyped type.Enumeration) kind.Missing ∷
    wants inside.Here (Tag batch_error_continuation_option) (wanted.OneOf numbers.BatchOptions) kind.Missing ∷
    wants inside.Here (Tag batch_order_option) (wanted.MaybeTyped type.Boolean) kind.Missing ∷
    []

-- a Response Header, before so many items
abbrev pub response_header_demands : ℕ → List Demand
response_header_demands count =
    wants inside.Version (Tag protocol_version_major) (wanted.Integer (pos 2)) kind.Version ∷
    wants inside.Version (Tag protocol_version_minor) (wanted.Integer (pos 1)) kind.Version ∷
    wants inside.Here (Tag batch_count) (wanted.Count count) kind.Count ∷
    wants inside.Here (Tag time_stamp) (wanted.Typed type.DateTime) kind.Missing ∷
    []
