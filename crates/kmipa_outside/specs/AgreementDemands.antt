-- Fields of a Request Payload that are to say the same: what stands in one of them is wanted of the other (profile).
use Rattle.std.specs.Prelude.{ℕ, ℤ, List, [], ◌++◌, Option, option_map, option_to_list}
use Rattle.kmipa_ttlv.specs.Tree.{Tree, Trees, tag_of}
use Rattle.kmipa_attrs.specs.Fields.{at, value_in, as_enumeration, as_integer}
use Rattle.kmipa_attrs.specs.ObjectTypes.{type_number}
use Rattle.kmipa_attrs.specs.Tags.{cryptographic_algorithm, cryptographic_length, object_type_tag}
use Rattle.kmipa_msgs.specs.declared.kind.OutsideKind.TheVariants as kind
use Rattle.kmipa_msgs.specs.declared.operation.Operation.{Operation}
use Rattle.kmipa_msgs.specs.declared.operation.Operation.TheVariants.{Create, Register}
use Rattle.kmipa_msgs.specs.Objects.{block_inside, object_in, shape_of}
use Rattle.kmipa_outside.specs.Demands.{wants}
use Rattle.kmipa_outside.specs.declared.demand.Beside.TheVariants as beside
use Rattle.kmipa_outside.specs.declared.demand.Demand.{Demand}
use Rattle.kmipa_outside.specs.declared.demand.Inside.TheVariants as inside
use Rattle.kmipa_outside.specs.declared.demand.Step.TheVariants.{Tag}
use Rattle.kmipa_outside.specs.declared.demand.Wanted.TheVariants as wanted

-- the payload's Object Type is that of its object, which the object's tag tells
abbrev pub object_wanted : Tree → Demand
object_wanted t = wants inside.Here (Tag object_type_tag) (wanted.Same (type_number (shape_of (tag_of t))) beside.Object) kind.Disagree

-- an Object Type among the Attributes is that of the payload
abbrev pub type_wanted : ℕ → Demand
type_wanted n = wants inside.Attributes (Tag object_type_tag) (wanted.Same n beside.Payload) kind.Disagree

-- an algorithm and a length among the Attributes are those of the Key Block
abbrev pub algorithm_wanted : ℕ → Demand
algorithm_wanted n = wants inside.Attributes (Tag cryptographic_algorithm) (wanted.Same n beside.Block) kind.Disagree

abbrev pub length_wanted : ℤ → Demand
length_wanted z = wants inside.Attributes (Tag cryptographic_length) (wanted.SameInteger z beside.Block) kind.Disagree

-- each of them, where the other field is there
abbrev pub object_demand : Trees → Option Demand
object_demand ts = option_map object_wanted (object_in ts)

abbrev pub type_demand : Trees → Option Demand
type_demand ts = option_map type_wanted (value_in (at as_enumeration object_type_tag ts))

abbrev pub algorithm_demand : Trees → Option Demand
algorithm_demand ts = option_map algorithm_wanted (value_in (at as_enumeration cryptographic_algorithm (block_inside ts)))

abbrev pub length_demand : Trees → Option Demand
length_demand ts = option_map length_wanted (value_in (at as_integer cryptographic_length (block_inside ts)))

-- what a payload of an operation with these children says twice
abbrev pub agreement_demands : Operation → Trees → List Demand
agreement_demands Create ts = option_to_list (type_demand ts)
agreement_demands Register ts =
    option_to_list (object_demand ts) ++ option_to_list (type_demand ts) ++ option_to_list (algorithm_demand ts) ++ option_to_list (length_demand ts)
agreement_demands operation ts = []
