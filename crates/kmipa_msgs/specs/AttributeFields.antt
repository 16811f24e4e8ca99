-- The Attributes of a payload (KMIP 2.1, section 4).
use Rattle.std.specs.Prelude.{◌≡◌, Bool, true, Option, Some, Result, Ok, Err}
use Rattle.kmipa_ttlv.specs.Tree.{Trees}
use Rattle.kmipa_attrs.specs.Attributes.{SaysAttributes, AttributesFault, attributes_in}
use Rattle.kmipa_attrs.specs.Sets.{Attributes, no_attributes}
use Rattle.kmipa_attrs.specs.declared.fault.AttrFault.{AttrFault}
use Rattle.kmipa_attrs.specs.declared.fields.Field.{Field}
use Rattle.kmipa_attrs.specs.declared.fields.Field.TheVariants.{Absent, Wrong, There}
use Rattle.kmipa_attrs.specs.declared.side.Side.{Side}
use Rattle.kmipa_msgs.specs.declared.kind.OutsideKind.{OutsideKind}
use Rattle.kmipa_msgs.specs.declared.kind.OutsideKind.TheVariants.{Missing, Attribute}

-- absent Attributes mean no attributes
abbrev pub SaysGiven : Field Trees → Attributes → Type 0
SaysGiven Absent a = a ≡ no_attributes
SaysGiven Wrong a = ⊥
SaysGiven (There ts) a = SaysAttributes ts a

abbrev pub GivenFault : Side → Field Trees → OutsideKind → Type 0
GivenFault side Absent k = ⊥
GivenFault side Wrong k = k ≡ Missing
GivenFault side (There ts) k = (k ≡ Attribute) × ((reported : AttrFault) × AttributesFault side ts reported)

-- two values that are both there are equal
abbrev pub agree : {A : Type 0} → (A → A → Bool) → Option A → Option A → Bool
agree equal (Some x) (Some y) = equal x y
agree equal _ _ = true

-- the reading
abbrev pub attribute_kind : Result Attributes AttrFault → Result Attributes OutsideKind
attribute_kind (Ok a) = Ok a
attribute_kind (Err fault) = Err Attribute

abbrev pub given_in : Side → Field Trees → Result Attributes OutsideKind
given_in side Absent = Ok no_attributes
given_in side Wrong = Err Missing
given_in side (There ts) = attribute_kind (attributes_in side ts)
