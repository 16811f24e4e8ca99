-- Lines of a declaration: allow lines, and the attributes that a server itself gives an object at birth (profile).
use Rattle.std.specs.Prelude.{◌≡◌, ◌≢◌, ◌==◌, ℕ, if◌then◌else◌, Option, Some, None}
use Rattle.kmipa_ttlv.specs.Tree.{Tree, structure, scalar, none, more, enumeration}
use Rattle.kmipa_attrs.specs.Tags.{name_tag, cryptographic_algorithm, cryptographic_length, cryptographic_usage_mask, activation_date, deactivation_date, state_tag, attribute_reference}
use Rattle.kmipa_object.specs.Allowances.{act_number, allow_number}
use Rattle.kmipa_object.specs.Life.{state_number}
use Rattle.kmipa_object.specs.Table.{allowed}
use Rattle.kmipa_object.specs.declared.allow.AllowLine.{AllowLine}
use Rattle.kmipa_object.specs.declared.allow.Allow.TheVariants.{Not}
use Rattle.kmipa_record.specs.Tags.{allow_line_tag, act_tag, allow_tag, own_line_tag}
use Rattle.kmipa_record.specs.declared.own_attribute.OwnAttribute.{OwnAttribute}
use Rattle.kmipa_record.specs.declared.own_attribute.OwnAttribute.TheVariants.{Name, CryptographicAlgorithm, CryptographicLength, CryptographicUsageMask, ActivationDate, DeactivationDate}

-- the item that is the record of an allow line
abbrev pub allow_line_item : AllowLine → Tree
allow_line_item l =
    structure allow_line_tag (more (scalar act_tag (enumeration (act_number l.act))) (more (scalar state_tag (enumeration (state_number l.state))) (more (scalar allow_tag (enumeration (allow_number l.allow))) none)))

-- a line may move the table's word for its cell where that isn't `not`
abbrev pub IsMovable : AllowLine → Type 0
IsMovable l = allowed l.act l.state ≢ Not

-- two lines are for one cell of the table
abbrev pub AreOfOneCell : AllowLine → AllowLine → Type 0
AreOfOneCell a b = (a.act ≡ b.act) × (a.state ≡ b.state)

-- the tag of an attribute that a server itself may give
abbrev pub own_tag : OwnAttribute → ℕ
own_tag Name = name_tag
own_tag CryptographicAlgorithm = cryptographic_algorithm
own_tag CryptographicLength = cryptographic_length
own_tag CryptographicUsageMask = cryptographic_usage_mask
own_tag ActivationDate = activation_date
own_tag DeactivationDate = deactivation_date

abbrev pub own_attribute_of : ℕ → Option OwnAttribute
own_attribute_of n =
    if n == name_tag then Some Name else if n == cryptographic_algorithm then Some CryptographicAlgorithm else
    if n == cryptographic_length then Some CryptographicLength else if n == cryptographic_usage_mask then Some CryptographicUsageMask else
    if n == activation_date then Some ActivationDate else if n == deactivation_date then Some DeactivationDate else
    None

-- the item that is the record of an own line
abbrev pub own_line_item : OwnAttribute → Tree
own_line_item a = structure own_line_tag (more (scalar attribute_reference (enumeration (own_tag a))) none)
