-- How a field that isn't as wanted is told: where it stands, what stands there, and what is wanted.
use Rattle.std.specs.Prelude.{ℕ, pos, nat_lt, if◌then◌else◌, List, [], ◌++◌, codes, Option, Some, None}
use Rattle.std.specs.Fmt.{decimal, signed_decimal}
use Rattle.kmipa_attrs.specs.Tags.{tag_name_of}
use Rattle.kmipa_outside.specs.declared.demand.Beside.{Beside}
use Rattle.kmipa_outside.specs.declared.demand.Beside.TheVariants as beside
use Rattle.kmipa_outside.specs.declared.demand.Inside.{Inside}
use Rattle.kmipa_outside.specs.declared.demand.Inside.TheVariants.{Here, Version, Attributes, Revocation, Block, Value}
use Rattle.kmipa_outside.specs.declared.demand.Numbers.{Numbers}
use Rattle.kmipa_outside.specs.declared.demand.Numbers.TheVariants.{ObjectTypes, CreatedType, KeyFormats, BatchOptions, Statuses, Failure}
use Rattle.kmipa_outside.specs.declared.demand.Step.{Step}
use Rattle.kmipa_outside.specs.declared.demand.Step.TheVariants.{Tag, Object}
use Rattle.kmipa_outside.specs.declared.demand.Wanted.{Wanted}
use Rattle.kmipa_outside.specs.declared.demand.Wanted.TheVariants as wanted
use Rattle.kmipa_outside.specs.declared.told.FieldTold.{FieldTold}
use Rattle.kmipa_outside.specs.declared.told.Stands.{Stands}
use Rattle.kmipa_outside.specs.declared.told.Stands.TheVariants as stands
use Rattle.kmipa_outside.specs.declared.types.ItemType.{ItemType}
use Rattle.kmipa_outside.specs.declared.types.ItemType.TheVariants as type
use Rattle.kmipa_runs.specs.Notes.{number_name_of}
use Rattle.kmipa_telling.specs.Naming.{number_text}

-- the name of a tag, or a dash
abbrev pub tag_text : ℕ → List ℕ
tag_text n = if nat_lt n 0x100_0000 then tag_name_of n else codes "-"

-- ---- where it stands

-- the header or the payload, and a comma
abbrev pub within_text : Option ℕ → List ℕ
within_text None = []
within_text (Some tag) = tag_text tag ++ codes ", "

-- the structures in it, each with a comma
abbrev pub inside_text : Inside → List ℕ
inside_text Here = []
inside_text Version = codes "Protocol Version, "
inside_text Attributes = codes "Attributes, "
inside_text Revocation = codes "Revocation Reason, "
inside_text Block = codes "Symmetric Key or Secret Data, Key Block, "
inside_text Value = codes "Symmetric Key or Secret Data, Key Block, Key Value, "

-- the field itself
abbrev pub step_text : Step → List ℕ
step_text (Tag n) = tag_text n
step_text Object = codes "Symmetric Key or Secret Data"

-- from the message or the item inward
abbrev pub field_text : FieldTold → List ℕ
field_text f = within_text f.within ++ (inside_text f.demand.inside ++ step_text f.demand.field)

-- ---- what stands there

-- an item of a type
abbrev pub type_text : ItemType → List ℕ
type_text type.Structure = codes "a Structure"
type_text type.Integer = codes "an Integer"
type_text type.LongInteger = codes "a Long Integer"
type_text type.BigInteger = codes "a Big Integer"
type_text type.Enumeration = codes "an Enumeration"
type_text type.Boolean = codes "a Boolean"
type_text type.Text = codes "a Text String"
type_text type.Bytes = codes "a Byte String"
type_text type.DateTime = codes "a Date-Time"
type_text type.Interval = codes "an Interval"
type_text type.DateTimeExtended = codes "a Date-Time Extended"

-- the name of a number of an enumeration, where the standard names it
abbrev pub name_at : Step → ℕ → Option (List ℕ)
name_at (Tag tag) n = if nat_lt tag 0x100_0000 then number_name_of tag n else None
name_at Object n = None

abbrev pub stands_text : Step → Stands → List ℕ
stands_text step stands.Absent = codes "absent"
stands_text step (stands.Item ty) = type_text ty
stands_text step (stands.Number n) = number_text (pos n) (name_at step n)
stands_text step (stands.Integer z) = signed_decimal z
stands_text step (stands.Nth place ty) = type_text ty ++ (codes ", number " ++ (decimal place ++ codes " of them"))
stands_text step (stands.Many n) = decimal n ++ codes " of them"

-- ---- what is wanted

abbrev pub numbers_text : Numbers → List ℕ
numbers_text ObjectTypes = codes "2 Symmetric Key or 7 Secret Data"
numbers_text CreatedType = codes "2 Symmetric Key"
numbers_text KeyFormats = codes "1 Raw or 2 Opaque"
numbers_text BatchOptions = codes "1 Continue, 2 Stop or 3 Undo"
numbers_text Statuses = codes "0 Success, 1 Operation Failed or 3 Operation Undone"
numbers_text Failure = codes "1 Operation Failed"

-- where the same is to stand
abbrev pub beside_text : Beside → List ℕ
beside_text beside.Payload = codes ", as the payload says"
beside_text beside.Object = codes ", as its object is"
beside_text beside.Block = codes ", as its Key Block says"

abbrev pub wanted_text : Step → Wanted → List ℕ
wanted_text step wanted.There = codes "an item"
wanted_text step (wanted.Typed ty) = type_text ty
wanted_text step (wanted.MaybeTyped ty) = type_text ty
wanted_text step wanted.Nothing = codes "none"
wanted_text step (wanted.Integer z) = signed_decimal z
wanted_text step (wanted.Count n) = decimal n ++ codes ", the number of Batch Items, and at least 1"
wanted_text step (wanted.OneOf numbers) = numbers_text numbers
wanted_text step (wanted.Other n) = codes "not " ++ number_text (pos n) (name_at step n)
wanted_text step (wanted.EachTyped ty) = codes "each " ++ type_text ty
wanted_text step wanted.EachName = codes "each a Structure with a Name Value"
wanted_text step wanted.Once = codes "one at most"
wanted_text step (wanted.Same n b) = number_text (pos n) (name_at step n) ++ beside_text b
wanted_text step (wanted.SameInteger z b) = signed_decimal z ++ beside_text b
