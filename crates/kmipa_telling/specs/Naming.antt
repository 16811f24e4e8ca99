-- How numbers, names and attributes are told on a line: as the standard names them.
use Rattle.std.specs.Prelude.{ℕ, ℤ, pos, negsuc, ◌==◌, nat_lt, Bool, true, false, if◌then◌else◌, List, [], ◌∷◌, ◌++◌, codes, Option, Some, None}
use Rattle.std.specs.String.{string_bytes}
use Rattle.std.specs.Fmt.{signed_decimal}
use Rattle.kmipa_attrs.specs.Tags.{tag_name_of}
use Rattle.kmipa_attrs.specs.declared.name.Name.{Name}
use Rattle.kmipa_ops.specs.GetAttributes.{judged_tag}
use Rattle.kmipa_ops.specs.declared.judged.Judged.{Judged}
use Rattle.kmipa_ops.specs.declared.judged.Judged.TheVariants as judged
use Rattle.kmipa_runs.specs.Notes.{name_among, name_types, number_name_of, object_types}
use Rattle.kmipa_runs.specs.Shown.{quoted}

-- a number, and behind it the name that it has
abbrev pub number_text : ℤ → Option (List ℕ) → List ℕ
number_text number None = signed_decimal number
number_text number (Some name) = signed_decimal number ++ 32 ∷ name

-- an Object Type by its number, and its name
abbrev pub object_type_text : ℕ → List ℕ
object_type_text number = number_text (pos number) (name_among object_types number)

-- the type of a name, where it isn't Uninterpreted Text String
abbrev pub type_text : ℕ → List ℕ
type_text kind = if kind == 1 then [] else codes " of type " ++ number_text (pos kind) (name_among name_types kind)

-- a name of an object between quotes, and its type
abbrev pub name_text : Name → List ℕ
name_text name = quoted (string_bytes name.value) ++ type_text name.kind

-- the name of an attribute
abbrev pub attribute_name : Judged → List ℕ
attribute_name attribute = tag_name_of (judged_tag attribute)

-- the name of a value of an attribute: the standard names numbers of 32 bits
abbrev pub value_name : Judged → ℤ → Option (List ℕ)
value_name attribute (pos n) = if nat_lt n 0x1_0000_0000 then number_name_of (judged_tag attribute) n else None
value_name attribute (negsuc n) = None

-- the values of these attributes are moments
abbrev pub is_moment : Judged → Bool
is_moment judged.ActivationDate = true
is_moment judged.CompromiseDate = true
is_moment judged.CryptographicAlgorithm = false
is_moment judged.CryptographicLength = false
is_moment judged.CryptographicUsageMask = false
is_moment judged.DeactivationDate = true
is_moment judged.DestroyDate = true
is_moment judged.InitialDate = true
is_moment judged.Name = false
is_moment judged.ObjectType = false
is_moment judged.State = false
