-- The two types of objects that are judged.
use Rattle.std.specs.Prelude.{ℕ, ◌==◌, if◌then◌else◌, List, Option, Some, None, codes}
use Rattle.kmipa_attrs.specs.declared.object_type.ObjectType.{ObjectType}
use Rattle.kmipa_attrs.specs.declared.object_type.ObjectType.TheVariants.{SymmetricKey, SecretData}

-- Object Type: its number (KMIP 2.1, section 11.33)
abbrev pub type_number : ObjectType → ℕ
type_number SymmetricKey = 2
type_number SecretData = 7

abbrev pub type_of : ℕ → Option ObjectType
type_of n = if n == 2 then Some SymmetricKey else if n == 7 then Some SecretData else None

abbrev pub type_name : ObjectType → List ℕ
type_name SymmetricKey = codes "Symmetric Key"
type_name SecretData = codes "Secret Data"
