-- The object of a payload: Symmetric Key { Key Block } or Secret Data { Secret Data Type?, Key Block } (KMIP 2.1, section 2).
use Rattle.std.specs.Prelude.{ℕ, Bool, cond, ◌==◌, ◌||◌, Option, Some, None}
use Rattle.kmipa_ttlv.specs.Tree.{Tree, Trees, none, more}
use Rattle.kmipa_attrs.specs.Fields.{tag_of, typed, inside, in_field, as_structure}
use Rattle.kmipa_attrs.specs.Tags.{key_block, secret_data, symmetric_key}
use Rattle.kmipa_attrs.specs.declared.fields.Field.{Field}
use Rattle.kmipa_attrs.specs.declared.object_type.ObjectType.{ObjectType}
use Rattle.kmipa_attrs.specs.declared.object_type.ObjectType.TheVariants.{SymmetricKey, SecretData}

abbrev pub is_object : ℕ → Bool
is_object n = (n == symmetric_key) || (n == secret_data)

-- the first child with either of the two tags
unfoldable pub object_in : Trees → Option Tree
object_in none = None
object_in (more t ts) = cond (is_object (tag_of t)) (Some t) (object_in ts)

-- the type that its tag tells
abbrev pub shape_of : ℕ → ObjectType
shape_of n = cond (n == symmetric_key) SymmetricKey SecretData

abbrev pub as_shape : Tree → Option ObjectType
as_shape t = Some (shape_of (tag_of t))

abbrev pub shape_in : Trees → Field ObjectType
shape_in ts = typed as_shape (object_in ts)

-- the children of its Key Block
abbrev pub block_inside : Trees → Trees
block_inside ts = inside key_block (in_field (typed as_structure (object_in ts)))
