-- Keys as they are written.
use Rattle.std.specs.Prelude.{ℕ, List, [], ◌∷◌, Option, Some}
use Rattle.kmipa_ttlv.specs.Tree.{Tree, structure}
use Rattle.kmipa_ttlv.specs.Tree
use Rattle.kmipa_attrs.specs.Tags.{cryptographic_algorithm, cryptographic_length, key_block, key_format_type, key_material, key_value, secret_data, symmetric_key}
use Rattle.kmipa_attrs.specs.declared.object_type.ObjectType.{ObjectType}
use Rattle.kmipa_attrs.specs.declared.object_type.ObjectType.TheVariants.{SymmetricKey, SecretData}
use Rattle.kmipa_msgs.specs.Numbers.{format_number}
use Rattle.kmipa_msgs.specs.Messages.{BlockOf}
use Rattle.kmipa_msgs.specs.WrittenFields.{in_order, field}

abbrev pub written_value : List ℕ → Tree
written_value material = structure key_value (in_order (field Tree.byte_string key_material (Some material) ∷ []))

abbrev pub block_fields : BlockOf → List (Option Tree)
block_fields b =
    field Tree.enumeration key_format_type (Some (format_number b.format)) ∷
    Some (written_value b.material) ∷
    field Tree.enumeration cryptographic_algorithm b.algorithm ∷
    field Tree.integer cryptographic_length b.length ∷
    []

abbrev pub written_block : BlockOf → Tree
written_block b = structure key_block (in_order (block_fields b))

-- the tag of an object
abbrev pub object_tag : ObjectType → ℕ
object_tag SymmetricKey = symmetric_key
object_tag SecretData = secret_data

abbrev pub written_object : ObjectType → BlockOf → Tree
written_object shape b = structure (object_tag shape) (in_order (Some (written_block b) ∷ []))
