-- Keys that were written say what was written.
use Rattle.std.proofs.Common.{◌≡◌, ℕ, cond, List, [], ◌∷◌, Option, Some, refl, sym, ap, ◌∙◌, subst}
use Rattle.kmipa_ttlv.specs.Tree.{Tree, Trees, scalar}
use Rattle.kmipa_ttlv.specs.Tree
use Rattle.kmipa_attrs.specs.Fields.{as_structure, as_bytes, as_integer, as_enumeration, typed, at, in_field, inside}
use Rattle.kmipa_attrs.specs.Tags.{cryptographic_algorithm, cryptographic_length, key_block, key_format_type, key_material, key_value}
use Rattle.kmipa_attrs.specs.declared.fields.Field.TheVariants.{There}
use Rattle.kmipa_attrs.specs.declared.object_type.ObjectType.{ObjectType}
use Rattle.kmipa_attrs.specs.declared.object_type.ObjectType.TheVariants.{SymmetricKey, SecretData}
use Rattle.kmipa_msgs.specs.declared.key_block.KeyFormat.{KeyFormat}
use Rattle.kmipa_msgs.specs.declared.key_block.KeyFormat.TheVariants.{Raw, Opaque}
use Rattle.kmipa_msgs.specs.Numbers.{format_number, format_of}
use Rattle.kmipa_msgs.specs.Messages.{BlockOf}
use Rattle.kmipa_msgs.specs.KeyBlocks.{SaysBlock}
use Rattle.kmipa_msgs.specs.Objects.{is_object, object_in, shape_of, as_shape, shape_in, block_inside}
use Rattle.kmipa_msgs.specs.WrittenFields.{in_order, field}
use Rattle.kmipa_msgs.specs.WrittenKeys.{block_fields, written_block, object_tag, written_object}
use Rattle.kmipa_msgs.proofs.WrittenFieldLemmas.{skipped, optional_written, required_written, inside_written}

format_listed : (f : KeyFormat) → format_of (format_number f) ≡ Some f
format_listed Raw = refl
format_listed Opaque = refl

material_written : (material : List ℕ) → at as_bytes key_material (in_order (field Tree.byte_string key_material (Some material) ∷ [])) ≡ There material
unfolding as_bytes
material_written material = required_written as_bytes key_material (field Tree.byte_string key_material (Some material) ∷ []) (scalar key_material (Tree.byte_string material)) material refl refl

pub block_written : (b : BlockOf) → SaysBlock (in_order (block_fields b)) b
unfolding as_enumeration as_integer
block_written b = record {
  format = record {
    number = format_number b.format;
    is = required_written as_enumeration key_format_type (block_fields b) (scalar key_format_type (Tree.enumeration (format_number b.format))) (format_number b.format) refl refl;
    listed = format_listed b.format;
  };
  material =
      ap (at as_bytes key_material) (inside_written key_value key_value (block_fields b) (in_order (field Tree.byte_string key_material (Some b.material) ∷ [])) refl)
      ∙ material_written b.material;
  algorithm =
      optional_written as_enumeration Tree.enumeration cryptographic_algorithm b.algorithm (block_fields b) (field Tree.integer cryptographic_length b.length ∷ [])
      refl (skipped Tree.integer cryptographic_length cryptographic_algorithm b.length [] refl) (λ x. refl) refl;
  length =
      optional_written as_integer Tree.integer cryptographic_length b.length (block_fields b) []
      (skipped Tree.enumeration cryptographic_algorithm cryptographic_length b.algorithm (field Tree.integer cryptographic_length b.length ∷ []) refl) refl (λ x. refl) refl;
}

-- THE OBJECT

pub object_here : (s : ObjectType) (t u : Option Tree) → cond (is_object (object_tag s)) t u ≡ t
object_here SymmetricKey t u = refl
object_here SecretData t u = refl

shape_here : (s : ObjectType) → shape_of (object_tag s) ≡ s
shape_here SymmetricKey = refl
shape_here SecretData = refl

pub shape_written : (ts : Trees) (s : ObjectType) (b : BlockOf) → object_in ts ≡ Some (written_object s b) → shape_in ts ≡ There s
shape_written ts s b e = ap (typed as_shape) e ∙ ap (λ (x : ObjectType). There x) (shape_here s)

pub block_found : (ts : Trees) (s : ObjectType) (b : BlockOf) → object_in ts ≡ Some (written_object s b) → SaysBlock (block_inside ts) b
unfolding as_structure
block_found ts s b e =
    let at_block : block_inside ts ≡ in_order (block_fields b) =
    ap (λ (o : Option Tree). inside key_block (in_field (typed as_structure o))) e
    ∙ inside_written key_block key_block (Some (written_block b) ∷ []) (in_order (block_fields b)) refl in
    subst (λ (us : Trees). SaysBlock us b) (sym at_block) (block_written b)
