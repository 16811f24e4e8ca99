-- Key blocks are read.
use Rattle.std.proofs.Common.{◌≡◌, ℕ, ℤ, List, Option, Result, refl, ap, ◌∙◌, inl, inr}
use Rattle.kmipa_ttlv.specs.Tree.{Trees}
use Rattle.kmipa_attrs.specs.Fields.{first, at, inside, in_field, map_field, as_structure, as_enumeration, as_integer, as_bytes}
use Rattle.kmipa_attrs.specs.Readings.{Reads, needed, optional, both, map_ok}
use Rattle.kmipa_attrs.specs.Tags.{cryptographic_algorithm, cryptographic_length, key_format_type, key_material, key_value, key_wrapping_data}
use Rattle.kmipa_attrs.specs.declared.fields.Field.{Field}
use Rattle.kmipa_attrs.specs.declared.fields.Field.TheVariants.{Absent, Wrong, There}
use Rattle.kmipa_attrs.proofs.ReadingLemmas.{reads_both, reads_as, reads_optional, reads_needed}
use Rattle.kmipa_msgs.specs.declared.key_block.KeyFormat.{KeyFormat}
use Rattle.kmipa_msgs.specs.declared.kind.OutsideKind.{OutsideKind}
use Rattle.kmipa_msgs.specs.declared.kind.OutsideKind.TheVariants.{Wrapped, Format, Missing}
use Rattle.kmipa_msgs.specs.Kinds.{kind_number}
use Rattle.kmipa_msgs.specs.Numbers.{format_of}
use Rattle.kmipa_msgs.specs.Messages.{lent, BlockOf}
use Rattle.kmipa_msgs.specs.Tables.{listed, there, unless_there}
use Rattle.kmipa_msgs.specs.KeyBlocks.{SaysBlock, BlockFault, block_rows, block_at, block_in}
use Rattle.kmipa_msgs.specs.KeyBlocks.BlockFault.{in_wrapping, in_format, in_format_number, in_value, in_material, in_algorithm, in_length}
use Rattle.kmipa_msgs.proofs.ViewLemmas.{seen, right_seen, needed_seen}
use Rattle.kmipa_msgs.proofs.TableLemmas.{reads_unless, reads_there, reads_listed}
use denote.Bor.{Bor}

-- where the material is said, the value is a structure
value_of_material : (ts : Trees) (bs : List ℕ) → at as_bytes key_material (inside key_value ts) ≡ There bs → (us : Trees) × (at as_structure key_value ts ≡ There us)
unfolding first
value_of_material ts bs e = cases (at as_structure key_value ts) refl e
  where
    cases : (f : Field Trees) → at as_structure key_value ts ≡ f → at as_bytes key_material (in_field f) ≡ There bs → (us : Trees) × (at as_structure key_value ts ≡ There us)
    cases Absent is h = cc
    cases Wrong is h = cc
    cases (There us) is h = (us, is)

pub reads_block : (ts : Trees) → Reads kind_number (SaysBlock ts) (BlockFault ts) (block_in ts)
unfolding block_in
reads_block ts =
    let rows = reads_both kind_number _ _ _ _ _ _
    (reads_both kind_number _ _ _ _ _ _
    (reads_both kind_number _ _ _ _ _ _ (reads_both kind_number _ _ _ _ _ _ (reads_listed (at as_enumeration key_format_type ts) format_of Missing Format) (reads_optional kind_number Missing (at as_enumeration cryptographic_algorithm ts))) (reads_optional kind_number Missing (at as_integer cryptographic_length ts)))
    (reads_both kind_number _ _ _ _ _ _ (reads_unless (first key_wrapping_data ts) Wrapped) (reads_there (at as_structure key_value ts) Missing Format)))
    (reads_needed kind_number Missing Format (at as_bytes key_material (inside key_value ts))) in
    reads_as kind_number _ _ (SaysBlock ts) (BlockFault ts) block_at (block_rows ts)
    (λ p s. record { format = s.0.0.0.0; material = s.1; algorithm = s.0.0.0.1; length = s.0.0.1 })
    (λ y t. (((((y.format, y.algorithm), y.length), (tt, tt)), y.material), ((((t.format, t.algorithm), t.length), (tt, value_of_material ts y.material t.material)), t.material), refl))
    (λ k f. elim f [
      | inl g ↦ elim g [
        | inl h ↦ elim h [ inl m ↦ elim m [ inl n ↦ elim n [ inl w ↦ in_format w | inr w ↦ in_format_number w.0 w.1 ] | inr w ↦ in_algorithm w.0 w.1 ] | inr w ↦ in_length w.0 w.1 ]
        | inr h ↦ elim h [ inl w ↦ in_wrapping w.0 w.1 | inr w ↦ in_value w ]
      ]
      | inr w ↦ in_material w
    ])
    (λ k f. elim f [
      | in_wrapping e w ↦ inl (inr (inl (e, w)))
      | in_format w ↦ inl (inl (inl (inl (inl w))))
      | in_format_number e w ↦ inl (inl (inl (inl (inr (e, w)))))
      | in_value w ↦ inl (inr (inr w))
      | in_material w ↦ inr w
      | in_algorithm e w ↦ inl (inl (inl (inr (e, w))))
      | in_length e w ↦ inl (inl (inr (e, w)))
    ])
    rows

-- the rows but for the material
abbrev pub Plain : Type 0
Plain = ((KeyFormat × Option ℕ) × Option ℤ) × (Unit {0} × Unit {0})

abbrev pub plain_block_rows : Trees → Result Plain OutsideKind
plain_block_rows ts =
    both kind_number
    (both kind_number (both kind_number (listed (at as_enumeration key_format_type ts) format_of Missing Format) (optional (at as_enumeration cryptographic_algorithm ts) Missing)) (optional (at as_integer cryptographic_length ts) Missing))
    (both kind_number (unless_there (first key_wrapping_data ts) Wrapped) (there (at as_structure key_value ts) Missing Format))

abbrev pub block_view : Plain × Bor (List ℕ) → BlockOf
block_view p = block_at (p.0, lent p.1)

-- the rows as the program has them
pub seen_block : (ts us : Trees) (plain : Result Plain OutsideKind) (field : Field (Bor (List ℕ))) (material : Result (Bor (List ℕ)) OutsideKind) (rows : Result (Plain × Bor (List ℕ)) OutsideKind)
    → rows ≡ both kind_number plain material → plain ≡ plain_block_rows ts → us ≡ inside key_value ts → map_field lent field ≡ at as_bytes key_material us → material ≡ needed field Missing Format
    → map_ok block_view rows ≡ block_in ts
unfolding block_in
seen_block ts us plain field material rows e p u f m =
    seen block_at (λ q. (q.0, lent q.1)) rows (block_rows ts)
    (right_seen kind_number lent plain material rows (plain_block_rows ts) (needed (at as_bytes key_material (inside key_value ts)) Missing Format) e p
    (needed_seen lent field (at as_bytes key_material (inside key_value ts)) Missing Format material m (f ∙ ap (at as_bytes key_material) u)))
