-- Key Block: Key Format Type, Key Value { Key Material }, Cryptographic Algorithm?, Cryptographic Length? (KMIP 2.1, section 3.1).
use Rattle.std.specs.Prelude.{◌≡◌, ℕ, ℤ, List, Option, Result}
use Rattle.kmipa_ttlv.specs.Tree.{Trees}
use Rattle.kmipa_attrs.specs.Fields.{first, at, inside, as_structure, as_enumeration, as_integer, as_bytes}
use Rattle.kmipa_attrs.specs.Readings.{Optional, IsWrong, NeededFault, needed, optional, both, map_ok}
use Rattle.kmipa_attrs.specs.Tags.{cryptographic_algorithm, cryptographic_length, key_format_type, key_material, key_value, key_wrapping_data}
use Rattle.kmipa_attrs.specs.declared.fields.Field.TheVariants.{There}
use Rattle.kmipa_msgs.specs.declared.key_block.KeyFormat.{KeyFormat}
use Rattle.kmipa_msgs.specs.declared.kind.OutsideKind.{OutsideKind}
use Rattle.kmipa_msgs.specs.declared.kind.OutsideKind.TheVariants.{Wrapped, Format, Missing}
use Rattle.kmipa_msgs.specs.Kinds.{kind_number}
use Rattle.kmipa_msgs.specs.Numbers.{format_of}
use Rattle.kmipa_msgs.specs.Messages.{BlockOf}
use Rattle.kmipa_msgs.specs.Tables.{Listed, Unlisted, IsThere, listed, there, unless_there}

-- the children of a Key Block say this key
pub record SaysBlock (ts : Trees) (b : BlockOf) : Type 0 where
  pub format : Listed (at as_enumeration key_format_type ts) format_of b.format
  pub material : at as_bytes key_material (inside key_value ts) ≡ There b.material
  pub algorithm : Optional (at as_enumeration cryptographic_algorithm ts) b.algorithm
  pub length : Optional (at as_integer cryptographic_length ts) b.length

-- a row for each field; Key Wrapping Data is looked for here alone
pub data BlockFault (ts : Trees) (k : OutsideKind) : Type 0 where
  in_wrapping : k ≡ Wrapped → IsThere (first key_wrapping_data ts) → BlockFault ts k
  in_format : NeededFault (at as_enumeration key_format_type ts) Missing Missing k → BlockFault ts k
  in_format_number : k ≡ Format → Unlisted (at as_enumeration key_format_type ts) format_of → BlockFault ts k
  in_value : NeededFault (at as_structure key_value ts) Missing Format k → BlockFault ts k
  in_material : NeededFault (at as_bytes key_material (inside key_value ts)) Missing Format k → BlockFault ts k
  in_algorithm : k ≡ Missing → IsWrong (at as_enumeration cryptographic_algorithm ts) → BlockFault ts k
  in_length : k ≡ Missing → IsWrong (at as_integer cryptographic_length ts) → BlockFault ts k

-- the reading
abbrev pub block_rows : Trees → Result ((((KeyFormat × Option ℕ) × Option ℤ) × (Unit {0} × Unit {0})) × List ℕ) OutsideKind
block_rows ts =
    both kind_number
    (both kind_number
    (both kind_number (both kind_number (listed (at as_enumeration key_format_type ts) format_of Missing Format) (optional (at as_enumeration cryptographic_algorithm ts) Missing)) (optional (at as_integer cryptographic_length ts) Missing))
    (both kind_number (unless_there (first key_wrapping_data ts) Wrapped) (there (at as_structure key_value ts) Missing Format)))
    (needed (at as_bytes key_material (inside key_value ts)) Missing Format)

abbrev pub block_at : (((KeyFormat × Option ℕ) × Option ℤ) × (Unit {0} × Unit {0})) × List ℕ → BlockOf
block_at p = record { format = p.0.0.0.0; material = p.1; algorithm = p.0.0.0.1; length = p.0.0.1 }

unfoldable pub block_in : Trees → Result BlockOf OutsideKind
block_in ts = map_ok block_at (block_rows ts)
