-- Hashes of identifiers and of names, and a cheap number of an identifier.
use Rattle.std.specs.Prelude.{◌+◌, ◌-◌, ◌*◌, ◌%◌, ◌^◌, ℕ, List, drop, fold, length}
use Rattle.std.specs.Hash as hashing
use Rattle.std.specs.Hash.DefaultHasher as sip

abbrev pub id_hash : List ℕ → ℕ
id_hash id = sip.finish (sip.write sip.initial id)

-- of a value and a type
abbrev pub name_hash : List ℕ → ℕ → ℕ
name_hash value kind = sip.finish (fold sip.write (sip.write sip.initial value) (hashing.u32 kind))

-- the number of some bytes and of one more
abbrev pub number_on : ℕ → ℕ → ℕ
number_on number byte = ((number * 0x100_0000_01B3) % 2 ^ 64 + byte) % 2 ^ 64

-- of the last bytes of an identifier, at most eight
abbrev pub id_number : List ℕ → ℕ
id_number id = fold number_on 0 (drop (length id - 8) id)
