-- What is told in JSON of why an object can't be made, or be as it is shown.
use Rattle.std.specs.Prelude.{ℕ, ℤ, pos, codes, Option, Some, None}
use Rattle.std.specs.String.{string_bytes}
use Rattle.serde_json.specs.Data.{Members, no_members, object, string, put}
use Rattle.kmipa_attrs.specs.ObjectTypes.{type_number}
use Rattle.kmipa_explain.specs.declared.held.LengthHeld.{LengthHeld}
use Rattle.kmipa_explain.specs.declared.held.NameHeld.{NameHeld}
use Rattle.kmipa_json.specs.Told.{count, integer}
use Rattle.kmipa_runs.specs.Notes.{cryptographic_algorithms, name_among}
use Rattle.kmipa_telling.specs.NamingClaims.{name_members, number_members, type_members}

-- a name that a live object has already, and that object
abbrev pub taken_members : NameHeld → Members
taken_members held = put (codes "bearer") (string (string_bytes held.bearer)) (name_members held.name)

abbrev pub algorithm_told : Option ℕ → Members → Members
algorithm_told None told = told
algorithm_told (Some number) told = put (codes "algorithm") (object (number_members (pos number) (name_among cryptographic_algorithms number))) told

abbrev pub bits_told : Option ℤ → Members → Members
bits_told None told = told
bits_told (Some bits) told = put (codes "bits") (integer bits) told

abbrev pub size_told : Option ℕ → Members → Members
size_told None told = told
size_told (Some bytes) told = put (codes "bytes") (count bytes) told

-- what bytes can't be the key of, and how many they are; without a number of bytes none are such a key
abbrev pub length_members : LengthHeld → Members
length_members held = size_told held.bytes (bits_told held.length (algorithm_told held.algorithm
    (put (codes "object_type") (object (type_members (type_number held.object_type))) no_members)))
