-- What is printed of why an object can't be made, or be as it is shown: its identifier is taken, or a name, or no such key exists.
use Rattle.std.specs.Prelude.{ℕ, ℤ, pos, List, [], ◌∷◌, ◌++◌, codes, Option, Some, None}
use Rattle.std.specs.String.{string_bytes}
use Rattle.std.specs.Fmt.{decimal, signed_decimal}
use Rattle.kmipa_attrs.specs.ObjectTypes.{type_number}
use Rattle.kmipa_explain.specs.declared.held.LengthHeld.{LengthHeld}
use Rattle.kmipa_explain.specs.declared.held.NameHeld.{NameHeld}
use Rattle.kmipa_runs.specs.Lines.{line}
use Rattle.kmipa_runs.specs.Notes.{cryptographic_algorithms, name_among}
use Rattle.kmipa_runs.specs.Shown.{quoted}
use Rattle.kmipa_telling.specs.Naming.{name_text, number_text, object_type_text}

-- the line of an identifier that an object has already
abbrev pub identifier_line : List ℕ → List ℕ
identifier_line id = line (codes "identifier taken: " ∷ quoted id ∷ [])

-- the line of a name that a live object has already, and of that object
abbrev pub name_line : NameHeld → List ℕ
name_line held = line (codes "name taken: " ∷ name_text held.name ∷ codes ", by " ∷ quoted (string_bytes held.bearer) ∷ [])

-- an algorithm by its number, and its name
abbrev pub algorithm_text : Option ℕ → List ℕ
algorithm_text None = codes "none"
algorithm_text (Some number) = number_text (pos number) (name_among cryptographic_algorithms number)

-- a length, which is one in bits
abbrev pub bits_text : Option ℤ → List ℕ
bits_text None = codes "none"
bits_text (Some bits) = signed_decimal bits ++ codes " bits"

-- how many bytes there are; where nobody has seen any, none of any number are such a key
abbrev pub size_text : Option ℕ → List ℕ
size_text None = codes "not seen, and none would do"
size_text (Some count) = decimal count

-- the lines of bytes, and of what they can't be the key of
abbrev pub length_lines : LengthHeld → List ℕ
length_lines held = line (codes "object type: " ∷ object_type_text (type_number held.object_type)
    ∷ codes "\nalgorithm: " ∷ algorithm_text held.algorithm ∷ codes "\nlength: " ∷ bits_text held.length ∷ codes "\nbytes: " ∷ size_text held.bytes ∷ [])
