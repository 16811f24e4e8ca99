-- What is printed of what an answer repeats otherwise than it was asked.
use Rattle.std.specs.Prelude.{ℕ, List, [], ◌∷◌, codes}
use Rattle.std.specs.String.{string_bytes}
use Rattle.hex.specs.Hex.{encode_lower}
use Rattle.kmipa_attrs.specs.ObjectTypes.{type_number}
use Rattle.kmipa_attrs.specs.declared.object_type.ObjectType.{ObjectType as TypeOf}
use Rattle.kmipa_explain.specs.declared.held.EchoHeld.{EchoHeld}
use Rattle.kmipa_explain.specs.declared.held.EchoHeld.TheVariants.{BatchItem, Identifier, ObjectType}
use Rattle.kmipa_runs.specs.Lines.{line}
use Rattle.kmipa_runs.specs.Shown.{quoted}
use Rattle.kmipa_telling.specs.Naming.{object_type_text}

-- bytes as digits, or that there are none
abbrev pub digits_text : List ℕ → List ℕ
digits_text [] = codes "no bytes"
digits_text (b ∷ bytes) = encode_lower (b ∷ bytes)

-- Unique Batch Item ID
abbrev pub batch_item_line : List ℕ → List ℕ → List ℕ
batch_item_line asked answered = line (codes "batch item: asked " ∷ digits_text asked ∷ codes ", answered " ∷ digits_text answered ∷ [])

-- Unique Identifier, of which the one that is meant may be that of the ID Placeholder
abbrev pub repeated_line : List ℕ → List ℕ → List ℕ
repeated_line meant answered = line (codes "identifier: meant " ∷ quoted meant ∷ codes ", answered " ∷ quoted answered ∷ [])

-- Object Type of a new object
abbrev pub type_line : TypeOf → ℕ → List ℕ
type_line asked answered = line (codes "object type: asked " ∷ object_type_text (type_number asked) ∷ codes ", answered " ∷ object_type_text answered ∷ [])

-- as it was asked, and as it is answered
abbrev pub echo_line : EchoHeld → List ℕ
echo_line (BatchItem asked answered) = batch_item_line asked.items answered.items
echo_line (Identifier meant answered) = repeated_line (string_bytes meant) (string_bytes answered)
echo_line (ObjectType asked answered) = type_line asked answered
