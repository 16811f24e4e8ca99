-- How operations and calls are named on a line.
use Rattle.std.specs.Prelude.{ℕ, ℤ, ◌-◌, if◌then◌else◌, nat_lt, List, [], ◌∷◌, ◌++◌, codes, flat_map, take, length, Option, Some, None}
use Rattle.std.specs.Fmt.{decimal, signed_decimal}
use Rattle.kmipa_runs.specs.Lines.{line}
use Rattle.kmipa_runs.specs.Notes.{name_among, operations}

-- the name of an operation, or its number where it has none
abbrev pub operation_text : ℕ → List ℕ
operation_text number = named (name_among operations number)
  where
    named : Option (List ℕ) → List ℕ
    named (Some name) = name
    named None = codes "operation " ++ decimal number

-- the same of one that may be missing
abbrev pub named_text : Option ℕ → List ℕ
named_text None = codes "none"
named_text (Some number) = operation_text number

-- a number behind a blank
abbrev pub numbered : ℤ → List ℕ
numbered number = 32 ∷ signed_decimal number

-- that there are more than the twenty that are named
abbrev pub more_text : ℕ → List ℕ
more_text count = if nat_lt 20 count then codes " and " ++ decimal (count - 20) ++ codes " more" else []

-- the calls by their numbers, at most twenty, and how many more there are
abbrev pub calls_text : List ℤ → List ℕ
calls_text [] = codes "none"
calls_text numbers = codes "calls" ++ flat_map numbered (take 20 numbers) ++ more_text (length numbers)

-- how many of a sort there are beyond the twenty that are told, behind this word
abbrev pub more_line : List ℕ → ℕ → List ℕ
more_line word count = if nat_lt 20 count then line (word ∷ codes ": " ∷ decimal (count - 20) ∷ codes " more" ∷ []) else []
