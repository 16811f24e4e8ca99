-- What is printed of a list that holds what may not be listed, or leaves out what must be. Of many the first twenty are told.
use Rattle.std.specs.Prelude.{◌≡◌, ℕ, ℤ, List, [], ◌∷◌, ◌++◌, codes, flat_map, length, take, Option, Some, None}
use Rattle.std.specs.String.{string_bytes}
use Rattle.std.specs.Fmt.{decimal, signed_decimal}
use Rattle.kmipa_explain.specs.declared.held.LeftOutHeld.{LeftOutHeld}
use Rattle.kmipa_explain.specs.declared.held.ListFault.{ListFault}
use Rattle.kmipa_explain.specs.declared.held.ListFault.TheVariants.{Again, Absent, Excluded}
use Rattle.kmipa_explain.specs.declared.held.ListHeld.{ListHeld}
use Rattle.kmipa_explain.specs.declared.held.WronglyListed.{WronglyListed}
use Rattle.kmipa_runs.specs.Lines.{line}
use Rattle.kmipa_runs.specs.Shown.{quoted}
use Rattle.kmipa_telling.specs.Lists.{AreLines}
use Rattle.kmipa_telling.specs.Naming.{attribute_name}
use Rattle.kmipa_telling.specs.Phrases.{more_line}
use Rattle.kmipa_telling.specs.StateCauses.{PrintsMoment}

-- ---- what may not be listed

-- the line of the maximum, where more are listed
abbrev pub maximum_line : Option ℤ → List ℕ
maximum_line None = []
maximum_line (Some most) = line (codes "maximum items: " ∷ signed_decimal most ∷ [])

-- why an identifier may not be listed
abbrev pub fault_text : ListFault → List ℕ
fault_text Again = codes "listed before"
fault_text Absent = codes "no object"
fault_text (Excluded filter) = codes "excluded by " ++ attribute_name filter

-- the line of an identifier that may not be listed
abbrev pub wrong_line : WronglyListed → List ℕ
wrong_line w = line (codes "wrong: " ∷ quoted (string_bytes w.identifier) ∷ codes ", " ∷ fault_text w.fault ∷ [])

-- the lines of the first twenty of them, and how many more there are
abbrev pub wrong_lines : List WronglyListed → List ℕ
wrong_lines wrong = flat_map wrong_line (take 20 wrong) ++ more_line (codes "wrong") (length wrong)

-- how many are listed, the maximum, and what is wrong
abbrev pub listed_lines : ListHeld → List ℕ
listed_lines l = codes "identifiers listed: " ++ (decimal l.listed ++ 10 ∷ (maximum_line l.maximum ++ wrong_lines l.wrong.items))

-- ---- what must be listed

-- the line of an object that must be listed, and isn't: its identifier, and when it was made
abbrev pub PrintsLeftOut : LeftOutHeld → List ℕ → Type 0
PrintsLeftOut held lines = (initial : List ℕ) × PrintsMoment (codes "initial date") held.initial initial
    × (lines ≡ codes "left out: " ++ (quoted (string_bytes held.identifier) ++ (codes ", " ++ initial)))

-- how many there are, the first twenty of them, and how many more
abbrev pub PrintsLeftOuts : List LeftOutHeld → List ℕ → Type 0
PrintsLeftOuts left lines = (told : List ℕ) × AreLines PrintsLeftOut (take 20 left) told
    × (lines ≡ codes "objects left out: " ++ (decimal (length left) ++ 10 ∷ (told ++ more_line (codes "left out") (length left))))
