-- LINES BEHIND TWO BLANKS EACH (profile).
use Rattle.std.specs.Prelude.{ℕ, ◌==◌, Bool, true, false, List, [], ◌∷◌, ◌++◌}

-- two blanks where a line begins
abbrev pub blanks : Bool → List ℕ
blanks true = 0x20 ∷ 0x20 ∷ []
blanks false = []

-- the same text, with two blanks ahead of each line; the truth says whether a line begins here
abbrev pub indented_from : Bool → List ℕ → List ℕ
indented_from begins [] = []
indented_from begins (b ∷ text) = blanks begins ++ (b ∷ indented_from (b == 10) text)

abbrev pub indented : List ℕ → List ℕ
indented text = indented_from true text
