-- The moment that a word of the command line tells.
use Rattle.std.specs.Prelude.{ℤ, List, ℕ, Option, Some, None}
use denote.Bor.{Bor}
use Rattle.kmipa_segments.specs.Moments.{IsMoment}

-- the word tells this moment, or there is no word and no moment
abbrev pub IsSince : Option (Bor (List ℕ)) → Option ℤ → Type 0
IsSince None None = Unit {0}
IsSince None (Some second) = ⊥
IsSince (Some word) None = ⊥
IsSince (Some word) (Some second) = IsMoment word.now second

-- there is a word, and it tells no moment
abbrev pub IsNoMoment : Option (Bor (List ℕ)) → Type 0
IsNoMoment None = ⊥
IsNoMoment (Some word) = (second : ℤ) → ¬ (IsMoment word.now second)
