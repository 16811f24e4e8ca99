-- What the definitions say together: which operations are told to be passed, and in which order.
use Rattle.std.specs.Prelude.{◌≡◌, ◌<◌, ℕ, true, List, [], ◌∷◌}
use Rattle.kmipa_unjudged.specs.Ranking.{has_operation, is_ahead, ranks, times}
use Rattle.kmipa_unjudged.specs.declared.rank.Rank.{Rank}

-- each has how often its operation stands among these
abbrev pub AreCounted : List ℕ → List Rank → Type 0
AreCounted ns [] = Unit {0}
AreCounted ns (r ∷ rs) = (r.count ≡ times r.operation ns) × AreCounted ns rs

abbrev pub IsAheadOfAll : Rank → List Rank → Type 0
IsAheadOfAll r [] = Unit {0}
IsAheadOfAll r (s ∷ ss) = (is_ahead r s ≡ true) × IsAheadOfAll r ss

-- each is ahead of all behind it
abbrev pub AreOrdered : List Rank → Type 0
AreOrdered [] = Unit {0}
AreOrdered (r ∷ rs) = IsAheadOfAll r rs × AreOrdered rs

-- they are those of these numbers: each that stands among them, most first
pub record AreRanks (ns : List ℕ) (rs : List Rank) : Type 0 where
  pub counted : AreCounted ns rs
  pub all : (n : ℕ) → 0 < times n ns → has_operation rs n ≡ true
  pub ordered : AreOrdered rs

abbrev pub RanksAreRight : Type 0
RanksAreRight = (ns : List ℕ) → AreRanks ns (ranks ns)
