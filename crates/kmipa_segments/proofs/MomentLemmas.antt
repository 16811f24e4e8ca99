-- From what is no number to what is no moment.
use Rattle.std.proofs.Common.{ℕ, ℤ, List, Option, Some, None}
use Rattle.std.specs.Prelude.{MatchOption}
use Rattle.kmipa_segments.specs.Moments.{IsCount, IsDateOf, IsMoment, count, date}

-- a text that is no number is a moment exactly where it is a date
pub by_date : (text : List ℕ) (found : Option ℤ) → ((second : ℤ) → ¬ IsCount text second)
    → MatchOption found ((second : ℤ) → ¬ IsDateOf text second) (IsDateOf text) → MatchOption found ((second : ℤ) → ¬ IsMoment text second) (IsMoment text)
by_date text (Some second) uncounted is = date is
by_date text None uncounted undated = neither
  where
    neither : (second : ℤ) → IsMoment text second → ⊥
    neither second (count is) = uncounted second is
    neither second (date is) = undated second is
