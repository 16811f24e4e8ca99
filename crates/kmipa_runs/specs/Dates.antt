-- Which moments have a date, and which text tells one.
use Rattle.std.specs.Prelude.{◌≡◌, ℕ, ℤ, pos, negsuc, ◌≤ℤ◌, ◌*ℤ◌, List, Result, Ok}
use Rattle.std.specs.Fmt.{signed_decimal}
use Rattle.jiff.specs.Words.{parse_timestamp}

-- the calendar has this second: it ends with the years -9999 and 9999
abbrev pub HasDate : ℤ → Type 0
HasDate second = (negsuc 377_705_023_200 ≤ℤ second) × (second ≤ℤ pos 253_402_207_200)

-- a reader of dates takes the text for the nanosecond with which this second begins
abbrev pub ReadsAsSecond : List ℕ → ℤ → Type 0
ReadsAsSecond text second = parse_timestamp text ≡ Ok (second *ℤ pos 1_000_000_000)

-- The text is a date that reads as this second, where the calendar has one; else it is the second's number, in decimal.
pub record TellsSecond (second : ℤ) (text : List ℕ) : Type 0 where
  pub dated : HasDate second → ReadsAsSecond text second
  pub undated : ¬ (HasDate second) → text ≡ signed_decimal second
