-- Which second since 1970-01-01T00:00:00Z a text tells.
use Rattle.std.specs.Prelude.{◌≡◌, ℕ, ℤ, pos, List, Result, Ok, int_div, int_rem, FitsSigned}
use Rattle.std.specs.Int.{w64}
use Rattle.std.specs.Str.Parse.{IsNumeral, signed_digits_value, without_leading_sign}
use Rattle.jiff.specs.Words.{parse_timestamp}

-- the number of the second in decimal, with a sign or without, as far as 64 bits hold it
pub record IsCount (text : List ℕ) (second : ℤ) : Type 0 where
  pub numeral : IsNumeral 10 (without_leading_sign text)
  pub fits : FitsSigned w64 (signed_digits_value 10 text)
  pub is : second ≡ signed_digits_value 10 text

-- a date in the calendar, with the time of day and the offset from UTC, of a whole second
pub record IsDateOf (text : List ℕ) (second : ℤ) : Type 0 where
  pub nanosecond : ℤ
  pub reads : parse_timestamp text ≡ Ok nanosecond
  pub whole : int_rem nanosecond (pos 1_000_000_000) ≡ pos 0
  pub is : second ≡ int_div nanosecond (pos 1_000_000_000)

pub data IsMoment (text : List ℕ) (second : ℤ) : Type 0 where
  count : IsCount text second → IsMoment text second
  date : IsDateOf text second → IsMoment text second
