-- Which calls a search has taken. Not promised.
use Rattle.std.specs.Prelude.{◌≡◌, ◌<◌, ℕ, true, false, List, Contains, length}
use Rattle.kmipa_findings.specs.Flags.{flag_at}
use Rattle.kmipa_findings.specs.declared.board.Board.{Board}

-- Of so many calls those at these places are taken, the last one first. All are ahead of a place; the one that stands there, if one does, is left.
pub record IsBoard (count : ℕ) (taken : List ℕ) (b : Board) : Type 0 where
  pub counted : length b.flags.items ≡ count
  pub flagged : (place : ℕ) → flag_at b.flags.items place ≡ true → Contains taken place
  pub each : (place : ℕ) → Contains taken place → flag_at b.flags.items place ≡ true
  pub below : (place : ℕ) → place < b.low → flag_at b.flags.items place ≡ true
  pub left : b.low < count → flag_at b.flags.items b.low ≡ false
