-- Places that are flagged. Not promised.
use Rattle.std.specs.Prelude.{ℕ, Bool, false, List, slice_index_or}

-- a place is flagged
abbrev pub flag_at : List Bool → ℕ → Bool
flag_at flags place = slice_index_or flags place false
