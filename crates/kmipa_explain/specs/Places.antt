-- Items of a call, which are reported from 1; 0 is the turn itself.
use Rattle.std.specs.Prelude.{ℕ, zero, suc, List, Option, None, slice_get}

-- what stands at an item's place
abbrev pub at_item : {A : Type 0} → List A → ℕ → Option A
at_item xs zero = None
at_item xs (suc place) = slice_get xs place
