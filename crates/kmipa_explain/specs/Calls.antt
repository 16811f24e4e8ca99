-- The calls behind a turn of an order, by when they began and ended.
use Rattle.std.specs.Prelude.{ℕ, ◌+◌, ℤ, Bool, false, not, ◌&&◌, nat_lt, filter, List, map, drop, Option, Some, None}
use Rattle.kmipa_check.specs.Steps.{StepOf}

-- there is an end, and it stands before the place
abbrev pub ends_ahead : Option ℕ → ℕ → Bool
ends_ahead None place = false
ends_ahead (Some end) place = nat_lt end place

-- one call ended before another began; a call without an end ended before none
abbrev pub is_before : StepOf → StepOf → Bool
is_before a b = ends_ahead a.end b.begin

-- neither of two calls ended before the other began
abbrev pub overlaps : StepOf → StepOf → Bool
overlaps a b = not (is_before a b) && not (is_before b a)

abbrev pub number_of : StepOf → ℤ
number_of s = s.number

-- the numbers of the calls behind a turn, counted from 0, that ended before this call began
abbrev pub earlier_calls : List StepOf → ℕ → StepOf → List ℤ
earlier_calls order turn c = map number_of (filter (λ (d : StepOf). is_before d c) (drop (turn + 1) order))

-- the numbers of those that overlap it
abbrev pub overlapping_calls : List StepOf → ℕ → StepOf → List ℤ
overlapping_calls order turn c = map number_of (filter (λ (d : StepOf). overlaps d c) (drop (turn + 1) order))
