-- What is printed of the deepest place of a search that gave up: the calls that were taken there, and what speaks against each that may be next.
use Rattle.std.specs.Prelude.{ℕ, ℤ, ◌-◌, List, [], ◌∷◌, ◌++◌, codes, drop, flat_map, length, take, Option, Some, None}
use Rattle.std.specs.Fmt.{decimal, signed_decimal}
use Rattle.kmipa_check.specs.declared.verdict.Refused.{Refused}
use Rattle.kmipa_ops.specs.Whys.{why_number, why_name}
use Rattle.kmipa_orders.specs.declared.stuck.NextCall.{NextCall}
use Rattle.kmipa_orders.specs.declared.stuck.Reached.{Reached}
use Rattle.kmipa_runs.specs.Lines.{line}
use Rattle.kmipa_telling.specs.Phrases.{calls_text, more_line}

-- how many calls were taken, and of more than twenty the twenty that were taken last
abbrev pub taken_lines : List ℤ → List ℕ
taken_lines numbers = codes "deepest: " ++ (decimal (length numbers) ++ (codes " calls taken" ++ 10 ∷ (more_line (codes "taken") (length numbers)
    ++ line (codes "taken: " ∷ calls_text (drop (length numbers - 20) numbers) ∷ []))))

-- the item that is impossible, and the reason; or that the call is possible
abbrev pub against_text : Option Refused → List ℕ
against_text None = codes " possible"
against_text (Some r) = codes " item " ++ (decimal r.item ++ (codes " why " ++ (decimal (why_number r.why) ++ 32 ∷ why_name r.why)))

-- the line of a call that may be next
abbrev pub next_line : NextCall → List ℕ
next_line next = line (codes "next: call " ∷ signed_decimal next.call ∷ against_text next.refused ∷ [])

-- of more than twenty calls the first twenty, and how many more there are
abbrev pub next_lines : List NextCall → List ℕ
next_lines [] = line (codes "next: none" ∷ [])
next_lines next = flat_map next_line (take 20 next) ++ more_line (codes "next") (length next)

-- the lines of the deepest place, where it is told
abbrev pub reached_text : Option Reached → List ℕ
reached_text None = []
reached_text (Some reached) = taken_lines reached.taken.items ++ next_lines reached.next.items
