use Rattle.std.proofs.Common.{◌-◌, ◌<◌, ℕ, List, length, map}
use Rattle.kmipa_record.specs.Marks.{mark_of}
use Rattle.kmipa_check.specs.Calls.{HasBegin}
use Rattle.kmipa_outside.proofs.explaining.begin_of.Given as goal

abbrev pub invariant-marks : goal.invariant-marks
invariant-marks l = (k : ℕ) (asked : List ℕ) → k < l.place → HasBegin (map mark_of l.marks) l.number k asked → ⊥

abbrev pub decreases-marks : goal.decreases-marks
decreases-marks l = length l.marks - l.place
