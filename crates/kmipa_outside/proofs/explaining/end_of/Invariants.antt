use Rattle.std.proofs.Common.{◌-◌, ◌<◌, ℕ, List, length, map}
use Rattle.kmipa_record.specs.Marks.{mark_of}
use Rattle.kmipa_check.specs.Calls.{HasEnd}
use Rattle.kmipa_outside.proofs.explaining.end_of.Given as goal

abbrev pub invariant-marks : goal.invariant-marks
invariant-marks l = (k : ℕ) (answered : List ℕ) → k < l.place → HasEnd (map mark_of l.marks) l.number k answered → ⊥

abbrev pub decreases-marks : goal.decreases-marks
decreases-marks l = length l.marks - l.place
