use Rattle.std.proofs.Common.{◌<◌, ℕ, List, map}
use Rattle.kmipa_record.specs.Marks.{mark_of}
use Rattle.kmipa_check.specs.Stamps.{EndsAt}
use Rattle.kmipa_check.proofs.stamp.end_of.Given as goal

abbrev pub invariant-marks : goal.invariant-marks
invariant-marks l = (place : ℕ) → place < l.mark-index → (message : List ℕ) → ¬ (EndsAt (map mark_of l.marks) l.fn.call message place)
