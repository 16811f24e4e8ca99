use Rattle.std.proofs.Common.{◌<◌, ℕ, List, map}
use Rattle.kmipa_record.specs.Marks.{mark_of}
use Rattle.kmipa_check.specs.Stamps.{BeginsAt}
use Rattle.kmipa_check.proofs.stamp.begin_of.Given as goal

abbrev pub invariant-marks : goal.invariant-marks
invariant-marks l = (place : ℕ) → place < l.mark-index → (message : List ℕ) → ¬ (BeginsAt (map mark_of l.marks) l.fn.call message place)
