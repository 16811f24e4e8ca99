use Rattle.std.proofs.Common.{◌-◌, [], length, map}
use Rattle.kmipa_record.specs.Marks.{MarkOf, call_of, mark_of}
use Rattle.kmipa_judge.specs.Parts.{keeps}
use Rattle.kmipa_judge.proofs.PartLemmas.{AreKept}
use Rattle.kmipa_judge.proofs.part.recording.marks_kept.Given as goal

abbrev pub invariant-marks : goal.invariant-marks
invariant-marks l = AreKept mark_of (λ (m : MarkOf). keeps l.kept.places.now l.kept.turns.now (call_of m)) [] l.marks l.place (map mark_of l.part.items)

abbrev pub decreases-marks : goal.decreases-marks
decreases-marks l = length l.marks - l.place
