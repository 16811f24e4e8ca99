use Rattle.std.proofs.Common.{length, ◌-◌, map}
use Rattle.kmipa_record.specs.Marks.{mark_of}
use Rattle.kmipa_turns.specs.Recorded.{recorded_of}
use Rattle.kmipa_turns.specs.Turning.{AreReadUpTo}
use Rattle.kmipa_turns.proofs.reading.recorded_calls.Given as goal

abbrev pub invariant-marks : goal.invariant-marks
invariant-marks l = AreReadUpTo (map mark_of l.transcript.marks.items) l.place (map recorded_of l.calls.items)

abbrev pub decreases-marks : goal.decreases-marks
decreases-marks l = length l.transcript.marks.items - l.place
