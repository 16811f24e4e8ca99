use Rattle.std.proofs.Common.{length, ◌-◌, map}
use Rattle.kmipa_record.specs.Marks.{mark_of}
use Rattle.kmipa_check.specs.Calls.{call_of}
use Rattle.kmipa_check.specs.CallReading.{AreReadUpTo}
use Rattle.kmipa_check.proofs.reading.read_calls.Given as goal

abbrev pub invariant-marks : goal.invariant-marks
invariant-marks l = AreReadUpTo (map mark_of l.transcript.marks.items) l.place (map call_of l.calls.items)

abbrev pub decreases-marks : goal.decreases-marks
decreases-marks l = length l.transcript.marks.items - l.place
