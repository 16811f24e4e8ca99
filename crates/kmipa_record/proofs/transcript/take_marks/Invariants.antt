use Rattle.std.proofs.Common.{◌≡◌, ◌-◌, map}
use Rattle.kmipa_ttlv.specs.Input.{taken_of, StaysOver}
use Rattle.kmipa_record.specs.Marks.{mark_of}
use Rattle.kmipa_record.specs.TranscriptReading.{input_of, reference_of, HaveCome}
use Rattle.kmipa_record.proofs.transcript.take_marks.Given as goal

abbrev pub invariant-marks : goal.invariant-marks
invariant-marks g l =
    HaveCome (map mark_of l.marks.items) l.source
    × (reference_of l.source ≡ reference_of l.initial.source)
    × StaysOver g.R.Read.remaining (input_of l.initial.source) (input_of l.source)

abbrev pub decreases-marks : goal.decreases-marks
decreases-marks g l = 0x100_0000_0000 - taken_of (input_of l.source)
