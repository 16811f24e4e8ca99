use Rattle.std.proofs.Common.{◌≡◌, ◌-◌, map}
use Rattle.kmipa_ttlv.specs.Input.{taken_of}
use Rattle.kmipa_record.specs.Marks.{mark_of}
use Rattle.kmipa_record.specs.TranscriptReading.{input_of, reference_of}
use Rattle.kmipa_links.specs.Linking.{IsTakenSoFar}
use Rattle.kmipa_links.proofs.linking.keep_marks.Given as goal

abbrev pub invariant-marks : goal.invariant-marks
invariant-marks g l = record {
  so_far : IsTakenSoFar (map mark_of l.marks.items) l.source l.clash l.initial.links l.links;
  same : reference_of l.source ≡ reference_of l.initial.source;
}

abbrev pub decreases-marks : goal.decreases-marks
decreases-marks g l = 0x100_0000_0000 - taken_of (input_of l.source)
