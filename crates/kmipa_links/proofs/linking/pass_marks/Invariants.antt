use Rattle.std.proofs.Common.{◌≡◌, ◌-◌, List}
use Rattle.kmipa_ttlv.specs.Input.{taken_of}
use Rattle.kmipa_record.specs.Marks.{MarkOf}
use Rattle.kmipa_record.specs.TranscriptReading.{input_of, reference_of}
use Rattle.kmipa_links.specs.Linking.{IsTakenSoFar}
use Rattle.kmipa_links.proofs.linking.pass_marks.Given as goal

abbrev pub invariant-marks : goal.invariant-marks
invariant-marks g l = record {
  so_far : (marks : List MarkOf) × IsTakenSoFar marks l.source l.clash l.initial.links l.links;
  same : reference_of l.source ≡ reference_of l.initial.source;
}

abbrev pub decreases-marks : goal.decreases-marks
decreases-marks g l = 0x100_0000_0000 - taken_of (input_of l.source)
