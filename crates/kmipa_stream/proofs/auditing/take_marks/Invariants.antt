use Rattle.std.proofs.Common.{◌≡◌, ◌-◌, List, [], true, false}
use Rattle.kmipa_ttlv.specs.Input.{taken_of}
use Rattle.kmipa_record.specs.Declarations.{DeclarationOf}
use Rattle.kmipa_record.specs.Marks.{MarkOf}
use Rattle.kmipa_record.specs.TranscriptReading.{input_of, reference_of, HaveCome}
use Rattle.kmipa_record.specs.declared.turn.Turn.{Turn}
use Rattle.kmipa_stream.specs.Standing.{Stands}
use Rattle.kmipa_stream.proofs.auditing.take_marks.Given as goal

abbrev pub invariant-marks : goal.invariant-marks
invariant-marks g l = record {
  come : (marks : List MarkOf) × HaveCome marks l.source
      × ((turns : List Turn) (declared : DeclarationOf) → Stands false [] turns declared l.fn.auditor → l.sufficed ≡ true → Stands false marks turns declared l.auditor);
  same : reference_of l.source ≡ reference_of l.initial.source;
}

abbrev pub decreases-marks : goal.decreases-marks
decreases-marks g l = 0x100_0000_0000 - taken_of (input_of l.source)
