use Rattle.std.proofs.Common.{◌≡◌, ◌≤◌, map, drop, length}
use Rattle.kmipa_record.specs.Declarations.{declaration_of}
use Rattle.kmipa_record.specs.Marks.{AreRecorded}
use Rattle.kmipa_record.specs.Transcripts.{transcript_of}
use Rattle.kmipa_record.specs.Witnesses.{witness_of}
use Rattle.kmipa_findings.specs.Findings.{AreFound, left_out}
use Rattle.kmipa_findings.specs.Told.{finding_of}
use Rattle.kmipa_findings.proofs.confirming.without.Given as goal

abbrev pub invariant-findings : goal.invariant-findings
invariant-findings l = record {
  within : l.first ≤ length l.findings;
  left : witness_of l.left ≡ left_out (witness_of l.witness) (map finding_of (drop l.first l.findings));
  found : AreRecorded (transcript_of l.transcript) → AreFound (transcript_of l.transcript) (declaration_of l.declaration) (witness_of l.witness) (map finding_of (drop l.first l.findings));
}

abbrev pub decreases-findings : goal.decreases-findings
decreases-findings l = l.first
