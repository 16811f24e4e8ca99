use Rattle.std.proofs.Common.{◌-◌, length, string_bytes}
use Rattle.kmipa_record.specs.Declarations.{declaration_of}
use Rattle.kmipa_record.specs.Transcripts.{transcript_of}
use Rattle.kmipa_judge.specs.Parts.{IsMeaning}
use Rattle.kmipa_judge.proofs.LineLemmas.{IsWritten}
use Rattle.kmipa_judge.proofs.lines.finding_lines.Given as goal

-- what is written, and what is still to be written
abbrev pub invariant-findings : goal.invariant-findings
invariant-findings l = IsWritten (IsMeaning (transcript_of l.meanings.records.now.transcript) (declaration_of l.meanings.records.now.declaration) l.meanings.outcome.now)
    l.findings l.count (string_bytes l.text)

abbrev pub decreases-findings : goal.decreases-findings
decreases-findings l = length l.findings - l.count
