use Rattle.std.proofs.Common.{string_bytes}
use Rattle.kmipa_record.specs.Declarations.{declaration_of}
use Rattle.kmipa_record.specs.Transcripts.{transcript_of}
use Rattle.kmipa_findings.specs.Told.{finding_of}
use Rattle.kmipa_judge.specs.Parts.{IsMeaning}
use Rattle.kmipa_judge.proofs.LineLemmas.{meaning_indented}
use Rattle.kmipa_judge.proofs.lines.meaning_lines.Goals as goal

pub returns : goal.returns
returns c =
    let records = c.args.meanings.records.now in
    meaning_indented (IsMeaning (transcript_of records.transcript) (declaration_of records.declaration) c.args.meanings.outcome.now) (finding_of c.args.finding.now)
    c.in_ok-meaning.meaning (string_bytes c.in_ok-text.text) c.as_str.result.now c.indented.result c.in_ok-meaning.ensures c.in_ok-text.ensures c.as_str.ensures.value c.indented.ensures
