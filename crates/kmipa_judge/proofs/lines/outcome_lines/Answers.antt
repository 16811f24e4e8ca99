use Rattle.std.proofs.Common.{string_bytes}
use Rattle.kmipa_record.specs.Declarations.{declaration_of}
use Rattle.kmipa_record.specs.Transcripts.{transcript_of}
use Rattle.kmipa_judge.specs.Parts.{IsMeaning}
use Rattle.kmipa_judge.proofs.LineLemmas.{outcome_printed}
use Rattle.kmipa_judge.proofs.lines.outcome_lines.Goals as goal

pub returns : goal.returns
returns c =
    let records = c.args.meanings.records.now in
    let outcome = c.args.meanings.outcome.now in
    outcome_printed (IsMeaning (transcript_of records.transcript) (declaration_of records.declaration) outcome) records.assumed outcome c.args.rules.now c.opinion_status.result
    (string_bytes c.in_ok-format.field-0) (string_bytes c.in_ok-first.first) c.assumed_line-second.result.now (string_bytes c.in_ok-found.found) (string_bytes c.in_ok-explained.explained)
    (string_bytes c.in_ok-last.last) c.findings_of-findings.result.now c.opinion_of-opinion.result c.steps_of.result c.findings_of-findings.ensures c.opinion_of-opinion.ensures c.steps_of.ensures
    c.in_ok-first.ensures c.assumed_line-second.ensures c.in_ok-found.ensures c.in_ok-explained.ensures c.in_ok-last.ensures c.opinion_status.ensures c.in_ok-format.ensures.ok
