use Rattle.std.proofs.Common.{◌≤◌, ◌++◌, length, ap, ◌∙◌, string_bytes, rules}
use Rattle.kmipa_record.specs.Declarations.{declaration_of}
use Rattle.kmipa_record.specs.Transcripts.{transcript_of}
use Rattle.kmipa_judge.specs.Lines.{Meaning}
use Rattle.kmipa_judge.specs.Parts.{IsMeaning}
use Rattle.kmipa_judge.proofs.LineLemmas.{written_all, written_on}
use Rattle.kmipa_judge.proofs.lines.finding_lines.Goals as goal

pub findings-preserved : goal.findings-preserved
findings-preserved c =
    let records = c.args.meanings.records.now in
    let Means : Meaning = IsMeaning (transcript_of records.transcript) (declaration_of records.declaration) c.args.meanings.outcome.now in
    written_on Means c.args.findings.now c.findings.count c.index-findings-count.result (string_bytes c.findings.text) (string_bytes c.in_ok-lines.lines) (string_bytes c.push_str.new.self)
    c.findings-test.true c.index-findings-count.is c.findings.invariant c.in_ok-lines.ensures
    (c.in_ok-push_str.ensures.bytes ∙ ap (λ t. string_bytes c.findings.text ++ t) c.as_str.ensures.value)

pub returns : goal.returns
returns c =
    let records = c.args.meanings.records.now in
    let Means : Meaning = IsMeaning (transcript_of records.transcript) (declaration_of records.declaration) c.args.meanings.outcome.now in
    let all : length c.args.findings.now ≤ c.findings.count = search rules in
    written_all Means c.args.findings.now c.findings.count (string_bytes c.findings.text) all c.findings.invariant
