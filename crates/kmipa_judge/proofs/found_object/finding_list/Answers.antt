use Rattle.std.proofs.Common.{◌≤◌, length, rules}
use Rattle.kmipa_findings.specs.Told.{finding_of}
use Rattle.kmipa_json.specs.Told.{items_of, members_of}
use Rattle.kmipa_record.specs.Declarations.{declaration_of}
use Rattle.kmipa_record.specs.Transcripts.{transcript_of}
use Rattle.kmipa_judge.specs.Lines.{Meaning}
use Rattle.kmipa_judge.specs.Object.{TellsFinding}
use Rattle.kmipa_judge.specs.Parts.{IsMeaning}
use Rattle.kmipa_telling.proofs.ListLemmas.{one_object_more}
use Rattle.kmipa_judge.proofs.ObjectLemmas.{found_all}
use Rattle.kmipa_judge.proofs.found_object.finding_list.Goals as goal

pub findings-preserved : goal.findings-preserved
findings-preserved c =
    let records = c.args.meanings.records.now in
    let Means : Meaning = IsMeaning (transcript_of records.transcript) (declaration_of records.declaration) c.args.meanings.outcome.now in
    let f = c.index-findings-count.result in
    one_object_more (λ f. TellsFinding Means (finding_of f)) c.args.findings.now c.findings.count f f (items_of c.findings.list) (items_of c.push_object.new.self)
    (members_of c.in_ok-one.one) c.findings-test.true c.index-findings-count.is c.findings.invariant c.in_ok-one.ensures c.in_ok-push_object.ensures.ok

pub returns : goal.returns
returns c =
    let records = c.args.meanings.records.now in
    let Means : Meaning = IsMeaning (transcript_of records.transcript) (declaration_of records.declaration) c.args.meanings.outcome.now in
    let all : length c.args.findings.now ≤ c.findings.count = search rules in
    found_all Means c.args.findings.now c.findings.count (items_of c.findings.list) all c.findings.invariant
