use Rattle.std.proofs.Common.{List, option_map, subst, sym}
use Rattle.kmipa_json.specs.Told.{members_of}
use Rattle.kmipa_record.specs.Declarations.{declaration_of}
use Rattle.kmipa_record.specs.Transcripts.{transcript_of}
use Rattle.kmipa_judge.specs.Rules.{AreExplaining}
use Rattle.kmipa_judge.specs.declared.rule.Rule.{Rule}
use Rattle.kmipa_judge.proofs.RunLemmas.{told_records}
use Rattle.kmipa_judge.proofs.judging.tell_with_rules.Goals as goal

pub returns-in-Ok-clause-told : goal.returns-in-Ok-clause-told
returns-in-Ok-clause-told g c = λ seconds recorded judges fair.
    let run = c.tell_outcome.result in
    let records = c.args.records.now in
    let marks = transcript_of records.transcript in
    let declared = declaration_of records.declaration in
    let P : List Rule → Type 0 = λ rules. AreExplaining records.assumed marks declared c.args.outcome.now rules in
    told_records seconds (option_map members_of c.args.telling.opened) records.assumed marks declared c.args.outcome.now c.deref.result.now run.status run.lines.items
    run.witness.items run.declaration.items judges fair (subst P (sym c.deref.ensures.value) (c.in-Ok.ensures recorded)) (c.tell_outcome.ensures.told recorded)
