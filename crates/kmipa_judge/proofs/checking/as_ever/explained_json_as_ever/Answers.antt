use Rattle.kmipa_ttlv.specs.Input.{came_of}
use Rattle.kmipa_telling.proofs.SealLemmas.{known_judged}
use Rattle.kmipa_judge.proofs.CheckLemmas.{explained_json_known, explained_json_so, explains_inputs, recorded_so}
use Rattle.kmipa_judge.proofs.checking.as_ever.explained_json_as_ever.Goals as goal

pub explain_records-outcome-requires-clause-recorded : goal.explain_records-outcome-requires-clause-recorded
explain_records-outcome-requires-clause-recorded g c =
    let t = c.args.files.now.transcript.now in
    let d = c.args.files.now.declaration.now in
    let w = c.args.files.now.witness.now in
    recorded_so t d w c.args.records c.requires.reads

pub explained_object-requires-clause-known : goal.explained_object-requires-clause-known
explained_object-requires-clause-known g c =
    known_judged c.explain_records-outcome.result c.args.records (came_of c.args.files.now.transcript.now) c.explain_records-outcome.ensures.same c.requires.known

pub returns-clause-told : goal.returns-clause-told
returns-clause-told g c =
    let t = c.args.files.now.transcript.now in
    let d = c.args.files.now.declaration.now in
    let w = c.args.files.now.witness.now in
    explained_json_so c.args.torn t d w c.explain_records-outcome.result _ _
    (explains_inputs t d w c.args.records c.explain_records-outcome.result c.requires.reads c.explain_records-outcome.ensures.audits) c.in_ok-explained_object.ensures

pub returns-clause-known : goal.returns-clause-known
returns-clause-known g c =
    let t = c.args.files.now.transcript.now in
    let d = c.args.files.now.declaration.now in
    let w = c.args.files.now.witness.now in
    explained_json_known c.args.torn t d w c.explain_records-outcome.result _ _ c.explained_head.result c.explained_head.ensures
    (known_judged c.explain_records-outcome.result c.args.records (came_of t) c.explain_records-outcome.ensures.same c.requires.known) c.in_ok-explained_object.ensures
