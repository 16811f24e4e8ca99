use Rattle.kmipa_ttlv.specs.Input.{came_of}
use Rattle.kmipa_judge.proofs.CheckLemmas.{audited_known, audits_inputs, json_known, json_so, recorded_so}
use Rattle.kmipa_judge.proofs.checking.as_ever.json_as_ever.Goals as goal

pub audited_object-requires-clause-known : goal.audited_object-requires-clause-known
audited_object-requires-clause-known g c =
    let t = c.args.files.now.transcript.now in
    let d = c.args.files.now.declaration.now in
    let w = c.args.files.now.witness.now in
    audited_known c.args.records c.audited-outcome.result (came_of t) (c.audited-outcome.ensures (recorded_so t d w c.args.records c.requires.reads)) c.requires.known

pub returns-clause-told : goal.returns-clause-told
returns-clause-told g c =
    let t = c.args.files.now.transcript.now in
    let d = c.args.files.now.declaration.now in
    let w = c.args.files.now.witness.now in
    json_so c.args.torn t d w c.audited-outcome.result _ _
    (audits_inputs t d w c.args.records c.audited-outcome.result c.requires.reads (c.audited-outcome.ensures (recorded_so t d w c.args.records c.requires.reads))) c.in_ok-audited_object.ensures

pub returns-clause-known : goal.returns-clause-known
returns-clause-known g c =
    let t = c.args.files.now.transcript.now in
    let d = c.args.files.now.declaration.now in
    let w = c.args.files.now.witness.now in
    json_known c.args.torn t d w c.audited-outcome.result _ _ c.audit_head.result c.audit_head.ensures
    (audited_known c.args.records c.audited-outcome.result (came_of t) (c.audited-outcome.ensures (recorded_so t d w c.args.records c.requires.reads)) c.requires.known) c.in_ok-audited_object.ensures
