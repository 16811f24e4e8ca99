use Rattle.kmipa_ttlv.specs.Input.{came_of}
use Rattle.kmipa_ttlv.specs.Input.{is_failed}
use Rattle.kmipa_telling.proofs.SealLemmas.{known_judged}
use Rattle.kmipa_judge.proofs.CheckLemmas.{explained_known, explained_so, recorded_so}
use Rattle.kmipa_judge.proofs.checking.as_ever.lines_as_ever.Goals as goal

pub explain_records-outcome-requires-clause-recorded : goal.explain_records-outcome-requires-clause-recorded
explain_records-outcome-requires-clause-recorded g c =
    let t = c.args.files.now.transcript.now in
    let d = c.args.files.now.declaration.now in
    let w = c.args.files.now.witness.now in
    recorded_so t d w c.args.records c.requires.reads

pub returns-clause-told : goal.returns-clause-told
returns-clause-told g c =
    let t = c.args.files.now.transcript.now in
    let d = c.args.files.now.declaration.now in
    let w = c.args.files.now.witness.now in
    explained_so t d w c.explain_records-outcome.result _ _
    (λ x y z xf yf zf. c.explain_records-outcome.ensures.audits x y z (is_failed t) (is_failed d) (is_failed w) (c.requires.reads.0 x y z xf yf zf)) c.requires.reads.1 c.in_ok-outcome_lines.ensures

pub returns-clause-known : goal.returns-clause-known
returns-clause-known g c =
    let bytes = came_of c.args.files.now.transcript.now in
    let outcome = c.explain_records-outcome.result in
    explained_known bytes outcome _ _ c.explained_head.result c.explained_head.ensures (known_judged outcome c.args.records bytes c.explain_records-outcome.ensures.same c.requires.known) c.in_ok-outcome_lines.ensures
