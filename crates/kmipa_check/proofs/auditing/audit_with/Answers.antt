use Rattle.kmipa_ttlv.specs.Input.{is_failed}
use Rattle.kmipa_check.proofs.AuditLemmas.{judged, unjudged, fails}
use Rattle.kmipa_check.proofs.auditing.audit_with.Goals as goal

pub returns-in-Ok-check-clause-audits : goal.returns-in-Ok-check-clause-audits
returns-in-Ok-check-clause-audits g c = λ t d w tf df wf.
    let are = c.in-Ok.ensures.reads t d w tf df wf in
    judged t d w c.in-Ok.records c.in-Ok-check.verdict are (c.in-Ok-check.ensures are.transcript.recorded)

pub returns-in-Err-check-clause-audits : goal.returns-in-Err-check-clause-audits
returns-in-Err-check-clause-audits g c = λ t d w tf df wf.
    let are = c.in-Ok.ensures.reads t d w tf df wf in
    unjudged t d w c.in-Ok.records c.in-Err-check.fault are (c.in-Err-check.ensures are.transcript.recorded)

pub returns-in-Err-clause-audits : goal.returns-in-Err-clause-audits
returns-in-Err-clause-audits g c = λ t d w tf df wf.
    fails t d w (is_failed c.read_records.new.transcript) (is_failed c.read_records.new.declaration) (is_failed c.read_records.new.witness) c.in-Err.fault
    (c.in-Err.ensures.reads t d w tf df wf)
