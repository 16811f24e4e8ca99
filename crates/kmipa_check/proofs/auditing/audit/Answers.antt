use Rattle.kmipa_ttlv.specs.Input.{came_of}
use Rattle.kmipa_ttlv.proofs.ReadLemmas.{itself}
use Rattle.kmipa_check.proofs.AuditLemmas.{yes_accepted, judged_as}
use Rattle.kmipa_check.proofs.auditing.audit.Goals as goal

pub returns-in-Ok-clause-accepted : goal.returns-in-Ok-clause-accepted
returns-in-Ok-clause-accepted g c = λ yes.
    let t = c.audit_with.new.transcript in
    let d = c.audit_with.new.declaration in
    let w = c.audit_with.new.witness in
    yes_accepted (came_of t) (came_of d) (came_of w) c.in-Ok.audited yes (c.in-Ok.ensures.audits (came_of t) (came_of d) (came_of w) (itself t) (itself d) (itself w))

pub returns-in-Ok-clause-audits : goal.returns-in-Ok-clause-audits
returns-in-Ok-clause-audits g c = λ t d w tf df wf. judged_as t d w c.in-Ok.audited (c.in-Ok.ensures.audits t d w tf df wf)
