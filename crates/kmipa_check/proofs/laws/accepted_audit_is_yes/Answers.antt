use Rattle.kmipa_check.proofs.AcceptedAuditLemmas.{accepted_audit_is_yes_lem}
use Rattle.kmipa_check.proofs.laws.accepted_audit_is_yes.Goals as goal

pub returns : goal.returns
returns c = λ t d w result a h. accepted_audit_is_yes_lem t d w a result h
