use Rattle.std.proofs.Common.{refl}
use Rattle.kmipa_findings.proofs.trial.waiting.Goals as goal

pub returns-in-Read-clause-waits : goal.returns-in-Read-clause-waits
returns-in-Read-clause-waits c = (c.in-Read.said, refl)
