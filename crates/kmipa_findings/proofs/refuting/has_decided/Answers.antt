use Rattle.std.proofs.Common.{ltb-true, subst}
use Rattle.kmipa_findings.specs.Seeking.{Seeks}
use Rattle.kmipa_findings.specs.declared.seeking.Sought.{Sought}
use Rattle.kmipa_findings.proofs.refuting.has_decided.Goals as goal

pub returns-in-GaveUp : goal.returns-in-GaveUp
returns-in-GaveUp c = λ seconds marks declared seeks below.
    let S : Sought → Type 0 = λ s. Seeks seconds c.args.budget marks declared s in
    (subst S c.in-GaveUp.is seeks).1 (ltb-true c.in-GaveUp.steps c.args.budget below)
