use Rattle.kmipa_findings.proofs.missed.waits.Goals as goal

pub returns-in-None : goal.returns-in-None
returns-in-None c = λ yes. c.step_at.ensures.none c.in-None.is
