use Rattle.kmipa_findings.proofs.missed.begin_at.Goals as goal

pub returns-in-None-clause-begin : goal.returns-in-None-clause-begin
returns-in-None-clause-begin c = λ b i. absurd (c.step_at.ensures.none c.in-None.is b i)
