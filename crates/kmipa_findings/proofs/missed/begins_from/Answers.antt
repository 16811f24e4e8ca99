use Rattle.kmipa_findings.proofs.missed.begins_from.Goals as goal

pub returns-in-None : goal.returns-in-None
returns-in-None c = λ yes b i. absurd (c.step_at.ensures.none c.in-None.is b i)
