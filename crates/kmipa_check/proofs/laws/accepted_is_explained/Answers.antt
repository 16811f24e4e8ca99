use Rattle.kmipa_check.proofs.laws.accepted_is_explained.Goals as goal

pub returns : goal.returns
returns c = λ marks declared turns a. record { calls = a.calls; are = a.are; start = a.start; described = a.described; steps = a.steps; run = a.run }
