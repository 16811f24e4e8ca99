use Rattle.kmipa_findings.proofs.TriedLemmas.{waits_unsure}
use Rattle.kmipa_findings.proofs.descending.whole.Goals as goal

pub returns-clause-ends : goal.returns-clause-ends
returns-clause-ends c = λ marks declared guessed h. waits_unsure marks declared c.args.trials.now (c.any_waits-guessed.ensures guessed) h
