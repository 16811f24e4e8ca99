use Rattle.std.proofs.Common.{◌-◌, length}
use Rattle.kmipa_findings.specs.Exhausting.{AreRisingUpTo}
use Rattle.kmipa_findings.proofs.missed.are_rising.Given as goal

abbrev pub invariant-trials : goal.invariant-trials
invariant-trials l = AreRisingUpTo l.trials l.place l.most

abbrev pub decreases-trials : goal.decreases-trials
decreases-trials l = length l.trials - l.place
