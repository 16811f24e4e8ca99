use Rattle.std.proofs.Common.{◌-◌, length}
use Rattle.kmipa_findings.proofs.missed.any_waits.Given as goal

abbrev pub decreases-trials : goal.decreases-trials
decreases-trials l = length l.trials - l.place
