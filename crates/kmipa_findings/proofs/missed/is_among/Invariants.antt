use Rattle.std.proofs.Common.{◌-◌, length}
use Rattle.kmipa_findings.proofs.missed.is_among.Given as goal

abbrev pub decreases-places : goal.decreases-places
decreases-places l = length l.places - l.index
