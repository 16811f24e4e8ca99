use Rattle.std.proofs.Common.{◌-◌, length}
use Rattle.kmipa_segments.proofs.comparing.places_of.Given as goal

abbrev pub decreases-entries : goal.decreases-entries
decreases-entries l = length l.entries - l.place
