use Rattle.std.proofs.Common.{length, ◌-◌, map}
use Rattle.kmipa_check.specs.Numbers.{IndexesBelow}
use Rattle.kmipa_check.proofs.numbers.FirstPlaces.of.Given as goal

abbrev pub invariant-items : goal.invariant-items
invariant-items g l = IndexesBelow (map g.T.Numbered.number_in l.items) l.place l.first

abbrev pub decreases-items : goal.decreases-items
decreases-items g l = length l.items - l.place
