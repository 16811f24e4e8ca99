use Rattle.std.proofs.Common.{◌↔◌, map, length}
use Rattle.kmipa_attrs.specs.Names.{HasNoRepeats}
use Rattle.kmipa_attrs.specs.Sets.{name_of}
use Rattle.kmipa_attrs.proofs.names.few_differ.Given as goal

abbrev pub invariant-names : goal.invariant-names
invariant-names l = HasNoRepeats (map name_of l.left) ↔ HasNoRepeats (map name_of l.fn.names)

abbrev pub decreases-names : goal.decreases-names
decreases-names l = length l.left
