use Rattle.std.proofs.Common.{map, take}
use Rattle.kmipa_attrs.specs.Sets.{name_of}
use Rattle.kmipa_ops.specs.KnownNames.{HasNames}
use Rattle.kmipa_ops.proofs.known_names.set_of.Given as goal

abbrev pub invariant-loop-name : goal.invariant-loop-name
invariant-loop-name l = HasNames (map name_of (take l.name-index l.names)) l.set
