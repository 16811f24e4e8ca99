use Rattle.std.proofs.Common.{◌≡◌, map, take}
use Rattle.kmipa_attrs.specs.Sets.{name_of, names_of}
use Rattle.kmipa_attrs.proofs.names.copy_names.Given as goal

abbrev pub invariant-loop-name : goal.invariant-loop-name
invariant-loop-name l = names_of l.copies ≡ map name_of (take l.name-index l.names)
