use Rattle.std.proofs.Common.{◌≡◌, map, take}
use Rattle.kmipa_attrs.specs.Names.{with_names}
use Rattle.kmipa_attrs.specs.Sets.{name_of, names_of}
use Rattle.kmipa_check.proofs.completing.add_names.Given as goal

abbrev pub invariant-loop-name : goal.invariant-loop-name
invariant-loop-name l = names_of l.names ≡ with_names (names_of l.fn.names) (map name_of (take l.name-index l.added))
