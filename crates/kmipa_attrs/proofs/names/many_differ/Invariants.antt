use Rattle.std.proofs.Common.{map, take}
use Rattle.kmipa_attrs.specs.Names.{HasNoRepeats}
use Rattle.kmipa_attrs.specs.Sets.{name_of}
use Rattle.kmipa_attrs.proofs.NameLemmas.{Tracks}
use Rattle.kmipa_attrs.proofs.names.many_differ.Given as goal

abbrev pub invariant-loop-name : goal.invariant-loop-name
invariant-loop-name l = Tracks (map name_of (take l.name-index l.names)) l.seen × HasNoRepeats (map name_of (take l.name-index l.names))
