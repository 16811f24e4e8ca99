use Rattle.std.proofs.Common.{◌≡◌, map, take}
use Rattle.kmipa_ttlv.specs.Tree.{forest}
use Rattle.kmipa_ttlv.specs.ItemTree.{trees}
use Rattle.kmipa_attrs.specs.Sets.{name_of}
use Rattle.kmipa_attrs.specs.Writing.{written_name}
use Rattle.kmipa_attrs.proofs.writing.write_names.Given as goal

abbrev pub invariant-loop-name : goal.invariant-loop-name
invariant-loop-name l = trees l.items.items ≡ forest (written_name l.short) (map name_of (take l.name-index l.names))
