use Rattle.std.proofs.Common.{◌≡◌, length}
use Rattle.kmipa_ttlv.specs.ViewTree.{view_trees}
use Rattle.kmipa_attrs.specs.Tags.{name_tag}
use Rattle.kmipa_attrs.specs.Fields.{every}
use Rattle.kmipa_attrs.specs.Sets.{names_of}
use Rattle.kmipa_attrs.specs.Names.{as_name, with_names}
use Rattle.kmipa_attrs.specs.Readings.{map_ok}
use Rattle.kmipa_attrs.specs.Attributes.{names_in, all_named, each}
use Rattle.kmipa_attrs.proofs.names.read_names.Given as goal

abbrev pub invariant-children : goal.invariant-children
invariant-children l = names_in (view_trees l.fn.children) ≡ map_ok (with_names (names_of l.names)) (all_named (each as_name name_tag (view_trees l.left)))

abbrev pub decreases-children : goal.decreases-children
decreases-children l = length (every name_tag (view_trees l.left))
