use Rattle.std.proofs.Common.{◌≡◌, length, map}
use Rattle.kmipa_ttlv.specs.ViewTree.{view_trees}
use Rattle.kmipa_attrs.specs.Fields.{every}
use Rattle.kmipa_attrs.specs.Tags.{unique_identifier}
use Rattle.kmipa_msgs.specs.Messages.{lent}
use Rattle.kmipa_msgs.specs.Locates.{located_in}
use Rattle.kmipa_msgs.proofs.LocateLemmas.{behind}
use Rattle.kmipa_msgs.proofs.reading.locate.read_located.Given as goal

abbrev pub invariant-children : goal.invariant-children
invariant-children l = located_in (view_trees l.payload) ≡ behind (map lent l.ids.items) (located_in (view_trees l.left))

abbrev pub decreases-children : goal.decreases-children
decreases-children l = length (every unique_identifier (view_trees l.left))
