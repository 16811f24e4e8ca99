use Rattle.std.proofs.Common.{◌≡◌, length}
use Rattle.kmipa_ttlv.specs.ItemTree.{trees}
use Rattle.kmipa_ttlv.specs.ViewTree.{from_tag}
use Rattle.kmipa_ttlv.proofs.children.lent_from.Given as goal

abbrev pub invariant-items : goal.invariant-items
invariant-items l = from_tag l.tag (trees l.rest) ≡ from_tag l.tag (trees l.items)

abbrev pub decreases-items : goal.decreases-items
decreases-items l = length l.rest
