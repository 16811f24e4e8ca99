use Rattle.std.proofs.Common.{◌≡◌, length}
use Rattle.kmipa_ttlv.specs.Spelled.{items_at}
use Rattle.kmipa_ttlv.specs.ViewTree.{from_tag}
use Rattle.kmipa_ttlv.proofs.spelled.front_of.Given as goal

abbrev pub invariant-items : goal.invariant-items
invariant-items l = from_tag l.tag (items_at l.rest) ≡ from_tag l.tag (items_at l.bytes)

abbrev pub decreases-items : goal.decreases-items
decreases-items l = length l.rest
