use Rattle.std.proofs.Common.{◌≡◌, length}
use Rattle.kmipa_ttlv.specs.ViewTree.{view_trees}
use Rattle.kmipa_attrs.specs.Fields.{every}
use Rattle.kmipa_attrs.specs.Tags.{batch_item}
use Rattle.kmipa_msgs.specs.Messages.{asks_of}
use Rattle.kmipa_msgs.specs.Asks.{item_in}
use Rattle.kmipa_msgs.specs.Outside.{each_in}
use Rattle.kmipa_msgs.proofs.ItemLemmas.{split_items}
use Rattle.kmipa_msgs.proofs.reading.ask.read_asks.Given as goal

abbrev pub invariant-children : goal.invariant-children
invariant-children l =
    each_in (λ place. item_in l.unordered) (every batch_item (view_trees l.fn.children)) ≡ split_items (λ place. item_in l.unordered) (asks_of l.asks) (every batch_item (view_trees l.left))

abbrev pub decreases-children : goal.decreases-children
decreases-children l = length (every batch_item (view_trees l.left))
