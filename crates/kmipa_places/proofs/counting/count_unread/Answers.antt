use Rattle.std.proofs.Common.{◌∙◌, ap}
use Rattle.kmipa_ttlv.specs.ViewTree.{view_trees}
use Rattle.kmipa_attrs.specs.Fields.{every}
use Rattle.kmipa_attrs.specs.Tags.{batch_item}
use Rattle.kmipa_places.specs.Calls.{message_of}
use Rattle.kmipa_places.specs.Unread.{or_nothing}
use Rattle.kmipa_places.proofs.CountingLemmas.{counted_call}
use Rattle.kmipa_places.proofs.counting.count_unread.Goals as goal

pub returns : goal.returns
returns c =
    counted_call (message_of c.args.request) (message_of c.args.response) c.order_of-unordered.result c.is_response_unread-unread.result
    (every batch_item (view_trees c.or_none-asks.result)) (every batch_item (view_trees c.or_none-answers.result)) c.count_items.result c.count_items.ensures
    c.order_of-unordered.ensures c.is_response_unread-unread.ensures
    (c.or_none-asks.ensures ∙ ap or_nothing c.asked.ensures) (c.or_none-answers.ensures ∙ ap or_nothing c.answered.ensures)
