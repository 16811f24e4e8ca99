use Rattle.std.proofs.Common.{◌≡◌, length, map}
use Rattle.std.specs.List.{slice_get}
use Rattle.kmipa_ttlv.specs.ViewTree.{view_trees}
use Rattle.kmipa_attrs.specs.Fields.{every}
use Rattle.kmipa_attrs.specs.Tags.{batch_item}
use Rattle.kmipa_msgs.specs.Messages.{ask_of, answers_of}
use Rattle.kmipa_msgs.specs.Replies.{answer_in}
use Rattle.kmipa_msgs.specs.Outside.{each_in}
use Rattle.kmipa_msgs.proofs.ItemLemmas.{split_items}
use Rattle.kmipa_msgs.proofs.reading.answer.read_answers.Given as goal

abbrev pub invariant-children : goal.invariant-children
invariant-children l =
    each_in (λ place. answer_in (slice_get (map ask_of l.asks) place)) (every batch_item (view_trees l.fn.children))
    ≡ split_items (λ place. answer_in (slice_get (map ask_of l.asks) place)) (answers_of l.answers) (every batch_item (view_trees l.left))

abbrev pub decreases-children : goal.decreases-children
decreases-children l = length (every batch_item (view_trees l.left))
