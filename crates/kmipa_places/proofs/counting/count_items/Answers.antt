use Rattle.std.proofs.Common.{◌≡◌, ◌+◌, ◌∙◌, length, suc, inl, inr, ap, arith, rules, []}
use Rattle.kmipa_ttlv.specs.ViewTree.{view_tree, view_trees}
use Rattle.kmipa_attrs.specs.Fields.{every}
use Rattle.kmipa_attrs.specs.Tags.{batch_item}
use Rattle.kmipa_places.specs.Counting.{unread_counts_of}
use Rattle.kmipa_places.specs.Openings.{total_unread}
use Rattle.kmipa_places.proofs.CountingLemmas.{counts_end, counts_next, total_next}
use Rattle.kmipa_places.proofs.counting.count_items.Goals as goal

pub returns-in_default-next_of : goal.returns-in_default-next_of
returns-in_default-next_of c =
    let none : every batch_item (view_trees c.items.answers) ≡ [] = search rules in
    counts_end c.args.unordered c.args.unread (every batch_item (view_trees c.args.asked)) (every batch_item (view_trees c.args.answered)) (unread_counts_of c.items.counts)
    (every batch_item (view_trees c.items.asks)) (every batch_item (view_trees c.items.answers)) c.items.invariant.0 (inr none)

pub items-preserved : goal.items-preserved
items-preserved c =
    let n = unread_counts_of c.items.counts in
    let asks = every batch_item (view_trees c.items.asks) in
    let rest = every batch_item (view_trees c.next_of.new.self) in
    let all = every batch_item (view_trees c.args.asked) in
    let long : length asks ≡ suc (length rest) = ap length c.in-Some.ensures.next in
    let total : total_unread (unread_counts_of c.add-counts.result) ≡ total_unread n + 1 = ap total_unread c.add-counts.ensures ∙ total_next c.in_ok-by.by n in
    let few = c.items.invariant.1 in (
      counts_next c.args.unordered c.args.unread all (every batch_item (view_trees c.args.answered)) n (unread_counts_of c.add-counts.result)
          asks (every batch_item (view_trees c.items.answers)) rest (every batch_item (view_trees c.next_of-in-Some.new.self)) (view_tree c.in-Some.item) (view_tree c.in-Some-next_of.answer) c.in_ok-by.by
          c.items.invariant.0 c.in-Some.ensures.next c.in-Some-next_of.ensures.next c.add-counts.ensures c.in_ok-by.ensures,
      omega (arith, long, total, few),
    )

pub returns : goal.returns
returns c =
    let none : every batch_item (view_trees c.items.asks) ≡ [] = search rules in
    counts_end c.args.unordered c.args.unread (every batch_item (view_trees c.args.asked)) (every batch_item (view_trees c.args.answered)) (unread_counts_of c.items.counts)
    (every batch_item (view_trees c.items.asks)) (every batch_item (view_trees c.items.answers)) c.items.invariant.0 (inl none)
