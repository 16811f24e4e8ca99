use Rattle.std.proofs.Common.{◌≡◌, ◌∙◌, ◌+◌, length, sym, ap, arith}
use Rattle.std.specs.Option.{option_map}
use Rattle.kmipa_ttlv.specs.ViewTree.{view_tree, view_trees}
use Rattle.kmipa_attrs.specs.Fields.{every}
use Rattle.kmipa_attrs.specs.Tags.{batch_item}
use Rattle.kmipa_places.specs.Places.{place_of}
use Rattle.kmipa_places.specs.Unread.{is_among}
use Rattle.kmipa_places.proofs.ListLemmas.{places_step}
use Rattle.kmipa_places.proofs.reading.read_places.Goals as goal

pub items-preserved : goal.items-preserved
items-preserved c =
    let here : c.len.result ≡ length c.items.places.items = omega (arith, c.len.ensures, c.items.places.ok) in
    sym (places_step c.args.unordered c.args.asides.now c.items.places.items c.push.new.self.items c.in-Some-2.place
    (every batch_item (view_trees c.items.asks)) (every batch_item (view_trees c.next_of.new.self)) (every batch_item (view_trees c.items.answers)) (every batch_item (view_trees c.next_of-in-Some.new.self))
    (view_tree c.in-Some.item) (view_tree c.in-Some-next_of.answer) c.is_among-aside.result c.in-Some.ensures.next c.in-Some-next_of.ensures.next
    (c.is_among-aside.ensures ∙ ap (λ n. is_among c.args.asides.now (n + 1)) here)
    (sym (ap (option_map place_of) c.in-Some-2.is) ∙ c.in_ok-place.ensures) c.in_ok-push.ensures.items)
    ∙ c.items.invariant
