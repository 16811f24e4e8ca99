use Rattle.std.proofs.Common.{refl, sym, ap, ◌∙◌}
use Rattle.std.specs.Prelude.{Some}
use Rattle.kmipa_ttlv.specs.ItemTree.{trees}
use Rattle.kmipa_ttlv.specs.Spelled.{items_at}
use Rattle.kmipa_ttlv.specs.ViewTree.{view_trees, source_trees, from_tag}
use Rattle.kmipa_ttlv.proofs.SpelledLemmas.{items_nothing}
use Rattle.kmipa_ttlv.proofs.ViewTreeLemmas.{next_none, next_with, next_has}
use Rattle.kmipa_ttlv.proofs.view.Children.next_of.Goals as goal

pub returns-in_default-clause-next : goal.returns-in_default-clause-next
returns-in_default-clause-next c =
    next_none c.args.tag (view_trees c.args.self.now) (ap (from_tag c.args.tag) (ap source_trees c.in-Spelled.is) ∙ c.in_default.ensures)

pub returns-in_default-clause-end : goal.returns-in_default-clause-end
returns-in_default-clause-end c = items_nothing

pub returns-in-Some-clause-next : goal.returns-in-Some-clause-next
returns-in-Some-clause-next c =
    let ts = view_trees c.args.self.now in
    next_with c.args.tag ts (from_tag c.args.tag ts) (items_at c.in-Some.others.now) (Some c.in-Some.view) refl (ap (from_tag c.args.tag) (ap source_trees c.in-Spelled.is) ∙ c.in-Some.ensures)

pub returns-in-Some-clause-tag : goal.returns-in-Some-clause-tag
returns-in-Some-clause-tag c =
    let ts = view_trees c.args.self.now in
    next_has c.args.tag ts (from_tag c.args.tag ts) (items_at c.in-Some.others.now) (Some c.in-Some.view) refl (ap (from_tag c.args.tag) (ap source_trees c.in-Spelled.is) ∙ c.in-Some.ensures)

pub returns-in-Lent-clause-next : goal.returns-in-Lent-clause-next
returns-in-Lent-clause-next c =
    let ts = view_trees c.args.self.now in
    next_with c.args.tag ts (trees c.lent_from.result.now) (view_trees c.next.new.self) c.next.result (c.lent_from.ensures ∙ ap (from_tag c.args.tag) (sym (ap source_trees c.in-Lent.is))) c.next.ensures

pub returns-in-Lent-clause-tag : goal.returns-in-Lent-clause-tag
returns-in-Lent-clause-tag c =
    let ts = view_trees c.args.self.now in
    next_has c.args.tag ts (trees c.lent_from.result.now) (view_trees c.next.new.self) c.next.result (c.lent_from.ensures ∙ ap (from_tag c.args.tag) (sym (ap source_trees c.in-Lent.is))) c.next.ensures
