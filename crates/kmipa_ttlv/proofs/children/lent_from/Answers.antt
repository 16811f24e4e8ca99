use Rattle.std.proofs.Common.{rules, ◌≡◌, ◌∷◌, List, sym, ap, ◌∙◌}
use Rattle.kmipa_ttlv.specs.Tree.{more}
use Rattle.kmipa_ttlv.specs.ItemTree.{tree, trees}
use Rattle.kmipa_ttlv.specs.ViewTree.{from_tag}
use Rattle.kmipa_ttlv.proofs.ViewTreeLemmas.{tag_of-tree, from_there, from_after, from_none, no_items}
use Rattle.kmipa_ttlv.proofs.children.lent_from.Goals as goal

pub returns-then-item-tag : goal.returns-then-item-tag
returns-then-item-tag c =
    let item = c.in-Some.item.now in
    let others = c.in-Some.others.now in
    let is : trees c.items.rest.now ≡ more (tree item) (trees others) = ap trees c.in-Some.ensures.cases.0 in
    is ∙ sym (from_there c.args.tag (tree item) (trees others) (tag_of-tree item ∙ c.if-item-tag.true)) ∙ ap (from_tag c.args.tag) (sym is) ∙ c.items.invariant

pub items-preserved : goal.items-preserved
items-preserved c =
    let item = c.in-Some.item.now in
    let others = c.in-Some.others.now in
    let is : trees c.items.rest.now ≡ more (tree item) (trees others) = ap trees c.in-Some.ensures.cases.0 in
    sym (from_after c.args.tag (tree item) (trees others) (λ e. c.if-item-tag.false (sym (tag_of-tree item) ∙ e))) ∙ ap (from_tag c.args.tag) (sym is) ∙ c.items.invariant

pub returns : goal.returns
returns c =
    let is = no_items c.items.rest.now (search rules) in
    is ∙ sym (from_none c.args.tag) ∙ ap (from_tag c.args.tag) (sym is) ∙ c.items.invariant
