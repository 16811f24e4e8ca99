use Rattle.std.proofs.Common.{rules, ◌≡◌, ◌+◌, sym, ap, ◌∙◌, arith}
use Rattle.kmipa_ttlv.specs.Tree.{Tree, Trees, structure, more}
use Rattle.kmipa_ttlv.specs.ItemTree.{tree, trees}
use Rattle.kmipa_ttlv.specs.ViewTree.{view_value_tree, view_tree, view_trees}
use Rattle.kmipa_ttlv.specs.Written.{size, sizes}
use Rattle.kmipa_ttlv.proofs.ItemTreeLemmas.{tree_of_structure}
use Rattle.kmipa_ttlv.proofs.StandsLemmas.{trees-push}
use Rattle.kmipa_ttlv.proofs.ViewTreeLemmas.{join, join-push, join-none, size-tag, size-some}
use Rattle.kmipa_ttlv.proofs.copying.+copying.Goals as goal

pub copy_all-children-preserved : goal.copy_all-children-preserved
copy_all-children-preserved t c =
    let ts = trees c.children.items.items in
    let child = view_tree c.in-Some.child in
    let item = tree c.in_ok-copy_item.field-0 in
    let rest = view_trees c.next.new.self in
    let next : view_trees c.children.left ≡ more child rest = c.in-Some.ensures in
    record {
      together = ap (λ (us : Trees). join us rest) (ap trees c.in_ok-push.ensures.items ∙ trees-push c.children.items.items c.in_ok-copy_item.field-0) ∙ join-push ts item rest
          ∙ ap (λ (u : Tree). join ts (more u rest)) c.in_ok-copy_item.ensures ∙ ap (join ts) (sym next) ∙ c.children.invariant.together;
      within = omega (arith, ap sizes next, c.children.invariant.within);
    }

pub copy_all-returns : goal.copy_all-returns
copy_all-returns t c =
    sym (join-none (trees c.children.items.items)) ∙ ap (join (trees c.children.items.items)) (sym (search rules)) ∙ c.children.invariant.together

pub copy_value-returns-in_ok-copy_all-in-Structure : goal.copy_value-returns-in_ok-copy_all-in-Structure
copy_value-returns-in_ok-copy_all-in-Structure t c = λ tag.
    tree_of_structure tag c.in_ok-copy_all-in-Structure.field-0 ∙ ap (structure tag) c.in_ok-copy_all-in-Structure.ensures ∙ sym (ap (view_value_tree tag) c.in-Structure.is)
