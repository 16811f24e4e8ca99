use Rattle.std.proofs.Common.{◌≡◌, sym, ap, ◌∙◌}
use Rattle.kmipa_ttlv.specs.Tree.{structure}
use Rattle.kmipa_ttlv.specs.ItemTree.{value_tree, trees}
use Rattle.kmipa_ttlv.proofs.ItemTreeLemmas.{tree_of_structure}
use Rattle.kmipa_ttlv.proofs.lending.lend_value.Goals as goal

pub returns-in-Structure : goal.returns-in-Structure
returns-in-Structure c = λ tag.
    ap (λ items. structure tag (trees items)) c.deref.ensures.value ∙ sym (ap (value_tree tag) c.in-Structure.is ∙ tree_of_structure tag c.in-Structure.children)
