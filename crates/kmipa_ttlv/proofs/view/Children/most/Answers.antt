use Rattle.std.proofs.Common.{◌≤◌, length, sym, subst}
use Rattle.kmipa_ttlv.specs.Tree.{every}
use Rattle.kmipa_ttlv.specs.ViewTree.{source_trees}
use Rattle.kmipa_ttlv.specs.declared.view.Source.{Source}
use Rattle.kmipa_ttlv.proofs.SpelledLemmas.{few_items}
use Rattle.kmipa_ttlv.proofs.ViewTreeLemmas.{every_of_items}
use Rattle.kmipa_ttlv.proofs.view.Children.most.Goals as goal

pub returns-in-Spelled : goal.returns-in-Spelled
returns-in-Spelled c = λ tag.
    subst (λ (s : Source). length (every tag (source_trees s)) ≤ length c.in-Spelled.bytes.now) (sym c.in-Spelled.is) (few_items tag c.in-Spelled.bytes.now)

pub returns-in-Lent : goal.returns-in-Lent
returns-in-Lent c = λ tag.
    subst (λ (s : Source). length (every tag (source_trees s)) ≤ length c.in-Lent.items.now) (sym c.in-Lent.is) (every_of_items tag c.in-Lent.items.now)
