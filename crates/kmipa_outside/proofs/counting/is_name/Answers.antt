use Rattle.std.proofs.Common.{◌∙◌, sym, ap, is_some}
use Rattle.kmipa_ttlv.specs.ViewTree.{view_tree, view_trees}
use Rattle.kmipa_attrs.specs.Names.{name_from}
use Rattle.kmipa_attrs.proofs.NameLemmas.{as_name-none, as_name-some}
use Rattle.kmipa_outside.proofs.counting.is_name.Goals as goal

pub returns-in-Some : goal.returns-in-Some
returns-in-Some c =
    c.says_name.ensures
    ∙ (λ i. is_some (name_from (c.text_at.ensures i) (c.enumeration_at.ensures i)))
    ∙ sym (ap is_some (as_name-some (view_tree c.args.view.now) (view_trees c.in-Some.children) c.in-Some.ensures))

pub returns-in-None : goal.returns-in-None
returns-in-None c = sym (ap is_some (as_name-none (view_tree c.args.view.now) c.in-None.ensures))
