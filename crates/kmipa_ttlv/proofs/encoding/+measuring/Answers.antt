use Rattle.std.proofs.Common.{sym, ap, subst, ◌∙◌, arith, List}
use Rattle.kmipa_ttlv.specs.Tree.{Tree, structure}
use Rattle.kmipa_ttlv.specs.ItemTree.{value_tree, tree, trees}
use Rattle.kmipa_ttlv.specs.Written.{LegalValue, MeasuredValue, AllLegal}
use Rattle.kmipa_ttlv.proofs.ItemTreeLemmas.{tree_of_structure}
use Rattle.kmipa_ttlv.proofs.MeasureLemmas.{no_level, measured_item}
use Rattle.kmipa_ttlv.proofs.encoding.+measuring.Goals as goal

pub spelled_within-returns-then-left-eq0 : goal.spelled_within-returns-then-left-eq0
spelled_within-returns-then-left-eq0 t c = no_level c.args.left (tree c.args.item.now) c.if-left-eq0.true

pub spelled_within-returns : goal.spelled_within-returns
spelled_within-returns t c = rw c.padded_len.ensures (measured_item c.args.left c.in_ok-len.len c.args.item.now.tag.number c.args.item.now.value c.if-left-eq0.false (omega arith) c.if-len.false (c.in_ok-len.ensures c.args.item.now.tag.number))

pub value_len-returns-in_err-spelled_all-in-Structure : goal.value_len-returns-in_err-spelled_all-in-Structure
value_len-returns-in_err-spelled_all-in-Structure t c = rw c.from_residual.ensures (λ tag.
    let v = c.in-Structure.children in
    subst (λ (tr : Tree). ¬ (LegalValue c.args.left tr)) (sym (ap (value_tree tag) c.in-Structure.is ∙ tree_of_structure tag v))
    (subst (λ (is : List _). ¬ (AllLegal c.args.left (trees is))) c.deref.ensures.value c.in_err-spelled_all-in-Structure.ensures))

pub value_len-returns-in_ok-spelled_all-in-Structure : goal.value_len-returns-in_ok-spelled_all-in-Structure
value_len-returns-in_ok-spelled_all-in-Structure t c = λ tag.
    let v = c.in-Structure.children in
    let n = c.in_ok-spelled_all-in-Structure.field-0 in
    subst (λ (tr : Tree). MeasuredValue c.args.left tr n) (sym (ap (value_tree tag) c.in-Structure.is ∙ tree_of_structure tag v))
    (subst (λ (is : List _). MeasuredValue c.args.left (structure tag (trees is)) n) c.deref.ensures.value c.in_ok-spelled_all-in-Structure.ensures)
