use Rattle.std.proofs.Common.{◌∙◌, sym, ap, subst, Result}
use Rattle.kmipa_ttlv.specs.ViewTree.{view_tree}
use Rattle.kmipa_msgs.specs.declared.kind.OutsideKind.{OutsideKind}
use Rattle.kmipa_msgs.specs.Messages.{AskOf, ask_of}
use Rattle.kmipa_msgs.specs.Asks.{item_in}
use Rattle.kmipa_msgs.specs.Yields.{Yields}
use Rattle.kmipa_places.proofs.ToldLemmas.{as_it_is, as_told}
use Rattle.kmipa_places.proofs.told.read_told.Goals as goal

pub returns-in-Some : goal.returns-in-Some
returns-in-Some c =
    let t = view_tree c.args.item.now in
    let P : Result AskOf OutsideKind → Type 0 = λ r. Yields ask_of c.read_beside.result r in
    subst P (sym (as_told c.args.unordered t c.in-Some.operation (sym c.told_operation.ensures ∙ c.in-Some.is))) c.read_beside.ensures

pub returns-in-None : goal.returns-in-None
returns-in-None c =
    let t = view_tree c.args.item.now in
    let P : Result AskOf OutsideKind → Type 0 = λ r. Yields ask_of c.read_item.result r in
    let same = as_it_is t (sym c.told_operation.ensures ∙ c.in-None.is) in
    subst P (sym (ap (item_in c.args.unordered) same)) c.read_item.ensures
