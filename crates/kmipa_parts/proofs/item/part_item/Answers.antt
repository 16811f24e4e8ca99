use Rattle.std.proofs.Common.{◌∙◌, Option, IfSome, map, sym, subst}
use Rattle.kmipa_msgs.specs.Messages.{answer_of, ask_of, lent, maybe_lent}
use Rattle.kmipa_parts.specs.Parts.{IsPart, is_among, stays}
use Rattle.kmipa_parts.specs.declared.item.PartItem.{PartItem}
use Rattle.kmipa_parts.proofs.item.part_item.Goals as goal

pub returns-in-Some : goal.returns-in-Some
returns-in-Some c =
    stays c.in-Some.id.now (sym c.about.ensures ∙ c.in-Some.ensures.0) c.in-Some.ensures.1 c.in_ok-stays.ensures.0 c.in_ok-stays.ensures.1

pub returns-in-Some-2 : goal.returns-in-Some-2
returns-in-Some-2 c =
    let before = maybe_lent c.args.held in
    let P : Option PartItem → Type 0 = λ o. IfSome o (λ (i : PartItem). IsPart (is_among (map lent c.args.ids.now)) before (ask_of c.args.ask.now) (answer_of c.args.answer.now) (ask_of i.ask) (answer_of i.answer)) in
    subst P c.in-Some-2.is (c.in_ok-item.ensures before)
