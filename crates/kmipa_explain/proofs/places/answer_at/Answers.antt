use Rattle.std.proofs.Common.{◌∙◌, map, sym, ap, arith}
use Rattle.kmipa_msgs.specs.Messages.{ResponseOf, answer_of}
use Rattle.kmipa_batch.proofs.PlaceLemmas.{got_none, got_some}
use Rattle.kmipa_explain.specs.Places.{at_item}
use Rattle.kmipa_explain.proofs.PairLemmas.{at_before}
use Rattle.kmipa_explain.proofs.places.answer_at.Goals as goal

pub returns-in-Some : goal.returns-in-Some
returns-in-Some c =
    let answers = c.response.result.now.items.items in
    sym (at_before (map answer_of answers) c.args.item (omega (arith, c.if-item-eq0.false))
    ∙ got_some answer_of c.deref.result.now answers _ c.in-Some.answer.now c.deref.ensures.value c.in-Some.ensures.lookup.3.0 c.in-Some.ensures.lookup.1)
    ∙ ap (λ (r : ResponseOf). at_item r.items c.args.item) c.response.ensures

pub returns-in-None : goal.returns-in-None
returns-in-None c =
    let answers = c.response.result.now.items.items in
    sym (at_before (map answer_of answers) c.args.item (omega (arith, c.if-item-eq0.false)) ∙ got_none answer_of c.deref.result.now answers _ c.deref.ensures.value c.in-None.ensures.lookup.3)
    ∙ ap (λ (r : ResponseOf). at_item r.items c.args.item) c.response.ensures
