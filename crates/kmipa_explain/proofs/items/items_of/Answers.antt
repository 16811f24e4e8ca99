use Rattle.std.proofs.Common.{map, arith}
use Rattle.std.proofs.lemmas.List.{length-map}
use Rattle.kmipa_check.specs.Steps.{step_of}
use Rattle.kmipa_check.proofs.PlaceLemmas.{mapped_at}
use Rattle.kmipa_explain.specs.Reading.{seen_item}
use Rattle.kmipa_explain.proofs.ItemLemmas.{items_all, items_more, items_none}
use Rattle.kmipa_explain.proofs.items.items_of.Goals as goal

pub steps-init : goal.steps-init
steps-init c = items_none (map step_of c.args.steps.now) c.new-items.result.items c.new-items.ensures.items

pub steps-preserved : goal.steps-preserved
steps-preserved c =
    items_more (map step_of c.args.steps.now) c.steps.at (step_of c.index-steps-at.result) (map seen_item c.steps.items.items) (map seen_item c.add_items.new.items.items)
    (mapped_at step_of c.args.steps.now c.steps.at c.index-steps-at.result c.steps-test.true c.index-steps-at.is) c.in_ok-add_items.ensures c.steps.invariant

pub returns : goal.returns
returns c = items_all (map step_of c.args.steps.now) c.steps.at (map seen_item c.steps.items.items) (omega (arith, c.steps-test.false, length-map c.args.steps.now step_of)) c.steps.invariant
