use Rattle.std.proofs.Common.{None, map, refl, arith}
use Rattle.kmipa_check.specs.Steps.{step_of}
use Rattle.kmipa_explain.specs.Reading.{seen_item}
use Rattle.kmipa_explain.specs.Meant.{text_of}
use Rattle.kmipa_explain.proofs.ItemLemmas.{adds_all, adds_more, adds_none}
use Rattle.kmipa_explain.proofs.items.add_items.Goals as goal

pub items-init : goal.items-init
items-init c = adds_none c.args.turn (step_of c.args.step.now) _ (map seen_item c.args.items.now.items) None refl refl

pub items-preserved : goal.items-preserved
items-preserved c =
    adds_more c.args.turn (step_of c.args.step.now) _ c.items.position c.place_at.result (map seen_item c.items.items.items) (map seen_item c.add_item.new.items.items)
    (text_of c.items.held) (text_of c.in_ok-held.held) c.place_at.ensures c.in_ok-held.ensures c.items.invariant

pub returns : goal.returns
returns c =
    adds_all c.args.turn (step_of c.args.step.now) _ c.items.position (map seen_item c.items.items.items) (text_of c.items.held)
    (omega (arith, c.items-test.false, c.count_of-count.ensures)) c.items.invariant
