use Rattle.std.proofs.Common.{◌-◌, ◌++◌, map}
use Rattle.kmipa_check.specs.Steps.{step_of}
use Rattle.kmipa_explain.specs.Items.{items_of_call}
use Rattle.kmipa_explain.specs.Reading.{seen_item}
use Rattle.kmipa_explain.specs.Meant.{text_of}
use Rattle.kmipa_explain.proofs.ItemLemmas.{AddsUp}
use Rattle.kmipa_explain.proofs.items.add_items.Given as goal

abbrev pub invariant-items : goal.invariant-items
invariant-items l = AddsUp l.turn (step_of l.step) (map seen_item l.initial.items.items ++ items_of_call l.turn (step_of l.step)) l.position (map seen_item l.items.items) (text_of l.held)

abbrev pub decreases-items : goal.decreases-items
decreases-items l = l.count - l.position
