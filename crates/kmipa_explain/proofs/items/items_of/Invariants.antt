use Rattle.std.proofs.Common.{◌-◌, length, map}
use Rattle.kmipa_check.specs.Steps.{step_of}
use Rattle.kmipa_explain.specs.Reading.{seen_item}
use Rattle.kmipa_explain.proofs.ItemLemmas.{AreUpTo}
use Rattle.kmipa_explain.proofs.items.items_of.Given as goal

abbrev pub invariant-steps : goal.invariant-steps
invariant-steps l = AreUpTo (map step_of l.steps) l.at (map seen_item l.items.items)

abbrev pub decreases-steps : goal.decreases-steps
decreases-steps l = length l.steps - l.at
