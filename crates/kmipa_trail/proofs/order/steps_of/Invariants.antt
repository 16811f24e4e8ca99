use Rattle.std.proofs.Common.{◌-◌, length, map}
use Rattle.kmipa_record.specs.Witnesses.{turn_of}
use Rattle.kmipa_turns.specs.Recorded.{recorded_of}
use Rattle.kmipa_turns.specs.Steps.{step_of}
use Rattle.kmipa_check.specs.Grants.{grants_of}
use Rattle.kmipa_trail.specs.Ordering.{AreFormed}
use Rattle.kmipa_trail.proofs.order.steps_of.Given as goal

abbrev pub invariant-turns : goal.invariant-turns
invariant-turns l = AreFormed (grants_of l.grants) (map recorded_of l.calls) (map turn_of l.turns) l.place (map step_of l.steps.items)

abbrev pub decreases-turns : goal.decreases-turns
decreases-turns l = length l.turns - l.place
