use Rattle.std.proofs.Common.{◌-◌, ◌≤◌, length}
use Rattle.kmipa_msgs.specs.Messages.{rules_of}
use Rattle.kmipa_ops.specs.Placeholders.{placeholder_of}
use Rattle.kmipa_batch.specs.Calls.{pairs_of}
use Rattle.kmipa_batch.proofs.RunLemmas.{Along}
use Rattle.kmipa_check.specs.Steps.{order_of, step_of}
use Rattle.kmipa_explain.specs.Items.{places_taken}
use Rattle.kmipa_explain.proofs.standing.take_ahead.Given as goal

abbrev pub invariant-items : goal.invariant-items
invariant-items g l = record {
  along : Along (rules_of l.rules) (step_of l.step).response.stamp (g.L.Ledger.state l.fn.ledger) (pairs_of (step_of l.step).request (step_of l.step).response)
      (places_taken (order_of (step_of l.step)) (length (step_of l.step).request.items)) l.position (g.L.Ledger.state l.ledger) (placeholder_of l.placeholder);
  within : l.position ≤ l.count;
}

abbrev pub decreases-items : goal.decreases-items
decreases-items g l = l.count - l.position
