use Rattle.std.proofs.Common.{◌-◌, ◌==◌, ℕ, length}
use Rattle.kmipa_check.specs.Steps.{order_of, step_of}
use Rattle.kmipa_explain.specs.Items.{places_taken}
use Rattle.kmipa_explain.proofs.KeptLemmas.{NoneBelow}
use Rattle.kmipa_explain.proofs.standing.position_of.Given as goal

abbrev pub invariant-places : goal.invariant-places
invariant-places l = NoneBelow (λ (x : ℕ). x == l.place) (places_taken (order_of (step_of l.step)) (length (step_of l.step).request.items)) l.position

abbrev pub decreases-places : goal.decreases-places
decreases-places l = l.count - l.position
