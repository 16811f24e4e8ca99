use Rattle.kmipa_orders.specs.Guessing.{AreReadableOnes}
use Rattle.kmipa_orders.proofs.plain.plain_ones.Given as goal

abbrev pub invariant-calls : goal.invariant-calls
invariant-calls l = AreReadableOnes l.plain.items
