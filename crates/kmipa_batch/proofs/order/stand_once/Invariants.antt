use Rattle.kmipa_batch.proofs.StandingLemmas.{Seen}
use Rattle.kmipa_batch.proofs.order.stand_once.Given as goal

abbrev pub invariant-loop-position : goal.invariant-loop-position
invariant-loop-position l = Seen l.places l.count l.position l.seen.items
