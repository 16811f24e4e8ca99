use Rattle.kmipa_store.specs.Choices.{IsSound}
use Rattle.kmipa_findings.proofs.along.follow.Given as goal

abbrev pub invariant-turns : goal.invariant-turns
invariant-turns g l = IsSound (g.L.Ledger.state l.ledger).now
