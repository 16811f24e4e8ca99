use Rattle.std.proofs.Common.{◌≡◌}
use Rattle.kmipa_store.specs.Choices.{IsSound}
use Rattle.kmipa_findings.proofs.proposing.search.Given as goal

abbrev pub invariant-rounds : goal.invariant-rounds
invariant-rounds g l = record {
  sound : IsSound (g.L.Ledger.state l.ledger).now;
  paced : g.P.Pace.seconds l.pace ≡ g.P.Pace.seconds l.fn.pace;
}
