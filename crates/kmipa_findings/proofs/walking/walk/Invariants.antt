use Rattle.std.proofs.Common.{◌≡◌}
use Rattle.kmipa_findings.specs.Walking.{IsWalked}
use Rattle.kmipa_findings.proofs.walking.walk.Given as goal

abbrev pub invariant-tries : goal.invariant-tries
invariant-tries g l = record {
  walked : IsWalked l.stretch (g.L.Ledger.state l.ledger);
  paced : g.P.Pace.seconds l.pace ≡ g.P.Pace.seconds l.fn.pace;
}
