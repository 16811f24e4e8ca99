use Rattle.kmipa_store.specs.Choices.{IsSound}
use Rattle.kmipa_findings.proofs.setting.set_aside.Given as goal

abbrev pub invariant-places : goal.invariant-places
invariant-places g l = IsSound (g.L.Ledger.state l.ledger).now
