use Rattle.kmipa_store.specs.Choices.{IsSound}
use Rattle.kmipa_findings.proofs.setting.take_partly.Given as goal

abbrev pub invariant-asides : goal.invariant-asides
invariant-asides g l = IsSound (g.L.Ledger.state l.ledger).now
