use Rattle.kmipa_store.specs.Choices.{IsSound}
use Rattle.kmipa_lives.proofs.chains.longer_ones.Given as goal

abbrev pub invariant-groups : goal.invariant-groups
invariant-groups g l = IsSound (g.L.Ledger.state l.ledger).now
