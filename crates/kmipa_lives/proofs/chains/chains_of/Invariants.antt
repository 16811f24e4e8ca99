use Rattle.kmipa_store.specs.Choices.{IsSound}
use Rattle.kmipa_lives.proofs.chains.chains_of.Given as goal

abbrev pub invariant-chains : goal.invariant-chains
invariant-chains g l = IsSound (g.L.Ledger.state l.ledger).now
