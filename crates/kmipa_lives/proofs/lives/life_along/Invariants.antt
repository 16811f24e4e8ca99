use Rattle.kmipa_store.specs.Choices.{IsSound}
use Rattle.kmipa_lives.proofs.lives.life_along.Given as goal

abbrev pub invariant-slots : goal.invariant-slots
invariant-slots g l = IsSound (g.L.Ledger.state l.ledger).now
