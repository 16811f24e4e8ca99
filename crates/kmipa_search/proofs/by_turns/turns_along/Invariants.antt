use Rattle.kmipa_store.specs.Choices.{IsSound}
use Rattle.kmipa_search.proofs.by_turns.turns_along.Given as goal

abbrev pub invariant-order : goal.invariant-order
invariant-order g l = IsSound (g.L.Ledger.state l.ledger).now
