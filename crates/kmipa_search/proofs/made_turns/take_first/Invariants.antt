use Rattle.std.proofs.Common.{◌≡◌}
use Rattle.kmipa_store.specs.Choices.{IsSound}
use Rattle.kmipa_search.proofs.made_turns.take_first.Given as goal

abbrev pub invariant-tries : goal.invariant-tries
invariant-tries g l = IsSound (g.L.Ledger.state l.ledger).now × ((g.L.Ledger.state l.ledger).marks ≡ (g.L.Ledger.state l.fn.ledger).marks)
