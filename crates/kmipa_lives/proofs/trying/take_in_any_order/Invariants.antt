use Rattle.std.proofs.Common.{◌≡◌}
use Rattle.kmipa_store.specs.Choices.{IsSound}
use Rattle.kmipa_lives.proofs.trying.take_in_any_order.Given as goal

abbrev pub invariant-rounds : goal.invariant-rounds
invariant-rounds g l = IsSound (g.L.Ledger.state l.ledger).now × ((g.L.Ledger.state l.ledger).marks ≡ (g.L.Ledger.state l.fn.ledger).marks)
