use Rattle.std.proofs.Common.{◌≡◌}
use Rattle.kmipa_store.specs.Choices.{IsSound}
use Rattle.kmipa_search.proofs.open_answers.sights_of.Given as goal

abbrev pub invariant-items : goal.invariant-items
invariant-items g l = IsSound (g.L.Ledger.state l.ledger).now × ((g.L.Ledger.state l.ledger).marks ≡ (g.L.Ledger.state l.fn.ledger).marks)
