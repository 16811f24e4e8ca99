use Rattle.std.proofs.Common.{◌≡◌}
use Rattle.kmipa_store.specs.Choices.{IsSound}
use Rattle.kmipa_lives.proofs.proposing.choices_of.Given as goal

abbrev pub invariant-objects : goal.invariant-objects
invariant-objects g l = IsSound (g.L.Ledger.state l.ledger).now
