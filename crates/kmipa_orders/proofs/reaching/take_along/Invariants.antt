use Rattle.std.proofs.Common.{◌≡◌, [], map}
use Rattle.kmipa_store.specs.Choices.{IsSound}
use Rattle.kmipa_msgs.specs.Messages.{rules_of}
use Rattle.kmipa_record.specs.Declarations.{DeclarationOf}
use Rattle.kmipa_check.specs.Runs.{rules_declared}
use Rattle.kmipa_check.specs.Verdicts.{AreKnown}
use Rattle.kmipa_orders.specs.Candidates.{candidate_step}
use Rattle.kmipa_orders.specs.Progress.{AreBegun}
use Rattle.kmipa_orders.specs.Reaching.{AreTaken}
use Rattle.kmipa_orders.specs.Remaining.{AreRemaining}
use Rattle.kmipa_orders.proofs.reaching.take_along.Given as goal

abbrev pub invariant-order : goal.invariant-order
invariant-order g l = record {
  sound : IsSound (g.L.Ledger.state l.ledger).now;
  taken : (declared : DeclarationOf) → rules_of l.rules ≡ rules_declared declared → AreBegun (map candidate_step l.calls) → AreKnown declared [] (g.L.Ledger.state l.fn.ledger).now
      → AreRemaining (map candidate_step l.calls) [] l.fn.remaining → AreTaken declared (map candidate_step l.calls) l.remaining (g.L.Ledger.state l.ledger).now l.taken.items;
}
