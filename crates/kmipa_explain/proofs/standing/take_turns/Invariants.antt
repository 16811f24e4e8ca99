use Rattle.std.proofs.Common.{◌≡◌, ◌-◌, ◌≤◌, [], map, take}
use Rattle.kmipa_store.specs.Choices.{IsSound}
use Rattle.kmipa_msgs.specs.Messages.{rules_of}
use Rattle.kmipa_record.specs.Declarations.{DeclarationOf}
use Rattle.kmipa_check.specs.Runs.{rules_declared}
use Rattle.kmipa_check.specs.Steps.{step_of}
use Rattle.kmipa_check.specs.Verdicts.{AreKnown}
use Rattle.kmipa_explain.proofs.standing.take_turns.Given as goal

abbrev pub invariant-turns : goal.invariant-turns
invariant-turns g l = record {
  known : (declared : DeclarationOf) → rules_of l.rules ≡ rules_declared declared → AreKnown declared [] (g.L.Ledger.state l.fn.ledger).now
      → AreKnown declared (take l.turn (map step_of l.steps)) (g.L.Ledger.state l.ledger).now;
  sound : IsSound (g.L.Ledger.state l.ledger).now;
  within : l.turn ≤ l.count;
}

abbrev pub decreases-turns : goal.decreases-turns
decreases-turns g l = l.count - l.turn
