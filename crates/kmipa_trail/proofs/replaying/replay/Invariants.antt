use Rattle.std.proofs.Common.{◌≡◌, ◌-◌, [], drop, length, map}
use Rattle.kmipa_store.specs.Choices.{IsSound}
use Rattle.kmipa_record.specs.Declarations.{DeclarationOf}
use Rattle.kmipa_msgs.specs.Messages.{rules_of}
use Rattle.kmipa_aside.specs.Sights.{owned_of}
use Rattle.kmipa_check.specs.Runs.{rules_declared}
use Rattle.kmipa_turns.specs.Steps.{step_of}
use Rattle.kmipa_trail.specs.Leading.{AreKnown}
use Rattle.kmipa_trail.specs.Owners.{steps_seen}
use Rattle.kmipa_trail.specs.Replays.{Replayed}
use Rattle.kmipa_trail.specs.Summing.{IsWithin}
use Rattle.kmipa_trail.specs.Told.{tally_of}
use Rattle.kmipa_trail.proofs.replaying.replay.Given as goal

abbrev pub invariant-turns : goal.invariant-turns
invariant-turns g l = record {
  replayed : (declared : DeclarationOf) → rules_of l.rules ≡ rules_declared declared → AreKnown declared [] (g.L.Ledger.state l.fn.ledger).now
      → Replayed declared (steps_seen l.rules.visibility (map owned_of l.fn.owners.items) (map step_of l.steps)) l.turn (g.L.Ledger.state l.ledger).now l.last (tally_of l.tally);
  left : drop l.turn (steps_seen l.rules.visibility (map owned_of l.fn.owners.items) (map step_of l.steps))
      ≡ steps_seen l.rules.visibility (map owned_of l.owners.items) (drop l.turn (map step_of l.steps));
  sound : IsSound (g.L.Ledger.state l.ledger).now;
  within : IsWithin l.turn (tally_of l.tally);
}

abbrev pub decreases-turns : goal.decreases-turns
decreases-turns g l = length l.steps - l.turn
