use Rattle.std.proofs.Common.{◌≡◌, ◌-◌, [], drop, length, map, take}
use Rattle.kmipa_store.specs.Choices.{IsSound}
use Rattle.kmipa_record.specs.Declarations.{DeclarationOf}
use Rattle.kmipa_msgs.specs.Messages.{rules_of}
use Rattle.kmipa_aside.specs.Sights.{owned_of}
use Rattle.kmipa_check.specs.Runs.{rules_declared}
use Rattle.kmipa_turns.specs.Steps.{step_of}
use Rattle.kmipa_trail.specs.Leading.{AreKnown}
use Rattle.kmipa_trail.specs.Owners.{steps_seen}
use Rattle.kmipa_unjudged.specs.Following.{AreToldAfter}
use Rattle.kmipa_unjudged.specs.Known.{AreIds}
use Rattle.kmipa_unjudged.specs.Told.{named_of}
use Rattle.kmipa_unjudged.proofs.following.follow.Given as goal

abbrev pub invariant-turns : goal.invariant-turns
invariant-turns g l = record {
  told : (declared : DeclarationOf) → rules_of l.rules ≡ rules_declared declared → AreKnown declared [] (g.L.Ledger.state l.fn.ledger).now
      → AreToldAfter declared (take l.turn (steps_seen l.rules.visibility (map owned_of l.fn.owners.items) (map step_of l.steps))) (g.L.Ledger.state l.ledger).now
      (map named_of l.told.list.items);
  left : drop l.turn (steps_seen l.rules.visibility (map owned_of l.fn.owners.items) (map step_of l.steps))
      ≡ steps_seen l.rules.visibility (map owned_of l.owners.items) (drop l.turn (map step_of l.steps));
  sound : IsSound (g.L.Ledger.state l.ledger).now;
  ids : AreIds (map named_of l.told.list.items) l.told.ids;
}

abbrev pub decreases-turns : goal.decreases-turns
decreases-turns g l = length l.steps - l.turn
