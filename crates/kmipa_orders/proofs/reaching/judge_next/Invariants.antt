use Rattle.std.proofs.Common.{◌≡◌, ℕ, ◌+◌, ◌-◌, List, map, length}
use Rattle.kmipa_msgs.specs.Messages.{rules_of}
use Rattle.kmipa_record.specs.Declarations.{DeclarationOf}
use Rattle.kmipa_check.specs.Runs.{rules_declared}
use Rattle.kmipa_check.specs.Verdicts.{AreKnown}
use Rattle.kmipa_orders.specs.Candidates.{candidate_step}
use Rattle.kmipa_orders.specs.Progress.{AreBegun}
use Rattle.kmipa_orders.specs.Taken.{so_far}
use Rattle.kmipa_orders.specs.Reaching.{TellsAhead}
use Rattle.kmipa_orders.specs.Remaining.{AreRemaining}
use Rattle.kmipa_orders.proofs.reaching.judge_next.Given as goal

abbrev pub invariant-calls : goal.invariant-calls
invariant-calls g l = record {
  same : g.L.Ledger.state l.ledger ≡ g.L.Ledger.state l.fn.ledger;
  told : (declared : DeclarationOf) (taken : List ℕ) → rules_of l.rules ≡ rules_declared declared → AreBegun (map candidate_step l.calls) → AreRemaining (map candidate_step l.calls) taken l.remaining
      → AreKnown declared (so_far (map candidate_step l.calls) taken) (g.L.Ledger.state l.fn.ledger).now → l.turn ≡ length taken + 1 → TellsAhead declared (map candidate_step l.calls) taken l.from l.told.items;
}

abbrev pub decreases-calls : goal.decreases-calls
decreases-calls g l = length l.calls - l.from
