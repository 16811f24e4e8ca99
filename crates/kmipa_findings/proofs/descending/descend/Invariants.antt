use Rattle.std.proofs.Common.{◌≡◌, ◌≤◌, [], List}
use Rattle.kmipa_msgs.specs.Messages.{rules_of}
use Rattle.kmipa_record.specs.Declarations.{DeclarationOf}
use Rattle.kmipa_record.specs.Marks.{MarkOf}
use Rattle.kmipa_check.specs.Runs.{rules_declared}
use Rattle.kmipa_trail.specs.Leading.{AreKnown}
use Rattle.kmipa_findings.specs.Descending.{IsDescended}
use Rattle.kmipa_findings.specs.Exhausting.{IsSure, Stands}
use Rattle.kmipa_findings.proofs.descending.descend.Given as goal

abbrev pub invariant-tries : goal.invariant-tries
invariant-tries g l = record {
  descended : IsDescended l.descent (g.L.Ledger.state l.ledger);
  within : l.steps ≤ l.search.budget;
  paced : g.P.Pace.seconds l.pace ≡ g.P.Pace.seconds l.fn.pace;
  stands : (marks : List MarkOf) (declared : DeclarationOf) → IsSure marks declared l.search.trials.now → rules_of l.search.rules.now ≡ rules_declared declared
      → AreKnown declared [] (g.L.Ledger.state l.fn.ledger).now → Stands marks declared l.search.trials.now l.descent (g.L.Ledger.state l.ledger);
}
