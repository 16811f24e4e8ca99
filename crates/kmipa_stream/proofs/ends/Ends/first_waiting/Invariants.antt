use Rattle.std.proofs.Common.{◌≤◌, ◌-◌, ℕ, List, length}
use Rattle.kmipa_record.specs.Marks.{MarkOf}
use Rattle.kmipa_record.specs.declared.turn.Turn.{Turn}
use Rattle.kmipa_stream.specs.Waiting.{AreNamedAt, Wait}
use Rattle.kmipa_stream.proofs.ends.Ends.first_waiting.Given as goal

abbrev pub invariant-passed : goal.invariant-passed
invariant-passed l =
    (marks : List MarkOf) (turns : List Turn) (before : ℕ) → AreNamedAt turns l.named → before ≤ l.count → Wait marks turns before l.fn.self → Wait marks turns l.count l.self

abbrev pub decreases-passed : goal.decreases-passed
decreases-passed l = length l.self.seen.items - l.self.passed
