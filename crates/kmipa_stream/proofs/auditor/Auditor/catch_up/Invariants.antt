use Rattle.std.proofs.Common.{◌-◌, List, length}
use Rattle.kmipa_record.specs.Declarations.{DeclarationOf}
use Rattle.kmipa_record.specs.Marks.{MarkOf}
use Rattle.kmipa_record.specs.declared.turn.Turn.{Turn}
use Rattle.kmipa_stream.specs.Standing.{Standing, Stands}
use Rattle.kmipa_stream.proofs.auditor.Auditor.catch_up.Given as goal

abbrev pub invariant-turns : goal.invariant-turns
invariant-turns l = record {
  known : Standing l.closed l.self;
  stands : (marks : List MarkOf) (turns : List Turn) (declared : DeclarationOf) → Stands l.closed marks turns declared l.fn.self → Stands l.closed marks turns declared l.self;
}

abbrev pub decreases-turns : goal.decreases-turns
decreases-turns l = length l.self.replay.turns.now - l.self.replay.formed
