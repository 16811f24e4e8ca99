use Rattle.std.proofs.Common.{◌-◌, List, length}
use Rattle.kmipa_record.specs.declared.turn.Turn.{Turn}
use Rattle.kmipa_stream.specs.Standing.{NoneUnnamed}
use Rattle.kmipa_stream.specs.Waiting.{AreNamedAt}
use Rattle.kmipa_stream.proofs.auditor.Auditor.left_out.Given as goal

abbrev pub invariant-calls : goal.invariant-calls
invariant-calls l = (turns : List Turn) → AreNamedAt turns l.self.replay.named → NoneUnnamed turns l.calls l.place

abbrev pub decreases-calls : goal.decreases-calls
decreases-calls l = length l.calls - l.place
