use Rattle.std.proofs.Common.{take}
use Rattle.kmipa_record.specs.Declarations.{IsNewCell}
use Rattle.kmipa_record.proofs.allow_line.is_new_cell.Given as goal

abbrev pub invariant-loop-other : goal.invariant-loop-other
invariant-loop-other l = IsNewCell (take l.other-index l.lines) l.line
