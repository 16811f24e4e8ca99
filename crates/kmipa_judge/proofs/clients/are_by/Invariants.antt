use Rattle.std.proofs.Common.{All, map, take}
use Rattle.kmipa_record.specs.Marks.{mark_of}
use Rattle.kmipa_judge.specs.Clients.{IsBy}
use Rattle.kmipa_judge.proofs.clients.are_by.Given as goal

abbrev pub invariant-marks : goal.invariant-marks
invariant-marks l = All (IsBy l.id) (map mark_of (take l.mark-index l.marks))
