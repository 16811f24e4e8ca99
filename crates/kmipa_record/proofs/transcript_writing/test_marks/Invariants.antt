use Rattle.std.proofs.Common.{map, take}
use Rattle.kmipa_record.specs.Calls.{Follow}
use Rattle.kmipa_record.specs.Marks.{mark_of, AreRecorded}
use Rattle.kmipa_record.proofs.transcript_writing.test_marks.Given as goal

abbrev pub invariant-loop-mark : goal.invariant-loop-mark
invariant-loop-mark l = AreRecorded (map mark_of (take l.mark-index l.marks)) × Follow (map mark_of (take l.mark-index l.marks)) l.calls
