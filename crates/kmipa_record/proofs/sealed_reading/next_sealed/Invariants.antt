use Rattle.std.proofs.Common.{◌-◌, ◌≤◌, List}
use Rattle.std.specs.Io.{StartsWith}
use Rattle.kmipa_ttlv.specs.Input.{came_of, taken_of, StaysOver}
use Rattle.kmipa_record.specs.Marks.{MarkOf}
use Rattle.kmipa_record.specs.MarkReading.{IsRun}
use Rattle.std.specs.Prelude.{vec_len}
use Rattle.kmipa_record.proofs.sealed_reading.next_sealed.Given as goal

abbrev pub invariant-records : goal.invariant-records
invariant-records g l = record {
  run : (marks : List MarkOf) → IsRun l.initial.head marks l.initial.input → IsRun l.head marks l.input;
  bounded : vec_len l.bytes ≤ 0x10_0000;
  further : taken_of l.initial.input ≤ taken_of l.input;
  grows : StartsWith (came_of l.input) (came_of l.initial.input);
  over : StaysOver g.R.Read.remaining l.initial.input l.input;
}

abbrev pub decreases-records : goal.decreases-records
decreases-records g l = 0x100_0000_0000 - taken_of l.input
