use Rattle.std.proofs.Common.{◌-◌}
use Rattle.kmipa_ttlv.specs.Input.{taken_of, StaysOver}
use Rattle.kmipa_record.specs.Torn.{IsSealedUpTo}
use Rattle.kmipa_record.proofs.torn.end_behind.Given as goal

abbrev pub invariant-records : goal.invariant-records
invariant-records g l = record {
  sealed : IsSealedUpTo l.head l.input;
  over : StaysOver g.R.Read.remaining l.initial.input l.input;
}

abbrev pub decreases-records : goal.decreases-records
decreases-records g l = 0x100_0000_0000 - taken_of l.input
