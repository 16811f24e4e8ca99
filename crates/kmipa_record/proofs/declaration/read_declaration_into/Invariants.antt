use Rattle.std.proofs.Common.{◌≡◌, ◌-◌, false}
use Rattle.kmipa_ttlv.specs.Input.{came_of, taken_of, is_failed, StaysOver}
use Rattle.kmipa_record.specs.DeclarationReading.{HasRead}
use Rattle.kmipa_record.proofs.declaration.read_declaration_into.Given as goal

abbrev pub invariant-records : goal.invariant-records
invariant-records g l =
    HasRead l.reach l.header g.T.TakesRecords.holds (came_of l.input) l.taker × (is_failed l.input ≡ false) × StaysOver g.R.Read.remaining l.fn.input l.input

abbrev pub decreases-records : goal.decreases-records
decreases-records g l = 0x100_0000_0000 - taken_of l.input
