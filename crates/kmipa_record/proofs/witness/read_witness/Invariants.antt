use Rattle.std.proofs.Common.{◌≡◌, ◌-◌, ◌++◌, List, ℕ, map, false}
use Rattle.kmipa_ttlv.specs.Input.{came_of, taken_of, is_failed, StaysOver}
use Rattle.kmipa_record.specs.Witnesses.{turn_of}
use Rattle.kmipa_record.specs.WitnessReading.{IsReadSoFar}
use Rattle.kmipa_record.proofs.witness.read_witness.Given as goal

-- of each file that begins with what came these turns were read
abbrev pub invariant-turns : goal.invariant-turns
invariant-turns g l = (
    (after : List ℕ) → IsReadSoFar (came_of l.input ++ after) l.header.version (map turn_of l.turns.items) after (taken_of l.input)
    )
    × (is_failed l.input ≡ false)
    × StaysOver g.R.Read.remaining l.fn.input l.input

abbrev pub decreases-turns : goal.decreases-turns
decreases-turns g l = 0x100_0000_0000 - taken_of l.input
