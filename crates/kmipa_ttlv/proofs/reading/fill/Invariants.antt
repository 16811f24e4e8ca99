use Rattle.std.proofs.Common.{◌≡◌, ◌-◌, ◌≤◌, ◌<◌, ◌++◌, length, take, false, IsTrue}
use Rattle.kmipa_ttlv.specs.Input.{came_of, is_failed, StaysOver}
use Rattle.kmipa_ttlv.proofs.reading.fill.Given as goal

-- the front of the buffer is what came
abbrev pub invariant-reads : goal.invariant-reads
invariant-reads g l =
    (l.got ≤ length l.buf)
    × (length l.buf ≡ length l.initial.buf)
    × (0 < l.got → is_failed l.initial.input ≡ false)
    × (IsTrue (is_failed l.initial.input) → IsTrue (is_failed l.input))
    × (0 < l.got → is_failed l.input ≡ false)
    × (came_of l.input ≡ came_of l.initial.input ++ take l.got l.buf)
    × StaysOver g.R.Read.remaining l.initial.input l.input

abbrev pub decreases-reads : goal.decreases-reads
decreases-reads g l = length l.buf - l.got
