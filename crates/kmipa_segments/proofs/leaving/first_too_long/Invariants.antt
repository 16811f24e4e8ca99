use Rattle.std.proofs.Common.{◌≤◌, ◌-◌, length, map}
use Rattle.kmipa_record.specs.Entries.{entry_of}
use Rattle.kmipa_segments.specs.Leaving.{NoneTooLongBefore}
use Rattle.kmipa_segments.proofs.leaving.first_too_long.Given as goal

abbrev pub decreases-entries : goal.decreases-entries
decreases-entries l = length l.entries - l.place

-- none of the entries up to here is too long
abbrev pub invariant-entries : goal.invariant-entries
invariant-entries l = NoneTooLongBefore (map entry_of l.entries) l.place
