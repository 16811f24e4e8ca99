use Rattle.std.proofs.Common.{◌≡◌, ◌+◌, ◌-◌, ◌≤◌, ◌<◌, ◌++◌}
use Rattle.std.specs.Io.{StartsWith, appended_bytes}
use Rattle.kmipa_ttlv.specs.Input.{came_of, taken_of}
use Rattle.kmipa_ttlv.specs.declared.input.TheConstants.{LIMIT}
use Rattle.kmipa_runs.proofs.text.read_text.Given as goal

abbrev pub invariant-pieces : goal.invariant-pieces
invariant-pieces g l =
    StartsWith l.out.items l.initial.out.items
    × (came_of l.input ≡ came_of l.initial.input ++ appended_bytes l.initial.out.items l.out.items)

abbrev pub decreases-pieces : goal.decreases-pieces
decreases-pieces g l = LIMIT - taken_of l.input
