use Rattle.std.proofs.Common.{◌≡◌, take}
use Rattle.std.specs.List.{flat_map}
use Rattle.kmipa_runs.specs.Shown.{escaped}
use Rattle.kmipa_runs.proofs.values.are_plain.Given as goal

-- so far each byte stands for itself
abbrev pub invariant-loop-byte : goal.invariant-loop-byte
invariant-loop-byte l = flat_map escaped (take l.byte-index l.text) ≡ take l.byte-index l.text
