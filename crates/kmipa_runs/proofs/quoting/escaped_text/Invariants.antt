use Rattle.std.proofs.Common.{◌≡◌, ◌++◌, drop, string_bytes}
use Rattle.std.specs.List.{flat_map}
use Rattle.kmipa_runs.specs.Shown.{escaped}
use Rattle.kmipa_runs.proofs.quoting.escaped_text.Given as goal

-- what is written, and what is still to be written
abbrev pub invariant-bytes : goal.invariant-bytes
invariant-bytes l = string_bytes l.told ++ flat_map escaped (drop l.byte-index l.text) ≡ flat_map escaped l.text
