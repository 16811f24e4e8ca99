use Rattle.std.proofs.Common.{◌≡◌, ◌++◌, drop, string_bytes}
use Rattle.std.specs.List.{flat_map}
use Rattle.kmipa_telling.specs.FailingCauses.{behind_line}
use Rattle.kmipa_telling.proofs.failing_causes.behind_lines.Given as goal

-- what is written, and what is still to be written
abbrev pub invariant-causes : goal.invariant-causes
invariant-causes l = string_bytes l.text ++ flat_map behind_line (drop l.cause-index l.causes) ≡ flat_map behind_line l.causes
