use Rattle.std.proofs.Common.{◌≡◌, take, string_bytes}
use Rattle.std.specs.List.{flat_map}
use Rattle.kmipa_telling.specs.UnfitLines.{asked_line}
use Rattle.kmipa_telling.proofs.unfit_lines.first_lines.Given as goal

-- the operations up to here are written
abbrev pub invariant-operations : goal.invariant-operations
invariant-operations l = string_bytes l.text ≡ flat_map asked_line (take l.operation-index l.operations)
