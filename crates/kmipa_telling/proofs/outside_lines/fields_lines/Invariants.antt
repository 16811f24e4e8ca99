use Rattle.std.proofs.Common.{◌≡◌, ◌++◌, drop, string_bytes}
use Rattle.std.specs.List.{flat_map}
use Rattle.kmipa_telling.specs.OutsideLines.{field_lines}
use Rattle.kmipa_telling.proofs.outside_lines.fields_lines.Given as goal

-- what is written, and what is still to be written
abbrev pub invariant-fields : goal.invariant-fields
invariant-fields l = string_bytes l.text ++ flat_map field_lines (drop l.field-index l.fields) ≡ flat_map field_lines l.fields
