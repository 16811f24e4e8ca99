use Rattle.std.proofs.Common.{◌≡◌, ◌++◌, drop, string_bytes}
use Rattle.std.specs.List.{flat_map}
use Rattle.kmipa_judge.specs.Rules.{explained_line}
use Rattle.kmipa_judge.proofs.rule_lines.explained_lines.Given as goal

-- what is written, and what is still to be written
abbrev pub invariant-rules : goal.invariant-rules
invariant-rules l = string_bytes l.text ++ flat_map explained_line (drop l.rule-index l.rules) ≡ flat_map explained_line l.rules
