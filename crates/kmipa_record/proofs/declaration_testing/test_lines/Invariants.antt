use Rattle.std.proofs.Common.{◌≡◌, take}
use Rattle.kmipa_record.specs.DeclarationWriting.{AreLines}
use Rattle.kmipa_record.proofs.declaration_testing.test_lines.Given as goal

abbrev pub invariant-loop-line : goal.invariant-loop-line
invariant-loop-line l = (l.seen.items ≡ take l.line-index l.lines) × AreLines (take l.line-index l.lines)
