use Rattle.std.proofs.Common.{◌≡◌, find, drop}
use Rattle.kmipa_object.specs.Allowances.{is_line_of}
use Rattle.kmipa_object.proofs.allow.line_of.Given as goal

abbrev pub invariant-loop-line : goal.invariant-loop-line
invariant-loop-line l = find (is_line_of l.act l.state) l.lines ≡ find (is_line_of l.act l.state) (drop l.line-index l.lines)
