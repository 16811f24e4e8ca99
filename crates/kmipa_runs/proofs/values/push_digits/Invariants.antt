use Rattle.std.proofs.Common.{◌≡◌, ◌++◌, length}
use Rattle.hex.specs.Hex.{encode_with}
use Rattle.kmipa_runs.proofs.values.push_digits.Given as goal

-- what is printed, and what is still to be printed
abbrev pub invariant-digits : goal.invariant-digits
invariant-digits g l = g.P.Printer.printed l.out ++ encode_with l.table l.left ≡ g.P.Printer.printed l.initial.out ++ encode_with l.table l.bytes

abbrev pub decreases-digits : goal.decreases-digits
decreases-digits g l = length l.left
