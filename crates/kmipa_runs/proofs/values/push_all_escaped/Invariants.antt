use Rattle.std.proofs.Common.{◌≡◌, ◌++◌, drop}
use Rattle.std.specs.List.{flat_map}
use Rattle.kmipa_runs.specs.Shown.{escaped}
use Rattle.kmipa_runs.proofs.values.push_all_escaped.Given as goal

-- what is printed, and what is still to be printed
abbrev pub invariant-loop-byte : goal.invariant-loop-byte
invariant-loop-byte g l =
    g.P.Printer.printed l.out ++ flat_map escaped (drop l.byte-index l.text) ≡ g.P.Printer.printed l.initial.out ++ flat_map escaped l.text
