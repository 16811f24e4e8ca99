use Rattle.std.proofs.Common.{◌≡◌, ◌++◌, drop, string_bytes}
use Rattle.std.specs.List.{flat_map}
use Rattle.kmipa_judge.specs.Unjudged.{passed_line}
use Rattle.kmipa_judge.proofs.unjudged_lines.each_passed.Given as goal

-- what is written, and what is still to be written
abbrev pub invariant-ranks : goal.invariant-ranks
invariant-ranks l = string_bytes l.text ++ flat_map passed_line (drop l.rank-index l.ranks) ≡ flat_map passed_line l.ranks
