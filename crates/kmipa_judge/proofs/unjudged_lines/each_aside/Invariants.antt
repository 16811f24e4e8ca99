use Rattle.std.proofs.Common.{◌≡◌, ◌++◌, map, drop, string_bytes}
use Rattle.std.specs.List.{flat_map}
use Rattle.kmipa_unjudged.specs.Told.{named_of}
use Rattle.kmipa_judge.specs.Unjudged.{aside_line}
use Rattle.kmipa_judge.proofs.unjudged_lines.each_aside.Given as goal

-- what is written, and what is still to be written
abbrev pub invariant-told : goal.invariant-told
invariant-told l = string_bytes l.text ++ flat_map aside_line (map named_of (drop l.named-index l.told)) ≡ flat_map aside_line (map named_of l.told)
