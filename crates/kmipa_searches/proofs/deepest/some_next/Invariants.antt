use Rattle.std.proofs.Common.{◌≡◌, string_bytes, take}
use Rattle.std.specs.List.{flat_map}
use Rattle.kmipa_searches.specs.Deepest.{next_line}
use Rattle.kmipa_searches.proofs.deepest.some_next.Given as goal

-- what is written tells the calls up to here
abbrev pub invariant-next : goal.invariant-next
invariant-next l = string_bytes l.text ≡ flat_map next_line (take l.call-index l.next)
