use Rattle.std.proofs.Common.{map, take}
use Rattle.kmipa_check.specs.Calls.{call_of}
use Rattle.kmipa_searches.specs.Deciding.{AreUnplain}
use Rattle.kmipa_searches.proofs.deciding.unplain.Given as goal

abbrev pub invariant-calls : goal.invariant-calls
invariant-calls l = AreUnplain (map call_of (take l.call-index l.calls)) l.numbers.items
