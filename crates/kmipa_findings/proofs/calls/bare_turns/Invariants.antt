use Rattle.std.proofs.Common.{◌≡◌, map, take}
use Rattle.kmipa_record.specs.Witnesses.{turn_of}
use Rattle.kmipa_turns.specs.Recorded.{recorded_of}
use Rattle.kmipa_findings.specs.Choices.{bare_of}
use Rattle.kmipa_findings.proofs.calls.bare_turns.Given as goal

abbrev pub invariant-calls : goal.invariant-calls
invariant-calls l = map turn_of l.turns.items ≡ map bare_of (map recorded_of (take l.call-index l.calls))
