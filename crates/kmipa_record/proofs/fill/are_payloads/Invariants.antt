use Rattle.std.proofs.Common.{map, take}
use Rattle.kmipa_record.specs.Witnesses.{fill_of, ArePayloads}
use Rattle.kmipa_record.proofs.fill.are_payloads.Given as goal

abbrev pub invariant-loop-fill : goal.invariant-loop-fill
invariant-loop-fill l = ArePayloads (map fill_of (take l.fill-index l.fills))
