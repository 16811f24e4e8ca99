use Rattle.std.proofs.Common.{◌≡◌, map, take}
use Rattle.kmipa_record.specs.Witnesses.{turn_of}
use Rattle.kmipa_findings.proofs.copying.copied_turns.Given as goal

abbrev pub invariant-turns : goal.invariant-turns
invariant-turns l = map turn_of l.copies.items ≡ map turn_of (take l.turn-index l.turns)
