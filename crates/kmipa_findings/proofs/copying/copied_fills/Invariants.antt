use Rattle.std.proofs.Common.{◌≡◌, map, take}
use Rattle.kmipa_record.specs.Witnesses.{fill_of}
use Rattle.kmipa_findings.proofs.copying.copied_fills.Given as goal

abbrev pub invariant-fills : goal.invariant-fills
invariant-fills l = map fill_of l.copies.items ≡ map fill_of (take l.fill-index l.fills)
