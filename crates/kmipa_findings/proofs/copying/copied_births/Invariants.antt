use Rattle.std.proofs.Common.{◌≡◌, map, take}
use Rattle.kmipa_record.specs.Witnesses.{birth_of}
use Rattle.kmipa_findings.proofs.copying.copied_births.Given as goal

abbrev pub invariant-births : goal.invariant-births
invariant-births l = map birth_of l.copies.items ≡ map birth_of (take l.birth-index l.births)
