use Rattle.std.proofs.Common.{◌-◌, length}
use Rattle.kmipa_judge.proofs.IndentLemmas.{IsIndented}
use Rattle.kmipa_judge.proofs.indenting.bytes_indented.Given as goal

abbrev pub invariant-bytes : goal.invariant-bytes
invariant-bytes l = IsIndented l.text l.place l.begins l.more.items

abbrev pub decreases-bytes : goal.decreases-bytes
decreases-bytes l = length l.text - l.place
