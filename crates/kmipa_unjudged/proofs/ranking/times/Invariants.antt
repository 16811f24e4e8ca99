use Rattle.std.proofs.Common.{◌≡◌, ◌≤◌, ◌+◌, drop}
use Rattle.kmipa_unjudged.specs.Ranking.{times}
use Rattle.kmipa_unjudged.proofs.ranking.times.Given as goal

-- so often so far, and so often among those that are left
abbrev pub invariant-numbers : goal.invariant-numbers
invariant-numbers l = record {
  sum : l.count + times l.number (drop l.other-index l.numbers) ≡ times l.number l.numbers;
  most : l.count ≤ l.other-index;
}
