use Rattle.std.proofs.Common.{◌≡◌, drop}
use Rattle.kmipa_unjudged.specs.Ranking.{ranks, ranks_from}
use Rattle.kmipa_unjudged.proofs.ranking.ranks_of.Given as goal

-- those so far, with the numbers that are left, come to all
abbrev pub invariant-numbers : goal.invariant-numbers
invariant-numbers l = ranks_from l.numbers l.found.items (drop l.number-index l.numbers) ≡ ranks l.numbers
