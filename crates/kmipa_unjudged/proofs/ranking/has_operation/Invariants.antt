use Rattle.std.proofs.Common.{◌≡◌, drop}
use Rattle.kmipa_unjudged.specs.Ranking.{has_operation}
use Rattle.kmipa_unjudged.proofs.ranking.has_operation.Given as goal

-- it is among those that are left, if it is at all
abbrev pub invariant-found : goal.invariant-found
invariant-found l = has_operation (drop l.rank-index l.found) l.number ≡ has_operation l.found l.number
