use Rattle.std.proofs.Common.{◌-◌}
use Rattle.kmipa_turns.proofs.AsideLemmas.{NoneBefore}
use Rattle.kmipa_turns.proofs.asides.stands_before.Given as goal

abbrev pub invariant-earlier : goal.invariant-earlier
invariant-earlier l = NoneBefore l.asides l.at l.earlier

abbrev pub decreases-earlier : goal.decreases-earlier
decreases-earlier l = l.at - l.earlier
