use Rattle.std.proofs.Common.{◌<◌, ◌-◌, length, map}
use Rattle.kmipa_orders.specs.Candidates.{candidate_step}
use Rattle.kmipa_orders.proofs.FarLemmas.{ApartUpTo}
use Rattle.kmipa_orders.proofs.forced.is_far.Given as goal

abbrev pub invariant-later : goal.invariant-later
invariant-later l = record {
  behind : l.first < l.second;
  apart : ApartUpTo l.tolerance (map candidate_step l.calls) l.first l.second;
}

abbrev pub decreases-later : goal.decreases-later
decreases-later l = length l.calls - l.second
