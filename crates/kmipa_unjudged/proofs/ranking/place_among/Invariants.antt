use Rattle.std.proofs.Common.{◌≡◌, ◌≤◌, ◌++◌, ◌-◌, drop, length, take}
use Rattle.kmipa_unjudged.specs.Ranking.{put}
use Rattle.kmipa_unjudged.proofs.ranking.place_among.Given as goal

-- it stands behind those so far
abbrev pub invariant-found : goal.invariant-found
invariant-found l = record {
  within : l.place ≤ length l.found;
  behind : put l.rank l.found ≡ take l.place l.found ++ put l.rank (drop l.place l.found);
}

abbrev pub decreases-found : goal.decreases-found
decreases-found l = length l.found - l.place
