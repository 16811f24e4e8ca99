-- How large the numbers of a tally may be. Not promised.
use Rattle.std.specs.Prelude.{◌≤◌, ◌*◌, ℕ}
use Rattle.kmipa_trail.specs.Tallies.{TallyOf}

-- each number is at most that of so many calls, each of which counts as many items as it can
pub record IsWithin (calls : ℕ) (k : TallyOf) : Type 0 where
  pub request : k.counts.request ≤ calls * 18446744073709551615
  pub answer : k.counts.answer ≤ calls * 18446744073709551615
  pub witness : k.counts.witness ≤ calls * 18446744073709551615
  pub object : k.counts.object ≤ calls * 18446744073709551615
  pub judged : k.counts.judged ≤ calls * 18446744073709551615
  pub excepted : k.excepted ≤ calls * 18446744073709551615
