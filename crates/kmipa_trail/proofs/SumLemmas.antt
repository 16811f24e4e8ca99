-- How large the numbers of a tally may be.
use Rattle.std.proofs.Common.{◌≤◌, ℕ, arith}
use Rattle.kmipa_trail.specs.Summing.{IsWithin}
use Rattle.kmipa_trail.specs.Tallies.{TallyOf, no_tally}

pub within_none : IsWithin 0 no_tally
within_none = record { request = omega arith; answer = omega arith; witness = omega arith; object = omega arith; judged = omega arith; excepted = omega arith }

pub within_more : (n m : ℕ) (k : TallyOf) → n ≤ m → IsWithin n k → IsWithin m k
within_more n m k less w = record {
  request = omega (arith, less, w.request);
  answer = omega (arith, less, w.answer);
  witness = omega (arith, less, w.witness);
  object = omega (arith, less, w.object);
  judged = omega (arith, less, w.judged);
  excepted = omega (arith, less, w.excepted);
}
