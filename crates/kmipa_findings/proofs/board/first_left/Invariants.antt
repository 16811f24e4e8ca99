use Rattle.std.proofs.Common.{◌≡◌, ◌<◌, ◌-◌, ℕ, true, length}
use Rattle.kmipa_findings.specs.Flags.{flag_at}
use Rattle.kmipa_findings.proofs.board.first_left.Given as goal

abbrev pub invariant-places : goal.invariant-places
invariant-places l = ((p : ℕ) → p < l.from → flag_at l.flags p ≡ true) → (p : ℕ) → p < l.place → flag_at l.flags p ≡ true

abbrev pub decreases-places : goal.decreases-places
decreases-places l = length l.flags - l.place
