use Rattle.std.proofs.Common.{◌-◌, ℕ, List, length}
use Rattle.kmipa_findings.specs.Boards.{IsBoard}
use Rattle.kmipa_findings.proofs.MissedLemmas.{AreCoveredBelow}
use Rattle.kmipa_findings.proofs.missed.missed.Given as goal

abbrev pub invariant-places : goal.invariant-places
invariant-places l = (count : ℕ) (taken : List ℕ) → IsBoard count taken l.at.board.now → AreCoveredBelow l.at.trials.now taken l.at.refuted.now l.place

abbrev pub decreases-places : goal.decreases-places
decreases-places l = length l.at.trials.now - l.place
