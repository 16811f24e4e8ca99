use Rattle.std.proofs.Common.{ℕ, List, length, subst}
use Rattle.kmipa_findings.specs.Exhausting.{AreCovered, taken_in}
use Rattle.kmipa_findings.proofs.descending.next_pick.Goals as goal

pub returns-in-None : goal.returns-in-None
returns-in-None c = λ none board.
    let R : List ℕ → Type 0 = λ xs. AreCovered c.args.trials.now (taken_in c.args.descent.now) xs in
    subst R c.deref.ensures.value (c.missed.ensures.covered (length c.args.trials.now) (taken_in c.args.descent.now) board c.in-None.is)
