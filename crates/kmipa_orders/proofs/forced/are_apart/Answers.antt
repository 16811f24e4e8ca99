use Rattle.std.proofs.Common.{◌≡◌, ℤ, pos, map, sym, subst, rules, w32}
use Rattle.std.specs.Prelude.{AllPairs, IfOk}
use Rattle.std.proofs.lemmas.Int.{to_z-of_z}
use Rattle.kmipa_check.specs.Deciding.{Decided}
use Rattle.kmipa_orders.specs.Candidates.{candidate_step}
use Rattle.kmipa_orders.specs.Plain.{AreApart}
use Rattle.kmipa_orders.proofs.forced.are_apart.Goals as goal

pub returns-then-tolerance-eq0 : goal.returns-then-tolerance-eq0
returns-then-tolerance-eq0 c = λ begun closed.
    let none : c.args.tolerance ≡ pos 0 = search rules in
    subst (λ (z : ℤ). IfOk c.stamps_differ.result (λ apart. Decided apart (AllPairs (AreApart z) (map candidate_step c.args.calls.now)))) (sym none) (c.stamps_differ.ensures begun closed)

pub returns-else-tolerance-eq0 : goal.returns-else-tolerance-eq0
returns-else-tolerance-eq0 c = λ begun closed.
    subst (λ (z : ℤ). Decided c.are_far.result (AllPairs (AreApart z) (map candidate_step c.args.calls.now))) (to_z-of_z w32 c.args.tolerance c.ranges.tolerance) (c.are_far.ensures begun closed)
