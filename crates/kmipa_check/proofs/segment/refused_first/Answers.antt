use Rattle.std.proofs.Common.{◌≡◌, ◌<◌, ℕ, ℤ, ◌<ℤ◌, ◌≤ℤ◌, ◌∙◌, map, sym, ap, subst, arith, rules}
use Rattle.std.specs.Int.Signed.{clash_ℤ}
use Rattle.kmipa_check.specs.Steps.{StepOf, step_of}
use Rattle.kmipa_check.proofs.PlaceLemmas.{get_at}
use Rattle.kmipa_check.proofs.TurnLemmas.{late_here, none_late}
use Rattle.kmipa_check.proofs.segment.refused_first.Goals as goal

pub returns-then-moment : goal.returns-then-moment
returns-then-moment c = λ other begins.
    let there = get_at step_of c.args.steps.now 0 c.in-Some-first.first.now (sym c.in-Some-first.ensures.value) in
    let at = begins.there in
    let same : step_of c.in-Some-first.first.now ≡ other = cc in
    let its = begins.is in
    let told = c.in-Some.is in
    let moment : begins.moment ≡ c.in-Some.moment = cc in
    let above : c.in-Some.moment ≤ℤ c.moment.result = search rules in
    let below : other.response.stamp <ℤ c.in-Some.moment = subst (λ (z : ℤ). other.response.stamp <ℤ z) moment begins.below in
    absurd (clash_ℤ below (subst (λ (z : ℤ). c.in-Some.moment ≤ℤ z) (c.moment.ensures ∙ ap (λ (s : StepOf). s.response.stamp) same) above))

pub returns-then-is_at : goal.returns-then-is_at
returns-then-is_at c = λ other begins.
    late_here (map step_of c.args.steps.now) c.first_late.result 0 other c.first_late.ensures begins.there (sym c.is_at.ensures ∙ c.if-is_at.true)

pub returns : goal.returns
returns c =
    let order = map step_of c.args.steps.now in
    let first = step_of c.in-Some-first.first.now in
    let there = get_at step_of c.args.steps.now 0 c.in-Some-first.first.now (sym c.in-Some-first.ensures.value) in
    let below : c.moment.result <ℤ c.in-Some.moment = search rules in
    record {
      first = first;
      begins = record { moment = c.in-Some.moment; is = c.in-Some.is; there = there; below = subst (λ (z : _). z <ℤ c.in-Some.moment) c.moment.ensures below };
      kept = none_late order c.first_late.result 0 first c.first_late.ensures (λ (turn : ℕ) (below : turn < 0). absurd (omega (arith, below))) there (sym c.is_at.ensures ∙ c.if-is_at.false);
      is = c.refused_turn.ensures;
    }
