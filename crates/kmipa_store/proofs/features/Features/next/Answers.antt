-- proofs/features/Features/next/Answers.antt
use Rattle.std.proofs.Common.{◌≡◌, ◌∙◌, ℤ, true, List, ap, sym, subst, rules, to_z, of_z}
use mir.Syntax.{w64}
use Rattle.std.proofs.lemmas.Int.{to_z-of_z}
use Rattle.kmipa_store.specs.Features.{KnowsFeature}
use Rattle.kmipa_store.specs.Names.{Named}
use Rattle.kmipa_store.specs.Queries.{next_with}
use Rattle.kmipa_store.proofs.FeatureLemmas.{feature_fails, feature_here, feature_none, feature_start, stands_from}
use Rattle.kmipa_store.proofs.NameLemmas.{Rests, Seeks, rests_on, rests_start, seeks_on}
use Rattle.kmipa_store.proofs.features.Features.next.Goals as goal

pub loop-one-init : goal.loop-one-init
loop-one-init c =
    let t : ℤ = to_z w64 (of_z w64 c.args.t) in
    let is = c.into_iter-one-iterator.ensures.into_iter_gives ∙ c.range-one-items.ensures.between tt in
    let code = c.code-code.result in
    let known : c.args.self.now.is_known ≡ true = search rules in
    let knows = subst (λ (x : ℤ). KnowsFeature c.args.self.now c.args.feature x c.args.objects.now) (sym (to_z-of_z w64 c.args.t c.ranges.t)) c.requires in
    record {
      seeks = feature_start c.args.objects.now c.args.feature t c.args.self.now code c.args.from c.len-count.result c.into_iter-one-iterator.result knows known c.code-code.ensures c.len-count.ensures is;
      rests = rests_start code c.args.from c.len-count.result c.args.self.now.by_code.keys c.into_iter-one-iterator.result is c.range-one-items.ensures.ordered;
    }

pub returns-then-stands_with-clause-place : goal.returns-then-stands_with-clause-place
returns-then-stands_with-clause-place c =
    let t : ℤ = to_z w64 (of_z w64 c.args.t) in
    let code = c.code-code.result in
    let passes = stands_from c.args.objects.now c.args.from c.args.feature t in
    sym (feature_here c.args.objects.now c.args.feature t code c.args.from c.in-Some.one.now c.next.new.self (sym c.stands_with.ensures ∙ c.if-stands_with.true)
    (subst (λ (x : List Named). Seeks passes code x) c.in-Some.ensures.steps c.loop-one.invariant.seeks) (subst (λ (x : List Named). Rests code c.args.from x) c.in-Some.ensures.steps c.loop-one.invariant.rests))
    ∙ ap (λ (x : ℤ). next_with c.args.feature x c.args.from c.args.objects.now) (to_z-of_z w64 c.args.t c.ranges.t)

pub loop-one-preserved : goal.loop-one-preserved
loop-one-preserved c =
    let t : ℤ = to_z w64 (of_z w64 c.args.t) in
    let code = c.code-code.result in
    let one = c.in-Some.one.now in
    let passes = stands_from c.args.objects.now c.args.from c.args.feature t in
    record {
      seeks = seeks_on passes code one c.next.new.self (feature_fails c.args.objects.now c.args.feature t c.args.from one.1 one.2 (sym c.stands_with.ensures ∙ c.if-stands_with.false))
          (subst (λ (x : List Named). Seeks passes code x) c.in-Some.ensures.steps c.loop-one.invariant.seeks);
      rests = rests_on code c.args.from one c.next.new.self (subst (λ (x : List Named). Rests code c.args.from x) c.in-Some.ensures.steps c.loop-one.invariant.rests);
    }

pub returns-clause-place : goal.returns-clause-place
returns-clause-place c =
    let t : ℤ = to_z w64 (of_z w64 c.args.t) in
    let code = c.code-code.result in
    let passes = stands_from c.args.objects.now c.args.from c.args.feature t in
    sym (feature_none c.args.objects.now c.args.feature t code c.args.from (subst (λ (x : List Named). Seeks passes code x) c.in-None.ensures.steps.0 c.loop-one.invariant.seeks))
    ∙ ap (λ (x : ℤ). next_with c.args.feature x c.args.from c.args.objects.now) (to_z-of_z w64 c.args.t c.ranges.t)
