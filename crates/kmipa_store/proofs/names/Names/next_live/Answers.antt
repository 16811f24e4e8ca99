use Rattle.std.proofs.Common.{◌∙◌, List, sym, subst}
use Rattle.kmipa_store.specs.Names.{Named}
use Rattle.kmipa_store.proofs.LiveNameLemmas.{live_from, live_fails_from, live_next_here, live_next_none, live_next_start}
use Rattle.kmipa_store.proofs.NameLemmas.{Rests, Seeks, rests_on, rests_start, seeks_on}
use Rattle.kmipa_store.proofs.names.Names.next_live.Goals as goal

pub loop-one-init : goal.loop-one-init
loop-one-init c =
    let is = c.into_iter-one-iterator.ensures.into_iter_gives ∙ c.range-one-items.ensures.between tt in
    record {
      seeks = live_next_start c.args.self.now c.args.objects.now c.args.value.now c.args.kind c.name_hash-hash.result c.requires c.name_hash-hash.ensures c.args.from c.len-count.result c.into_iter-one-iterator.result
          c.len-count.ensures is;
      rests = rests_start c.name_hash-hash.result c.args.from c.len-count.result c.args.self.now.by_hash.keys c.into_iter-one-iterator.result is c.range-one-items.ensures.ordered;
    }

pub returns-then-bears_live-clause-place : goal.returns-then-bears_live-clause-place
returns-then-bears_live-clause-place c =
    let hash = c.name_hash-hash.result in
    let passes = live_from c.args.objects.now c.args.from c.args.value.now c.args.kind in
    sym (live_next_here c.args.objects.now c.args.value.now c.args.kind hash c.args.from c.in-Some.one.now c.next.new.self (sym c.bears_live.ensures ∙ c.if-bears_live.true)
    (subst (λ (x : List Named). Seeks passes hash x) c.in-Some.ensures.steps c.loop-one.invariant.seeks) (subst (λ (x : List Named). Rests hash c.args.from x) c.in-Some.ensures.steps c.loop-one.invariant.rests))

pub loop-one-preserved : goal.loop-one-preserved
loop-one-preserved c =
    let hash = c.name_hash-hash.result in
    let one = c.in-Some.one.now in
    let passes = live_from c.args.objects.now c.args.from c.args.value.now c.args.kind in
    record {
      seeks = seeks_on passes hash one c.next.new.self (live_fails_from c.args.objects.now c.args.value.now c.args.kind c.args.from one.1 one.2 (sym c.bears_live.ensures ∙ c.if-bears_live.false))
          (subst (λ (x : List Named). Seeks passes hash x) c.in-Some.ensures.steps c.loop-one.invariant.seeks);
      rests = rests_on hash c.args.from one c.next.new.self (subst (λ (x : List Named). Rests hash c.args.from x) c.in-Some.ensures.steps c.loop-one.invariant.rests);
    }

pub returns-clause-place : goal.returns-clause-place
returns-clause-place c =
    let hash = c.name_hash-hash.result in
    let passes = live_from c.args.objects.now c.args.from c.args.value.now c.args.kind in
    sym (live_next_none c.args.objects.now c.args.value.now c.args.kind hash c.args.from (subst (λ (x : List Named). Seeks passes hash x) c.in-None.ensures.steps.0 c.loop-one.invariant.seeks))
