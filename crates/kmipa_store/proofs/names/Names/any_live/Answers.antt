use Rattle.std.proofs.Common.{◌∙◌, List, sym, subst}
use Rattle.kmipa_store.specs.Names.{Named}
use Rattle.kmipa_store.proofs.NameLemmas.{Seeks, bears_now, live_here, live_none, live_start, seeks_back}
use Rattle.kmipa_store.proofs.names.Names.any_live.Goals as goal

pub loop-one-init : goal.loop-one-init
loop-one-init c =
    live_start c.args.self.now c.args.objects.now c.args.value.now c.args.kind c.name_hash-hash.result c.requires c.name_hash-hash.ensures c.len.result c.range-left.result c.len.ensures (c.range-left.ensures.between tt)

pub returns-then-bears_live : goal.returns-then-bears_live
returns-then-bears_live c =
    let one = c.in-Some.one.now in
    sym (live_here c.args.objects.now c.args.value.now c.args.kind one.1 one.2 (sym c.bears_live.ensures ∙ c.if-bears_live.true))

pub loop-one-preserved : goal.loop-one-preserved
loop-one-preserved c =
    let hash = c.name_hash-hash.result in
    let passes = bears_now c.args.objects.now c.args.value.now c.args.kind in
    seeks_back passes hash c.next_back.new.self c.in-Some.one.now (sym c.bears_live.ensures ∙ c.if-bears_live.false) (subst (λ (x : List Named). Seeks passes hash x) c.in-Some.ensures.steps c.loop-one.invariant)

pub returns : goal.returns
returns c =
    let hash = c.name_hash-hash.result in
    let passes = bears_now c.args.objects.now c.args.value.now c.args.kind in
    sym (live_none c.args.objects.now c.args.value.now c.args.kind hash (subst (λ (x : List Named). Seeks passes hash x) c.in_default.ensures.steps.0 c.loop-one.invariant))
