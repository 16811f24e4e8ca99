use Rattle.std.proofs.Common.{List, ◌∙◌, sym, subst}
use Rattle.kmipa_store.specs.Objects.{Hashed, objects_of}
use Rattle.kmipa_store.proofs.HashLemmas.{Seeks, Rises, found_here, rises_on, rises_start, seeks_end, seeks_on, seeks_past, seeks_start}
use Rattle.kmipa_store.proofs.SlotLemmas.{objects_within}
use Rattle.kmipa_store.proofs.slots.Slots.find_by_hash.Goals as goal

pub loop-one-init : goal.loop-one-init
loop-one-init c =
    let slots = c.args.self.now in
    let hash = c.id_hash-hash.result in
    let all = c.into_iter-one-iterator.ensures.into_iter_gives ∙ c.range-one-items.ensures.between tt in (
      seeks_start slots (objects_of c.args.objects.now) c.args.id.now hash c.into_iter-one-iterator.result c.id_hash-hash.ensures all c.requires.listed,
      rises_start slots.by_hash.keys hash c.into_iter-one-iterator.result c.range-one-items.ensures.ordered all,
    )

pub returns-then-one-hash-clause-place : goal.returns-then-one-hash-clause-place
returns-then-one-hash-clause-place c =
    let hash = c.id_hash-hash.result in
    let objects = objects_of c.args.objects.now in
    sym (seeks_past objects c.args.id.now hash c.in-Some.one.now c.next.new.self (subst (λ (x : List Hashed). Rises hash x) c.in-Some.ensures.steps c.loop-one.invariant.1) c.if-one-hash.true
    (subst (λ (x : List Hashed). Seeks objects c.args.id.now hash x) c.in-Some.ensures.steps c.loop-one.invariant.0))

pub returns-then-is_at-clause-place : goal.returns-then-is_at-clause-place
returns-then-is_at-clause-place c =
    sym (found_here c.args.self.now (objects_of c.args.objects.now) c.args.id.now c.in-Some.one.now.1 c.requires.noted (sym c.is_at.ensures ∙ c.if-is_at.true))

pub returns-then-is_at-clause-within : goal.returns-then-is_at-clause-within
returns-then-is_at-clause-within c = objects_within c.args.objects.now c.args.id.now c.in-Some.one.now.1 (sym c.is_at.ensures ∙ c.if-is_at.true)

pub loop-one-preserved : goal.loop-one-preserved
loop-one-preserved c =
    let hash = c.id_hash-hash.result in
    let objects = objects_of c.args.objects.now in (
      seeks_on objects c.args.id.now hash c.in-Some.one.now c.next.new.self (sym c.is_at.ensures ∙ c.if-is_at.false)
          (subst (λ (x : List Hashed). Seeks objects c.args.id.now hash x) c.in-Some.ensures.steps c.loop-one.invariant.0),
      rises_on hash c.in-Some.one.now c.next.new.self (subst (λ (x : List Hashed). Rises hash x) c.in-Some.ensures.steps c.loop-one.invariant.1),
    )

pub returns-clause-place : goal.returns-clause-place
returns-clause-place c =
    let hash = c.id_hash-hash.result in
    let objects = objects_of c.args.objects.now in
    sym (seeks_end objects c.args.id.now hash (subst (λ (x : List Hashed). Seeks objects c.args.id.now hash x) c.in-None.ensures.steps.0 c.loop-one.invariant.0))
