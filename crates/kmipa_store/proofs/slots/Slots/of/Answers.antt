use Rattle.std.proofs.Common.{ℕ, List, ◌∙◌, ap, string_bytes, subst, sym}
use Rattle.std.proofs.lemmas.List.{take_all}
use Rattle.kmipa_object.specs.declared.object.Object.{Object}
use Rattle.kmipa_object.proofs.ListLemmas.{get-at}
use Rattle.kmipa_store.specs.Objects.{objects_of}
use Rattle.kmipa_store.specs.Slots.{AreAllNoted, IsNoted}
use Rattle.kmipa_store.proofs.SlotLemmas.{none_noted, noted_on}
use Rattle.kmipa_store.proofs.slots.Slots.of.Goals as goal

pub loop-place-init : goal.loop-place-init
loop-place-init c = none_noted _

pub loop-place-preserved : goal.loop-place-preserved
loop-place-preserved c =
    let objects = c.args.objects.now in
    let place = c.loop-place.place in
    let o = c.index-objects-place.result in
    noted_on c.loop-place.slots c.note.new.self objects place o (get-at objects place o c.loop-place-test.true c.index-objects-place.is) c.in_ok-note.ensures.0
    (subst (λ (id : List ℕ). IsNoted c.note.new.self id place) (c.as_str.ensures.value ∙ ap (λ (x : Object). string_bytes x.id) (sym c.index-objects-place.is)) c.in_ok-note.ensures.1) c.loop-place.invariant

pub returns : goal.returns
returns c =
    subst (λ (xs : List Object). AreAllNoted c.loop-place.slots (objects_of xs)) (take_all c.loop-place.place c.args.objects.now c.loop-place-test.false) c.loop-place.invariant
