use Rattle.std.proofs.Common.{List, subst, ◌≡◌, ◌∙◌, ◌++◌, ◌∷◌, [], ap, sym, take, string_bytes, add-one}
use Rattle.kmipa_object.specs.Inventory.{Card, place_of}
use Rattle.kmipa_store.specs.Ledger.{Held, held, cards_of}
use Rattle.kmipa_store.specs.Slots.{AreNoted}
use Rattle.kmipa_store.proofs.SlotLemmas.{free_before}
use Rattle.kmipa_store.proofs.ObjectLemmas.{held_same, take-next}
use Rattle.kmipa_store.proofs.objects.Objects.copy.Goals as goal

pub push-requires : goal.push-requires
push-requires c =
    let place = c.loop-place.place in
    let objects = c.args.self.now in
    ap (λ (x : Card). place_of x.id (cards_of c.loop-place.copy)) c.in_ok-object.ensures.card
    ∙ ap (λ hs. place_of (string_bytes c.at.result.now.id) (cards_of hs)) c.loop-place.invariant
    ∙ free_before c.self.inside.slots objects place (held c.at.result.now) (subst (λ (x : List Held). AreNoted c.self.inside.slots x) c.self.view_is c.self.invariant) c.at.ensures

pub loop-place-preserved : goal.loop-place-preserved
loop-place-preserved c =
    let place = c.loop-place.place in
    let objects = c.args.self.now in
    let same : held c.in_ok-object.object ≡ held c.at.result.now = held_same c.in_ok-object.object c.at.result.now c.in_ok-object.ensures.card c.in_ok-object.ensures.life in
    c.in_ok-push.ensures
    ∙ ap (λ hs. hs ++ held c.in_ok-object.object ∷ []) c.loop-place.invariant
    ∙ ap (λ (h : Held). take place objects ++ h ∷ []) same
    ∙ sym (take-next objects place (held c.at.result.now) c.at.ensures)
    ∙ ap (λ n. take n objects) (sym (add-one place))
