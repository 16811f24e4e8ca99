use Rattle.std.proofs.Common.{ℕ, List, ◌≡◌, ◌∙◌, ◌++◌, ◌∷◌, [], None, length, ap, sym, subst}
use Rattle.kmipa_object.specs.Inventory.{place_of}
use Rattle.kmipa_object.specs.declared.object.Object.{Object}
use Rattle.kmipa_object.proofs.ListLemmas.{map-push}
use Rattle.kmipa_store.specs.Ledger.{Held, cards_of, held}
use Rattle.kmipa_store.specs.Objects.{objects_of}
use Rattle.kmipa_store.specs.Slots.{AreNoted, IsNoted, KeepsBefore}
use Rattle.kmipa_store.proofs.NameLemmas.{length-map}
use Rattle.kmipa_store.proofs.SlotLemmas.{noted_pushed, noted_still}
use Rattle.kmipa_store.proofs.objects.Objects.push.Goals as goal

pub invariant_of-self-in_err-note : goal.invariant_of-self-in_err-note
invariant_of-self-in_err-note c =
    let i = c.self.inside in
    let hs = objects_of i.in_order.items in
    let new = c.note.new.self in
    let place : c.len-place.result ≡ length hs = c.len-place.ensures ∙ i.in_order.ok.0 ∙ sym (length-map held i.in_order.items) in
    subst (λ (x : List Held). AreNoted new x) (sym (ap (λ (x : List Object). objects_of x) c.in_ok-reserve.ensures.items))
    (noted_still i.slots new hs (subst (λ (n : ℕ). KeepsBefore i.slots n new) place c.in_err-note.ensures.1) c.self.invariant)

pub invariant_of-self-2 : goal.invariant_of-self-2
invariant_of-self-2 c =
    let i = c.self.inside in
    let hs = objects_of i.in_order.items in
    let h = held c.args.object in
    let new = c.note.new.self in
    let place : c.len-place.result ≡ length hs = c.len-place.ensures ∙ i.in_order.ok.0 ∙ sym (length-map held i.in_order.items) in
    let all : objects_of c.push.new.self.items ≡ hs ++ h ∷ [] =
    ap (λ (x : List Object). objects_of x) c.in_ok-push.ensures.items ∙ ap (λ (x : List Object). objects_of (x ++ c.args.object ∷ [])) c.in_ok-reserve.ensures.items ∙ map-push held i.in_order.items c.args.object in
    let none : place_of h.card.id (cards_of hs) ≡ None = ap (λ (x : List Held). place_of h.card.id (cards_of x)) (c.self.view_is ∙ c.make_slots.ensures) ∙ c.requires in
    let here : IsNoted new h.card.id (length hs) =
    subst (λ (n : ℕ). IsNoted new h.card.id n) place (subst (λ (id : List ℕ). IsNoted new id c.len-place.result) c.as_str.ensures.value c.in_ok-note.ensures.1) in
    subst (λ (x : List Held). AreNoted new x) (sym all)
    (noted_pushed i.slots new hs h (subst (λ (n : ℕ). KeepsBefore i.slots n new) place c.in_ok-note.ensures.0) here none c.self.invariant)
