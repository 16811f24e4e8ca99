use Rattle.std.proofs.Common.{◌≡◌, ◌∙◌, ◌++◌, ◌∷◌, [], ℕ, Bool, true, List, ap, sym}
use Rattle.kmipa_object.specs.Inventory.{card_of, live, place_of}
use Rattle.kmipa_store.specs.Aside.{Entry}
use Rattle.kmipa_store.specs.AsideIds.{count_in, entries_of, entry_place}
use Rattle.kmipa_store.specs.Ledger.{cards_of, held}
use Rattle.kmipa_store.proofs.AsideLemmas.{count_pushed, entries_pushed, place_entries}
use Rattle.kmipa_store.proofs.aside_ids.AsideIds.push.Goals as goal

pub push-requires : goal.push-requires
push-requires c =
    let hs = c.self.inside.objects in
    ap (λ (id : List ℕ). place_of id (cards_of hs)) c.in_ok-object.ensures.id ∙ place_entries c.args.id.now hs ∙ ap (entry_place c.args.id.now) c.self.view_is ∙ c.requires

pub invariant_of-self-2 : goal.invariant_of-self-2
invariant_of-self-2 c =
    let hs = c.self.inside.objects in
    let o = c.in_ok-object.object in
    let all : entries_of c.push.new.self ≡ entries_of hs ++ (c.args.id.now, true) ∷ [] =
    ap entries_of c.in_ok-push.ensures
    ∙ entries_pushed hs (held o)
    ∙ ap (λ (id : List ℕ). entries_of hs ++ (id, live (card_of o)) ∷ []) c.in_ok-object.ensures.id
    ∙ ap (λ (b : Bool). entries_of hs ++ (c.args.id.now, b) ∷ []) c.in_ok-object.ensures.aside in
    c.self.invariant ∙ sym (count_pushed (entries_of hs) c.args.id.now) ∙ ap count_in (sym all)

pub returns : goal.returns
returns c =
    let hs = c.self.inside.objects in
    let o = c.in_ok-object.object in
    ap entries_of c.in_ok-push.ensures
    ∙ entries_pushed hs (held o)
    ∙ ap (λ (id : List ℕ). entries_of hs ++ (id, live (card_of o)) ∷ []) c.in_ok-object.ensures.id
    ∙ ap (λ (b : Bool). entries_of hs ++ (c.args.id.now, b) ∷ []) c.in_ok-object.ensures.aside
    ∙ ap (λ (es : List Entry). es ++ (c.args.id.now, true) ∷ []) c.self.view_is
