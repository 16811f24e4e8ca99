use Rattle.std.proofs.Common.{◌≡◌, ◌∙◌, ap, ℕ, List, map, Option, Some, option_map, slice_get, String, string_bytes}
use Rattle.std.specs.Global.{Global}
use Rattle.kmipa_object.specs.Inventory.{card_of}
use Rattle.kmipa_store.specs.Ledger.{Held, cards_of, held}
use Rattle.kmipa_check.proofs.PlaceLemmas.{get_at, mapped_at}
use Rattle.kmipa_beside.specs.Owners.{NamedOf}
use Rattle.kmipa_beside.specs.declared.named.Named.{Named}
use Rattle.kmipa_beside.proofs.OwnersLemmas.{push_none, push_one}
use Rattle.kmipa_beside.proofs.owners.push_named.Goals as goal

pub returns-in_default : goal.returns-in_default
returns-in_default g c =
    let objects = (g.L.Ledger.state c.args.ledger.now).now.objects in
    let owners = c.args.owners.now in
    let place = c.args.place in
    let at = mapped_at (option_map string_bytes) owners place c.index-owners-place.result c.requires.owner c.index-owners-place.is in
    push_none (slice_get (cards_of objects) place) (slice_get (map (option_map string_bytes) owners) place) c.args.named.now.items
    (at ∙ ap (λ (o : Option (String Global)). Some (option_map string_bytes o)) c.in_default.is)

pub returns : goal.returns
returns g c =
    let objects = (g.L.Ledger.state c.args.ledger.now).now.objects in
    let owners = c.args.owners.now in
    let place = c.args.place in
    let at = mapped_at (option_map string_bytes) owners place c.index-owners-place.result c.requires.owner c.index-owners-place.is in
    let card = card_of c.at-object.result.now in
    let client = string_bytes c.in-Some.client in
    let n : Named = record { id = c.in_ok-from_str.field-0; client = c.in_ok-from_str-2.field-0 } in
    let of : List ℕ → List ℕ → NamedOf = λ i b. record { id = i; client = b } in
    push_one (slice_get (cards_of objects) place) (slice_get (map (option_map string_bytes) owners) place) card client c.args.named.now.items c.push.new.self.items n
    (get_at (λ (h : Held). h.card) objects place (held c.at-object.result.now) c.at-object.ensures)
    (at ∙ ap (λ (o : Option (String Global)). Some (option_map string_bytes o)) c.in-Some.is)
    (ap (λ (i : List ℕ). of i (string_bytes n.client)) (c.in_ok-from_str.ensures.ok ∙ c.as_str.ensures.value)
    ∙ ap (of card.id) (c.in_ok-from_str-2.ensures.ok ∙ c.as_str-2.ensures.value))
    c.in_ok-push.ensures.items
