-- Names that live objects have, as a ledger finds them.
use Rattle.std.proofs.Common.{◌≡◌, ◌∙◌, ◌&&◌, Bool, List, map, ap, sym}
use Rattle.std.specs.List.{list_any}
use Rattle.kmipa_attrs.specs.Sets.{NameOf, name_of}
use Rattle.kmipa_attrs.specs.declared.name.Name.{Name}
use Rattle.kmipa_object.specs.Inventory.{Card, live}
use Rattle.kmipa_store.specs.Ledger.{Held, cards_of}
use Rattle.kmipa_store.specs.Queries.{any_live_named as any_live_has}
use Rattle.kmipa_ops.specs.Objects.{any_live_named, is_named, same_name}
use Rattle.kmipa_aside.proofs.ScanLemmas.{any_and, any_map, any_same, any_swap}

-- as a ledger finds names
named_of : (h : Held) (names : List Name) → list_any (λ (name : Name). list_any (same_name (name_of name)) h.card.given.names) names ≡ is_named (map name_of names) h.card
named_of h names =
    any_swap (λ (name : Name) (mine : NameOf). same_name (name_of name) mine) names h.card.given.names
    ∙ any_same (λ (mine : NameOf). list_any (λ (name : Name). same_name (name_of name) mine) names) (λ (mine : NameOf). list_any (λ (asked : NameOf). same_name asked mine) (map name_of names))
    (λ mine. sym (any_map (λ (asked : NameOf). same_name asked mine) name_of names)) h.card.given.names

pub any_live_had-is : (hs : List Held) (names : List Name) → list_any (λ (name : Name). any_live_has (name_of name).value name.kind hs) names ≡ any_live_named (cards_of hs) (map name_of names)
any_live_had-is hs names =
    let own : Held → List NameOf = λ h. h.card.given.names in
    any_swap (λ (name : Name) (h : Held). live h.card && list_any (same_name (name_of name)) (own h)) names hs
    ∙ any_same (λ (h : Held). list_any (λ (name : Name). live h.card && list_any (same_name (name_of name)) (own h)) names) (λ (h : Held). live h.card && is_named (map name_of names) h.card)
    (λ h. sym (any_and (live h.card) (λ (name : Name). list_any (same_name (name_of name)) (own h)) names) ∙ ap (λ (b : Bool). live h.card && b) (named_of h names)) hs
    ∙ sym (any_map (λ (c : Card). live c && is_named (map name_of names) c) (λ (h : Held). h.card) hs)
