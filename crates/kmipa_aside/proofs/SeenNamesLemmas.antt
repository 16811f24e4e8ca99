-- Names that objects in sight have, as the program finds them.
use Rattle.std.proofs.Common.{◌≡◌, ◌∙◌, ◌≤◌, ◌&&◌, ◌+◌, ℕ, Bool, true, false, List, map, drop, length, slice_get, Some, refl, sym, subst}
use Rattle.std.specs.List.{list_any}
use Rattle.kmipa_attrs.specs.Sets.{NameOf, name_of}
use Rattle.kmipa_attrs.specs.declared.name.Name.{Name}
use Rattle.kmipa_object.specs.Inventory.{Card}
use Rattle.kmipa_store.specs.Ledger.{Held, cards_of}
use Rattle.kmipa_ops.specs.Objects.{same_name}
use Rattle.kmipa_aside.proofs.MissedLemmas.{card_there}
use Rattle.kmipa_aside.proofs.ScanLemmas.{any_here, any_map, any_on, any_past, any_same, length-map}

-- as names are compared
pub named_is : (names own : List Name) → list_any (λ (mine : Name). list_any (λ (asked : Name). same_name (name_of asked) (name_of mine)) names) own
    ≡ list_any (λ (mine : NameOf). list_any (λ (asked : NameOf). same_name asked mine) (map name_of names)) (map name_of own)
named_is names own =
    any_same (λ (mine : Name). list_any (λ (asked : Name). same_name (name_of asked) (name_of mine)) names)
    (λ (mine : Name). list_any (λ (asked : NameOf). same_name asked (name_of mine)) (map name_of names)) (λ mine. sym (any_map (λ (asked : NameOf). same_name asked (name_of mine)) name_of names)) own
    ∙ sym (any_map (λ (mine : NameOf). list_any (λ (asked : NameOf). same_name asked mine) (map name_of names)) name_of own)

pub and_true : (a b : Bool) → b ≡ true → a ≡ (a && b)
and_true true b e = sym e
and_true false b e = refl

pub and_false : (a b : Bool) → b ≡ false → false ≡ (a && b)
and_false true b e = sym e
and_false false b e = refl

-- along the places of a ledger
module _ (p : Card → Bool) (hs : List Held) (place : ℕ) where
  pub placed_on : (h : Held) → slice_get hs place ≡ Some h → p h.card ≡ false → list_any p (drop place (cards_of hs)) ≡ list_any p (drop (place + 1) (cards_of hs))
  placed_on h at e = any_on p (cards_of hs) place h.card (card_there hs place h at) e

  pub placed_here : (h : Held) → slice_get hs place ≡ Some h → p h.card ≡ true → list_any p (drop place (cards_of hs)) ≡ true
  placed_here h at e = any_here p (cards_of hs) place h.card (card_there hs place h at) e

  pub placed_past : (count : ℕ) → count ≡ length hs → count ≤ place → list_any p (drop place (cards_of hs)) ≡ false
  placed_past count is past =
      let all : count ≡ length (cards_of hs) = is ∙ sym (length-map (λ (h : Held). h.card) hs) in
      any_past p (cards_of hs) place (subst (λ (n : ℕ). n ≤ place) all past)
