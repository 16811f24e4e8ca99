-- Names: which of them stand among others.
use Rattle.std.proofs.Common.{◌&&◌, is_some, ◌≡◌, ◌==◌, Bool, true, false, not, bytes_eq, map, get_or, List, refl, ap, sym, ◌∙◌, subst}
use Rattle.std.specs.Bool.{Decides}
use Rattle.std.specs.List.{Contains, list_any}
use Rattle.std.proofs.lemmas.Bool.{and_parts, and_from}
use Rattle.std.proofs.lemmas.Bool.Decides.{Decides-eqb}
use Rattle.std.proofs.lemmas.List.Folds.{Any-from_list_any, list_any_at}
use Rattle.std.proofs.lemmas.Slice.Eq.{bytes_eq-Decides}
use Rattle.kmipa_attrs.specs.Sets.{NameOf, name_of}
use Rattle.kmipa_attrs.specs.declared.name.Name.{Name}
use Rattle.kmipa_object.specs.Inventory.{Card, live}
use Rattle.kmipa_store.specs.Ledger.{Held, cards_of}
use Rattle.kmipa_store.specs.Queries.{any_live_named as any_live_has, next_named}
use Rattle.kmipa_ops.specs.Objects.{same_name, is_named, any_named, any_live_named, HasNameOf}
use Rattle.kmipa_ops.specs.Founded.{IsNameTaken}
use Rattle.kmipa_ops.specs.GetAttributes.{AreAmong, has_stranger}
use Rattle.kmipa_ops.proofs.ScanLemmas.{any_map, any_same, any_swap, any_and, found_any}
use Rattle.kmipa_ops.proofs.TestLemmas.{same_truth, some_if, some_not}

pub same_name-Decides : (m n : NameOf) → Decides (same_name m n) (m ≡ n)
same_name-Decides m n = (
  λ h.
      let w = and_parts (m.kind == n.kind) (bytes_eq m.value n.value) h in
      let p : m.value ≡ n.value = (bytes_eq-Decides m.value n.value).0 w.1 in
      let q : m.kind ≡ n.kind = (Decides-eqb m.kind n.kind).0 w.0 in
      λ i. record { value = p i; kind = q i },
  λ e.
      and_from (m.kind == n.kind) (bytes_eq m.value n.value) ((Decides-eqb m.kind n.kind).1 (ap (λ (x : NameOf). x.kind) e))
      ((bytes_eq-Decides m.value n.value).1 (ap (λ (x : NameOf). x.value) e)),
)

pub same_both : (a b : NameOf) → same_name a b ≡ same_name b a
same_both a b =
    same_truth (same_name a b) (same_name b a) (λ h. (same_name-Decides b a).1 (sym ((same_name-Decides a b).0 h))) (λ h. (same_name-Decides a b).1 (sym ((same_name-Decides b a).0 h)))

abbrev is_known : List NameOf → NameOf → Bool
is_known known n = list_any (λ (k : NameOf). same_name k n) known

known_if : (known : List NameOf) (n : NameOf) → is_known known n ≡ true → Contains known n
known_if known n h =
    let a = Any-from_list_any (λ (k : NameOf). same_name k n) known h in
    let P : NameOf → Type 0 = λ x. Contains known x in
    subst P ((same_name-Decides a.1 n).0 a.4) (a.0, a.2, a.3)

known_not : (known : List NameOf) (n : NameOf) → Contains known n → is_known known n ≡ true
known_not known n at = list_any_at (λ (k : NameOf). same_name k n) known at.0 n at.1 ((same_name-Decides (get_or known at.0 n) n).1 at.2)

pub strangers_if : (known names : List NameOf) → has_stranger known names ≡ false → AreAmong known names
strangers_if known names h n at =
    (elim (is_known known n) as (λ b. is_known known n ≡ b → Contains known n) [
      | true ↦ λ e. known_if known n e
      | false ↦ λ e.
          let found : has_stranger known names ≡ true =
          list_any_at (λ (m : NameOf). not (is_known known m)) names at.0 n at.1 (ap (λ (m : NameOf). not (is_known known m)) at.2 ∙ ap not e) in
          let bad : ⊥ = cc in
          absurd bad
    ]) refl

pub strangers_not : (known names : List NameOf) → has_stranger known names ≡ true → AreAmong known names → ⊥
strangers_not known names h among =
    let a = Any-from_list_any (λ (m : NameOf). not (is_known known m)) names h in
    let is : not (is_known known a.1) ≡ false = ap not (known_not known a.1 (among a.1 (a.0, a.2, a.3))) in
    let out : not (is_known known a.1) ≡ true = a.4 in
    cc

pub stranger_is : (known names : List Name) → list_any (λ (n : Name). not (list_any (λ (k : Name). same_name (name_of k) (name_of n)) known)) names ≡ has_stranger (map name_of known) (map name_of names)
stranger_is known names =
    let is_known : NameOf → Bool = λ n. list_any (λ (k : NameOf). same_name k n) (map name_of known) in
    any_same (λ (n : Name). not (list_any (λ (k : Name). same_name (name_of k) (name_of n)) known)) (λ (n : Name). not (is_known (name_of n)))
    (λ n. ap not (sym (any_map (λ (k : NameOf). same_name k (name_of n)) name_of known))) names
    ∙ sym (any_map (λ (n : NameOf). not (is_known n)) name_of names)

-- an object has one of the names
pub named_decides : (names : List NameOf) (c : Card) → Decides (is_named names c) (HasNameOf names c)
named_decides names c = (
  λ h.
      let s = some_if (λ (mine : NameOf). list_any (λ (asked : NameOf). same_name asked mine) names) (λ (mine : NameOf). Contains names mine) (λ mine. (known_if names mine, known_not names mine)) c.given.names h in
      (s.0, s.2, s.1),
  λ h.
      some_not (λ (mine : NameOf). list_any (λ (asked : NameOf). same_name asked mine) names) (λ (mine : NameOf). Contains names mine) (λ mine. (known_if names mine, known_not names mine)) c.given.names h.0 h.2 h.1,
)

pub any_named-Decides : (cs : List Card) (names : List NameOf) → Decides (any_named cs names) (IsNameTaken cs names)
any_named-Decides cs names = (some_if (is_named names) (HasNameOf names) (named_decides names) cs, λ h. some_not (is_named names) (HasNameOf names) (named_decides names) cs h.0 h.1 h.2)

-- as a ledger finds names
named_of : (h : Held) (names : List Name) → list_any (λ (name : Name). list_any (same_name (name_of name)) h.card.given.names) names ≡ is_named (map name_of names) h.card
named_of h names =
    any_swap (λ (name : Name) (mine : NameOf). same_name (name_of name) mine) names h.card.given.names
    ∙ any_same (λ (mine : NameOf). list_any (λ (name : Name). same_name (name_of name) mine) names) (λ (mine : NameOf). list_any (λ (asked : NameOf). same_name asked mine) (map name_of names))
    (λ mine. sym (any_map (λ (asked : NameOf). same_name asked mine) name_of names)) h.card.given.names

pub any_had-is : (hs : List Held) (names : List Name) → list_any (λ (name : Name). is_some (next_named (name_of name).value name.kind 0 hs)) names ≡ any_named (cards_of hs) (map name_of names)
any_had-is hs names =
    let own : Held → List NameOf = λ h. h.card.given.names in
    any_same (λ (name : Name). is_some (next_named (name_of name).value name.kind 0 hs)) (λ (name : Name). list_any (λ (h : Held). list_any (same_name (name_of name)) (own h)) hs)
    (λ name. found_any (λ (h : Held). list_any (same_name (name_of name)) (own h)) 0 hs) names
    ∙ any_swap (λ (name : Name) (h : Held). list_any (same_name (name_of name)) (own h)) names hs
    ∙ any_same (λ (h : Held). list_any (λ (name : Name). list_any (same_name (name_of name)) (own h)) names) (λ (h : Held). is_named (map name_of names) h.card) (λ h. named_of h names) hs
    ∙ sym (any_map (is_named (map name_of names)) (λ (h : Held). h.card) hs)

pub any_live_had-is : (hs : List Held) (names : List Name) → list_any (λ (name : Name). any_live_has (name_of name).value name.kind hs) names ≡ any_live_named (cards_of hs) (map name_of names)
any_live_had-is hs names =
    let own : Held → List NameOf = λ h. h.card.given.names in
    any_swap (λ (name : Name) (h : Held). live h.card && list_any (same_name (name_of name)) (own h)) names hs
    ∙ any_same (λ (h : Held). list_any (λ (name : Name). live h.card && list_any (same_name (name_of name)) (own h)) names) (λ (h : Held). live h.card && is_named (map name_of names) h.card)
    (λ h. sym (any_and (live h.card) (λ (name : Name). list_any (same_name (name_of name)) (own h)) names) ∙ ap (λ (b : Bool). live h.card && b) (named_of h names)) hs
    ∙ sym (any_map (λ (c : Card). live c && is_named (map name_of names) c) (λ (h : Held). h.card) hs)
