-- Objects found by the hashes of their identifiers.
use Rattle.std.proofs.Common.{◌≡◌, ◌≢◌, ◌<◌, ◌≤◌, ◌||◌, ◌&&◌, ◌+◌, ℕ, zero, suc, Bool, true, false, cond, List, [], ◌∷◌, length, slice_get, Some, None, bytes_eq, refl, ap, sym, subst, ◌∙◌, arith}
use Rattle.std.specs.declared.cmp.Ordering.TheVariants.{Less, Equal, Greater}
use Rattle.std.specs.declared.ops.Bound.TheVariants.{Included, Unbounded}
use Rattle.std.specs.Ordering.{nat_cmp, is_eq, is_le, ordering_then}
use Rattle.std.specs.Cmp.{IsTotalOrder, on_total, then_total}
use Rattle.std.specs.List.{AllByRecursion, filter, position_from}
use Rattle.std.specs.List.Sorted.{IsStrictlySortedBy}
use Rattle.std.proofs.lemmas.List.Kept.{IsStrictlySortedBy-filter}
use Rattle.std.specs.BTreeMap.{is_at}
use Rattle.std.specs.BTreeMap.Range.{range_contains}
use Rattle.std.proofs.lemmas.Bool.{false_from_ne_true}
use Rattle.std.proofs.lemmas.Cmp.{nat_cmp_total, ranked, tied_itself}
use Rattle.std.proofs.lemmas.Map.Views.{any-filter_same}
use Rattle.std.proofs.lemmas.Slice.Eq.{bytes_eq-Decides}
use Rattle.kmipa_object.specs.Inventory.{Card, place_of}
use Rattle.kmipa_object.proofs.ListLemmas.{get_below}
use Rattle.kmipa_store.specs.Hashes.{id_hash}
use Rattle.kmipa_store.specs.Ledger.{Held, cards_of}
use Rattle.kmipa_store.specs.Objects.{Hashed, has_id, hashed_cmp, is_hashed}
use Rattle.kmipa_store.specs.Slots.{AreListed, AreNoted}
use Rattle.kmipa_store.specs.declared.slots.Slots.{Slots}
use Rattle.kmipa_store.proofs.OrderLemmas.{equal_at}

hashed_total : IsTotalOrder hashed_cmp
hashed_total = then_total (on_total (λ (x : Hashed). x.0) nat_cmp_total) (on_total (λ (x : Hashed). x.1) nat_cmp_total)

pub hashed_itself : (x : Hashed) → hashed_cmp x x ≡ Equal
hashed_itself x = tied_itself hashed_total x

same_parts : (a b p q : ℕ) → hashed_cmp (a, p) (b, q) ≡ Equal → (a ≡ b) × (p ≡ q)
same_parts a b p q e = (elim (nat_cmp a b) as (λ o. nat_cmp a b ≡ o → ordering_then o (nat_cmp p q) ≡ Equal → (a ≡ b) × (p ≡ q)) [
  | Less ↦ λ i h. cc
  | Equal ↦ λ i h. (ranked a b Equal (sym i), ranked p q Equal (sym h))
  | Greater ↦ λ i h. cc
]) refl e

same_hashed : (x y : Hashed) → hashed_cmp x y ≡ Equal → x ≡ y
same_hashed x y e =
    let s = same_parts x.0 y.0 x.1 y.1 e in
    ap (λ (h : ℕ). (h, x.1)) s.0 ∙ ap (λ (p : ℕ). (y.0, p)) s.1

-- what is listed under the hash of an identifier from the first place on is left at first
not_below : (a p : ℕ) → is_le (hashed_cmp (a, 0) (a, p)) ≡ true
not_below a p =
    let same : nat_cmp a a ≡ Equal = tied_itself nat_cmp_total a in
    ap (λ o. is_le (ordering_then o (nat_cmp 0 p))) same
    ∙ (elim (nat_cmp 0 p) as (λ o. nat_cmp 0 p ≡ o → is_le o ≡ true) [ Less ↦ λ e. refl | Equal ↦ λ e. refl | Greater ↦ λ e. let bad : p < 0 = ranked 0 p Greater (sym e) in absurd (omega (arith, bad)) ]) refl

-- the places from the first of a hash on
abbrev pub from_hash : ℕ → List Hashed → List Hashed
from_hash hash places = filter (range_contains hashed_cmp (Included (hash, 0)) Unbounded) places

still_from : (hash : ℕ) (places : List Hashed) (p : ℕ) → is_hashed places hash p ≡ true → is_hashed (from_hash hash places) hash p ≡ true
still_from hash places p h =
    any-filter_same (is_at (hashed_cmp (hash, p))) (range_contains hashed_cmp (Included (hash, 0)) Unbounded) true (λ k is.
    let same : (hash, p) ≡ k = same_hashed (hash, p) k (equal_at (hashed_cmp (hash, p) k) is) in
    ap (range_contains hashed_cmp (Included (hash, 0)) Unbounded) (sym same) ∙ ap (λ (b : Bool). b && true) (not_below hash p)) places
    ∙ h

-- they rise, and none has a lower hash
pub record Rises (hash : ℕ) (rest : List Hashed) : Type 0 where
  pub sorted : IsStrictlySortedBy hashed_cmp rest
  pub above : AllByRecursion (λ (k : Hashed). hash ≤ k.0) rest

not_lower : (hash : ℕ) (k : Hashed) → range_contains hashed_cmp (Included (hash, 0)) Unbounded k ≡ true → hash ≤ k.0
not_lower hash k e = (elim (nat_cmp hash k.0) as (λ o. nat_cmp hash k.0 ≡ o → (is_le (ordering_then o (nat_cmp 0 k.1)) && true) ≡ true → hash ≤ k.0) [
  | Less ↦ λ i h. let low : hash < k.0 = ranked hash k.0 Less (sym i) in omega (arith, low)
  | Equal ↦ λ i h. let same : hash ≡ k.0 = ranked hash k.0 Equal (sym i) in omega (arith, same)
  | Greater ↦ λ i h. cc
]) refl e

above_at : (hash : ℕ) (k : Hashed) (ks : List Hashed) → AllByRecursion (λ (j : Hashed). hash ≤ j.0) (from_hash hash ks) → (b : Bool) → range_contains hashed_cmp (Included (hash, 0)) Unbounded k ≡ b
    → AllByRecursion (λ (j : Hashed). hash ≤ j.0) (cond b (k ∷ from_hash hash ks) (from_hash hash ks))
above_at hash k ks below true e = (not_lower hash k e, below)
above_at hash k ks below false e = below

above_all : (hash : ℕ) (places : List Hashed) → AllByRecursion (λ (k : Hashed). hash ≤ k.0) (from_hash hash places)
above_all hash [] = tt
above_all hash (k ∷ ks) = above_at hash k ks (above_all hash ks) (range_contains hashed_cmp (Included (hash, 0)) Unbounded k) refl

pub rises_start : (places : List Hashed) (hash : ℕ) (rest : List Hashed) → IsStrictlySortedBy hashed_cmp places → rest ≡ from_hash hash places → Rises hash rest
rises_start places hash rest sorted e = subst (Rises hash) (sym e) (record {
  sorted = IsStrictlySortedBy-filter hashed_cmp (range_contains hashed_cmp (Included (hash, 0)) Unbounded) places sorted;
  above = above_all hash places;
})

pub rises_on : (hash : ℕ) (one : Hashed) (rest : List Hashed) → Rises hash (one ∷ rest) → Rises hash rest
unfolding IsStrictlySortedBy
rises_on hash one rest r = record { sorted = r.sorted.1; above = r.above.1 }

lower : (a b p q : ℕ) → a < b → hashed_cmp (a, p) (b, q) ≡ Less
lower a b p q low = (elim (nat_cmp a b) as (λ o. nat_cmp a b ≡ o → ordering_then o (nat_cmp p q) ≡ Less) [
  | Less ↦ λ i. refl
  | Equal ↦ λ i. let same : a ≡ b = ranked a b Equal (sym i) in absurd (omega (arith, low, same))
  | Greater ↦ λ i. let high : b < a = ranked a b Greater (sym i) in absurd (omega (arith, low, high))
]) refl

no_lower : (x y : Hashed) → hashed_cmp x y ≡ Less → x.0 ≤ y.0
no_lower x y e = (elim (nat_cmp x.0 y.0) as (λ o. nat_cmp x.0 y.0 ≡ o → ordering_then o (nat_cmp x.1 y.1) ≡ Less → x.0 ≤ y.0) [
  | Less ↦ λ i h. let low : x.0 < y.0 = ranked x.0 y.0 Less (sym i) in omega (arith, low)
  | Equal ↦ λ i h. let same : x.0 ≡ y.0 = ranked x.0 y.0 Equal (sym i) in omega (arith, same)
  | Greater ↦ λ i h. cc
]) refl e

-- nothing is listed under a hash that is lower than all
none_listed : (hash p : ℕ) (one : Hashed) (rest : List Hashed) → hash < one.0 → AllByRecursion (λ (k : Hashed). hashed_cmp one k ≡ Less) rest → is_hashed rest hash p ≡ false
none_listed hash p one [] low less = refl
none_listed hash p one (k ∷ ks) low less =
    let up : one.0 ≤ k.0 = no_lower one k less.0 in
    ap (λ o. is_eq o || is_hashed ks hash p) (lower hash k.0 p k.1 (omega (arith, low, up))) ∙ none_listed hash p one ks low less.1

pub past_none : (hash p : ℕ) (one : Hashed) (rest : List Hashed) → Rises hash (one ∷ rest) → one.0 ≢ hash → is_hashed (one ∷ rest) hash p ≡ false
unfolding IsStrictlySortedBy
past_none hash p one rest r other =
    let from : hash ≤ one.0 = r.above.0 in
    let low : hash < one.0 = omega (arith, from, other) in
    ap (λ o. is_eq o || is_hashed rest hash p) (lower hash one.0 p one.1 low) ∙ none_listed hash p one rest low r.sorted.0

-- each object with the identifier is among those that are left
pub record Seeks (objects : List Held) (id : List ℕ) (hash : ℕ) (rest : List Hashed) : Type 0 where
  pub left : (p : ℕ) (h : Held) → slice_get objects p ≡ Some h → bytes_eq id h.card.id ≡ true → is_hashed rest hash p ≡ true

pub same_id : (id jd : List ℕ) → bytes_eq id jd ≡ true → id ≡ jd
same_id id jd e = (bytes_eq-Decides id jd).0 e

pub seeks_start : (slots : Slots) (objects : List Held) (id : List ℕ) (hash : ℕ) (rest : List Hashed) → hash ≡ id_hash id → rest ≡ from_hash hash slots.by_hash.keys
    → AreListed slots objects id → Seeks objects id hash rest
seeks_start slots objects id hash rest is e listed = record {
  left = λ p h at same.
      let places = slots.by_hash.keys in
      let here : is_hashed places hash p ≡ true = ap (λ (k : ℕ). is_hashed places k p) is ∙ listed p h at (same_id id h.card.id same) in
      ap (λ (ds : List Hashed). is_hashed ds hash p) e ∙ still_from hash places p here;
}

pub seeks_on : (objects : List Held) (id : List ℕ) (hash : ℕ) (one : Hashed) (rest : List Hashed) → has_id (slice_get objects one.1) id ≡ false → Seeks objects id hash (one ∷ rest) → Seeks objects id hash rest
seeks_on objects id hash one rest not_here s = record {
  left = λ p h at same.
      (elim (hashed_cmp (hash, p) one) as (λ o. hashed_cmp (hash, p) one ≡ o → (is_eq o || is_hashed rest hash p) ≡ true → is_hashed rest hash p ≡ true) [
        | Less ↦ λ e g. g
        | Equal ↦ λ e g.
            let here : p ≡ one.1 = (same_parts hash one.0 p one.1 e).1 in
            let found : has_id (slice_get objects one.1) id ≡ true = ap (λ (k : ℕ). has_id (slice_get objects k) id) (sym here) ∙ ap (λ o. has_id o id) at ∙ same in
            let clash : true ≡ false = sym found ∙ not_here in
            cc
        | Greater ↦ λ e g. g
      ]) refl (s.left p h at same);
}

pub none_from : (id : List ℕ) (objects : List Held) (i : ℕ) → ((p : ℕ) (h : Held) → slice_get objects p ≡ Some h → bytes_eq id h.card.id ≡ false) → position_from (λ (c : Card). bytes_eq id c.id) i (cards_of objects) ≡ None
none_from id [] i none = refl
none_from id (h ∷ hs) i none =
    ap (λ (b : Bool). cond b (Some i) (position_from (λ (c : Card). bytes_eq id c.id) (i + 1) (cards_of hs))) (none 0 h refl) ∙ none_from id hs (i + 1) (λ p g at. none (suc p) g at)

pub seeks_end : (objects : List Held) (id : List ℕ) (hash : ℕ) → Seeks objects id hash [] → place_of id (cards_of objects) ≡ None
seeks_end objects id hash s = none_from id objects 0 (λ p h at. false_from_ne_true (bytes_eq id h.card.id) (λ same. let bad : false ≡ true = s.left p h at same in cc))

pub seeks_past : (objects : List Held) (id : List ℕ) (hash : ℕ) (one : Hashed) (rest : List Hashed) → Rises hash (one ∷ rest) → one.0 ≢ hash → Seeks objects id hash (one ∷ rest) → place_of id (cards_of objects) ≡ None
seeks_past objects id hash one rest r other s =
    none_from id objects 0 (λ p h at. false_from_ne_true (bytes_eq id h.card.id) (λ same.
    let bad : false ≡ true = sym (past_none hash p one rest r other) ∙ s.left p h at same in
    cc))

-- the first object with an identifier that some object has
first_from : (id : List ℕ) (objects : List Held) (i p : ℕ) (h : Held) → slice_get objects p ≡ Some h → bytes_eq id h.card.id ≡ true
    → (q : ℕ) × (g : Held) × (slice_get objects q ≡ Some g) × (bytes_eq id g.card.id ≡ true) × (position_from (λ (c : Card). bytes_eq id c.id) i (cards_of objects) ≡ Some (i + q))
first_from id [] i p h at same = cc
first_from id (x ∷ xs) i zero h at same =
    let is : x ≡ h = cc in
    let e : bytes_eq id x.card.id ≡ true = ap (λ (y : Held). bytes_eq id y.card.id) is ∙ same in
    (0, x, refl, e, ap (λ (b : Bool). cond b (Some i) (position_from (λ (c : Card). bytes_eq id c.id) (i + 1) (cards_of xs))) e ∙ ap (λ (n : ℕ). Some n) (omega arith))
first_from id (x ∷ xs) i (suc p) h at same = (elim (bytes_eq id x.card.id) as (λ t. bytes_eq id x.card.id ≡ t
    → (q : ℕ) × (g : Held) × (slice_get (x ∷ xs) q ≡ Some g) × (bytes_eq id g.card.id ≡ true) × (cond t (Some i) (position_from (λ (c : Card). bytes_eq id c.id) (i + 1) (cards_of xs)) ≡ Some (i + q))) [
      | true ↦ λ e. (0, x, refl, e, ap (λ (n : ℕ). Some n) (omega arith))
      | false ↦ λ e.
          let r = first_from id xs (i + 1) p h at same in
          (suc r.0, r.1, r.2, r.3, r.4 ∙ ap (λ (n : ℕ). Some n) (omega arith))
    ]) refl

one_id : (id : List ℕ) (g h : Held) → bytes_eq id g.card.id ≡ true → bytes_eq id h.card.id ≡ true → g.card.id ≡ h.card.id
one_id id g h e f = sym (same_id id g.card.id e) ∙ same_id id h.card.id f

-- the object that was found is the first
pub found_here : (slots : Slots) (objects : List Held) (id : List ℕ) (p : ℕ) → AreNoted slots objects → has_id (slice_get objects p) id ≡ true → place_of id (cards_of objects) ≡ Some p
found_here slots objects id p a is = (elim (slice_get objects p) as (λ o. slice_get objects p ≡ o → has_id o id ≡ true → place_of id (cards_of objects) ≡ Some p) [
  | None ↦ λ at e. cc
  | Some h ↦ λ at e.
      let r = first_from id objects 0 p h at e in
      let same : r.0 ≡ p = a.distinct r.0 p r.1 h r.2 at (one_id id r.1 h r.3 e) in
      r.4 ∙ ap (λ (n : ℕ). Some n) (omega (arith, same))
]) refl is

pub found_within : (objects : List Held) (id : List ℕ) (p : ℕ) → has_id (slice_get objects p) id ≡ true → p < length objects
found_within objects id p is = (elim (slice_get objects p) as (λ o. slice_get objects p ≡ o → has_id o id ≡ true → p < length objects) [
  | None ↦ λ at e. cc
  | Some h ↦ λ at e. get_below objects p h at
]) refl is

pub itself : (id : List ℕ) → bytes_eq id id ≡ true
itself id = (bytes_eq-Decides id id).1 refl

-- no object has an identifier that has no place
pub none_has : (id : List ℕ) (objects : List Held) (p : ℕ) (h : Held) → place_of id (cards_of objects) ≡ None → slice_get objects p ≡ Some h → (h.card.id ≡ id) → ⊥
none_has id objects p h none at is =
    let e : bytes_eq id h.card.id ≡ true = ap (bytes_eq id) is ∙ itself id in
    let r = first_from id objects 0 p h at e in
    let clash : None ≡ Some (0 + r.0) = sym none ∙ r.4 in
    cc

-- what is listed with another place
pub apart_from : (a b p q : ℕ) → p ≢ q → (k : Hashed) → is_at (hashed_cmp (a, p)) k ≡ true → is_at (hashed_cmp (b, q)) k ≡ false
apart_from a b p q n k is = false_from_ne_true (is_at (hashed_cmp (b, q)) k) (λ also.
    let one : p ≡ k.1 = (same_parts a k.0 p k.1 (equal_at (hashed_cmp (a, p) k) is)).1 in
    let two : q ≡ k.1 = (same_parts b k.0 q k.1 (equal_at (hashed_cmp (b, q) k) also)).1 in
    n (one ∙ sym two))
