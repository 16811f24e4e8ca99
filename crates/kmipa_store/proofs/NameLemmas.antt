-- What the names that are listed say of the objects.
use Rattle.std.proofs.Common.{◌≡◌, ◌≢◌, ◌<◌, ◌≤◌, ◌&&◌, ◌||◌, ◌-◌, ◌+◌, ℕ, zero, suc, Bool, true, false, not, nat_lt, nat_le, cond, List, [], ◌∷◌, ◌++◌, length, map, take, Option, Some, None, Result, Ok, Err, slice_get, refl, ap, sym, ◌∙◌, subst, inl, inr, arith}
use Rattle.std.specs.declared.cmp.Ordering.{Ordering}
use Rattle.std.specs.declared.cmp.Ordering.TheVariants.{Less, Equal, Greater}
use Rattle.std.specs.declared.ops.Bound.TheVariants.{Included, Excluded}
use Rattle.std.specs.Ordering.{nat_cmp, is_eq, is_le, ordering_then}
use Rattle.std.specs.Cmp.{IsTotalOrder, on_total, then_total}
use Rattle.std.specs.List.{AllByRecursion, list_any, filter}
use Rattle.std.specs.List.Sorted.{IsStrictlySortedBy}
use Rattle.std.specs.BTreeMap.{is_at}
use Rattle.std.specs.BTreeMap.Range.{range_contains}
use Rattle.std.specs.BTreeSet.{insert_key}
use Rattle.std.specs.Set.{remove_key}
use Rattle.std.proofs.lemmas.Bool.{and_parts, false_from_ne_true}
use Rattle.std.proofs.lemmas.Bool.Decides.{nat_tests}
use Rattle.std.proofs.lemmas.Cmp.{nat_cmp_total, ranked, tied_itself}
use Rattle.std.proofs.lemmas.List.Folds.{list_any-append}
use Rattle.std.proofs.lemmas.List.Kept.{IsStrictlySortedBy-filter}
use Rattle.std.proofs.lemmas.Map.Keys.{sorted_head, sorted_tail}
use Rattle.std.proofs.lemmas.Map.Views.{any-filter_same}
use Rattle.kmipa_attrs.specs.Sets.{NameOf}
use Rattle.kmipa_object.specs.Inventory.{live}
use Rattle.kmipa_object.specs.declared.life.Life.{Life}
use Rattle.kmipa_object.proofs.ListLemmas.{get_below, get-append_cases}
use Rattle.kmipa_store.specs.Hashes.{name_hash}
use Rattle.kmipa_store.specs.Ledger.{Held, relived}
use Rattle.kmipa_store.specs.Objects.{become, exchanged}
use Rattle.kmipa_store.specs.Queries.{is_name, has_name, next_named, any_live_named}
use Rattle.kmipa_store.specs.Bearers.{bears, bears_of, bears_live, bears_live_of, is_named_at}
use Rattle.kmipa_store.specs.Names.{AreListed, Covers, Keeps, KeepsOthers, ListsAgain, Named, Notes, is_listed, named_cmp}
use Rattle.kmipa_store.specs.declared.fault.StoreFault.{StoreFault}
use Rattle.kmipa_store.specs.declared.names.Names.{Names}
use Rattle.kmipa_store.proofs.BearerLemmas.{any_there, bears_at, bears_live_at, bears_somewhere, first_place, name_at, name_is, named_at, no_place, none_there}
use Rattle.kmipa_store.proofs.OrderLemmas.{equal_at, found_inserted, still_found, still_there}
use Rattle.kmipa_store.proofs.SoundLemmas.{relived_from, updated_from}

pub length-map : {X Y : Type 0} (f : X → Y) (xs : List X) → length (map f xs) ≡ length xs
length-map f [] = refl
length-map f (x ∷ xs) = ap suc (length-map f xs)

pub hash_same : (value : List ℕ) (kind : ℕ) (n : NameOf) → is_name value kind n ≡ true → name_hash n.value n.kind ≡ name_hash value kind
hash_same value kind n is =
    let e = name_is value kind n is in
    ap (λ (v : List ℕ). name_hash v n.kind) (sym e.0) ∙ ap (λ (k : ℕ). name_hash value k) (sym e.1)

-- the order
named_total : IsTotalOrder named_cmp
named_total = then_total (then_total (on_total (λ (x : Named). x.0) nat_cmp_total) (on_total (λ (x : Named). x.1) nat_cmp_total)) (on_total (λ (x : Named). x.2) nat_cmp_total)

pub named_itself : (x : Named) → named_cmp x x ≡ Equal
named_itself x = tied_itself named_total x

both_equal : (a b : Ordering) → ordering_then a b ≡ Equal → (a ≡ Equal) × (b ≡ Equal)
both_equal Less b e = let bad : ⊥ = cc in absurd bad
both_equal Equal b e = (refl, e)
both_equal Greater b e = let bad : ⊥ = cc in absurd bad

number_same : (a b : ℕ) → nat_cmp a b ≡ Equal → a ≡ b
number_same a b e = ranked a b Equal (sym e)

pub named_same : (hash p s : ℕ) (x : Named) → named_cmp (hash, p, s) x ≡ Equal → (hash ≡ x.0) × (p ≡ x.1) × (s ≡ x.2)
named_same hash p s x e =
    let a = both_equal (ordering_then (nat_cmp hash x.0) (nat_cmp p x.1)) (nat_cmp s x.2) e in
    let b = both_equal (nat_cmp hash x.0) (nat_cmp p x.1) a.0 in
    (number_same hash x.0 b.0, number_same p x.1 b.1, number_same s x.2 a.1)

is_named : (hash p s : ℕ) (x : Named) → named_cmp (hash, p, s) x ≡ Equal → (hash, p, s) ≡ x
is_named hash p s x e =
    let q = named_same hash p s x e in
    ap (λ (h : ℕ). (h, p, s)) q.0 ∙ ap (λ (n : ℕ). (x.0, n, s)) q.1 ∙ ap (λ (n : ℕ). (x.0, x.1, n)) q.2

pub less_than : (a b : ℕ) → a < b → nat_cmp a b ≡ Less
less_than a b h = (elim (nat_cmp a b) as (λ o. nat_cmp a b ≡ o → o ≡ Less) [
  | Less ↦ λ e. refl
  | Equal ↦ λ e. let bad : a ≡ b = ranked a b Equal (sym e) in absurd (omega (arith, bad, h))
  | Greater ↦ λ e. let bad : b < a = ranked a b Greater (sym e) in absurd (omega (arith, bad, h))
]) refl

greater_than : (a b : ℕ) → b < a → nat_cmp a b ≡ Greater
greater_than a b h = (elim (nat_cmp a b) as (λ o. nat_cmp a b ≡ o → o ≡ Greater) [
  | Less ↦ λ e. let bad : a < b = ranked a b Less (sym e) in absurd (omega (arith, bad, h))
  | Equal ↦ λ e. let bad : a ≡ b = ranked a b Equal (sym e) in absurd (omega (arith, bad, h))
  | Greater ↦ λ e. refl
]) refl

at_most : (a b : ℕ) → a ≤ b → is_le (nat_cmp a b) ≡ true
at_most a b h = (elim (nat_cmp a b) as (λ o. nat_cmp a b ≡ o → is_le o ≡ true) [
  | Less ↦ λ e. refl
  | Equal ↦ λ e. refl
  | Greater ↦ λ e. let bad : b < a = ranked a b Greater (sym e) in absurd (omega (arith, bad, h))
]) refl

-- what is listed under a hash for the places from one on and below another
abbrev pub under : ℕ → ℕ → ℕ → List Named → List Named
under hash from end listed = filter (range_contains named_cmp (Included (hash, from, 0)) (Excluded (hash, end, 0))) listed

pub tied : (hash : ℕ) → nat_cmp hash hash ≡ Equal
tied hash = tied_itself nat_cmp_total hash

from_start : (hash from p s : ℕ) → from ≤ p → is_le (named_cmp (hash, from, 0) (hash, p, s)) ≡ true
from_start hash from p s h =
    ap (λ o. is_le (ordering_then (ordering_then o (nat_cmp from p)) (nat_cmp 0 s))) (tied hash)
    ∙ (elim (nat_cmp from p) as (λ o. nat_cmp from p ≡ o → is_le (ordering_then o (nat_cmp 0 s)) ≡ true) [
      | Less ↦ λ e. refl
      | Equal ↦ λ e. at_most 0 s (omega arith)
      | Greater ↦ λ e. let bad : p < from = ranked from p Greater (sym e) in absurd (omega (arith, bad, h))
    ]) refl

below_end : (hash end p s : ℕ) → p < end → is_le (named_cmp (hash, end, 0) (hash, p, s)) ≡ false
below_end hash end p s h =
    ap (λ o. is_le (ordering_then (ordering_then o (nat_cmp end p)) (nat_cmp 0 s))) (tied hash) ∙ ap (λ o. is_le (ordering_then o (nat_cmp 0 s))) (greater_than end p h)

pub still_under : (hash from end : ℕ) (listed : List Named) (p s : ℕ) → from ≤ p → p < end → is_listed listed hash p s ≡ true → is_listed (under hash from end listed) hash p s ≡ true
still_under hash from end listed p s a b h =
    any-filter_same (is_at (named_cmp (hash, p, s))) (range_contains named_cmp (Included (hash, from, 0)) (Excluded (hash, end, 0))) true (λ x is.
    ap (range_contains named_cmp (Included (hash, from, 0)) (Excluded (hash, end, 0))) (sym (is_named hash p s x (equal_at (named_cmp (hash, p, s) x) is)))
    ∙ ap (λ (t : Bool). t && not (is_le (named_cmp (hash, end, 0) (hash, p, s)))) (from_start hash from p s a) ∙ ap not (below_end hash end p s b)) listed
    ∙ h

inside_is : (hash from end : ℕ) (x : Named) → range_contains named_cmp (Included (hash, from, 0)) (Excluded (hash, end, 0)) x ≡ true → (hash ≡ x.0) × (from ≤ x.1)
inside_is hash from end x h =
    let parts = and_parts (is_le (named_cmp (hash, from, 0) x)) (not (is_le (named_cmp (hash, end, 0) x))) h in
    (elim (nat_cmp hash x.0) as (λ o. nat_cmp hash x.0 ≡ o → is_le (ordering_then (ordering_then o (nat_cmp from x.1)) (nat_cmp 0 x.2)) ≡ true
    → not (is_le (ordering_then (ordering_then o (nat_cmp end x.1)) (nat_cmp 0 x.2))) ≡ true → (hash ≡ x.0) × (from ≤ x.1)) [
      | Less ↦ λ e a b. let bad : ⊥ = cc in absurd bad
      | Equal ↦ λ e a b. (
        number_same hash x.0 e,
        (elim (nat_cmp from x.1) as (λ o. nat_cmp from x.1 ≡ o → is_le (ordering_then o (nat_cmp 0 x.2)) ≡ true → from ≤ x.1) [
          | Less ↦ λ f c. let l : from < x.1 = ranked from x.1 Less (sym f) in omega (arith, l)
          | Equal ↦ λ f c. let l : from ≡ x.1 = number_same from x.1 f in omega (arith, l)
          | Greater ↦ λ f c. let bad : ⊥ = cc in absurd bad
        ]) refl a,
      )
      | Greater ↦ λ e a b. let bad : ⊥ = cc in absurd bad
    ]) refl parts.0 parts.1

-- what is left of it: all of it is under the hash, in order
pub record Rests (hash from : ℕ) (rest : List Named) : Type 0 where
  pub sorted : IsStrictlySortedBy named_cmp rest
  pub inside : AllByRecursion (λ (x : Named). (hash ≡ x.0) × (from ≤ x.1)) rest

all_inside : (hash from end : ℕ) (listed : List Named) → AllByRecursion (λ (x : Named). (hash ≡ x.0) × (from ≤ x.1)) (under hash from end listed)
all_inside hash from end [] = tt
all_inside hash from end (x ∷ xs) =
    let test : Named → Bool = range_contains named_cmp (Included (hash, from, 0)) (Excluded (hash, end, 0)) in
    (elim (test x) as (λ t. test x ≡ t → AllByRecursion (λ (y : Named). (hash ≡ y.0) × (from ≤ y.1)) (cond t (x ∷ filter test xs) (filter test xs))) [
      | true ↦ λ e. (inside_is hash from end x e, all_inside hash from end xs)
      | false ↦ λ e. all_inside hash from end xs
    ]) refl

pub rests_start : (hash from end : ℕ) (listed rest : List Named) → rest ≡ under hash from end listed → IsStrictlySortedBy named_cmp listed → Rests hash from rest
rests_start hash from end listed rest e sorted =
    subst (λ (x : List Named). Rests hash from x) (sym e)
    (record { sorted = IsStrictlySortedBy-filter named_cmp (range_contains named_cmp (Included (hash, from, 0)) (Excluded (hash, end, 0))) listed sorted; inside = all_inside hash from end listed })

pub rests_on : (hash from : ℕ) (one : Named) (rest : List Named) → Rests hash from (one ∷ rest) → Rests hash from rest
rests_on hash from one rest r = record { sorted = sorted_tail named_cmp one rest r.sorted; inside = r.inside.1 }

or_false : (b : Bool) → (b || false) ≡ true → b ≡ true
or_false true e = refl
or_false false e = e

-- the names that are looked for are among those that are left
pub record Seeks (passes : ℕ → ℕ → Bool) (hash : ℕ) (rest : List Named) : Type 0 where
  pub left : (p s : ℕ) → passes p s ≡ true → is_listed rest hash p s ≡ true

module _ (passes : ℕ → ℕ → Bool) (hash : ℕ) where
  not_it : (one : Named) (p s : ℕ) → passes one.1 one.2 ≡ false → passes p s ≡ true → is_at (named_cmp (hash, p, s)) one ≡ false
  not_it one p s fails is = false_from_ne_true (is_at (named_cmp (hash, p, s)) one) (λ e.
      let q = named_same hash p s one (equal_at (named_cmp (hash, p, s) one) e) in
      let clash : true ≡ false = sym is ∙ ap (λ (n : ℕ). passes n s) q.1 ∙ ap (passes one.1) q.2 ∙ fails in
      cc)

  pub seeks_on : (one : Named) (rest : List Named) → passes one.1 one.2 ≡ false → Seeks passes hash (one ∷ rest) → Seeks passes hash rest
  seeks_on one rest fails k = record {
    left = λ p s is. ap (λ (b : Bool). b || is_listed rest hash p s) (sym (not_it one p s fails is)) ∙ k.left p s is;
  }

  pub seeks_back : (rest : List Named) (one : Named) → passes one.1 one.2 ≡ false → Seeks passes hash (rest ++ one ∷ []) → Seeks passes hash rest
  seeks_back rest one fails k = record {
    left = λ p s is.
        let test : Named → Bool = is_at (named_cmp (hash, p, s)) in
        let none : list_any test (one ∷ []) ≡ false = ap (λ (b : Bool). b || false) (not_it one p s fails is) in
        let either : (list_any test rest || false) ≡ true = ap (λ (b : Bool). list_any test rest || b) (sym none) ∙ sym (list_any-append test rest (one ∷ [])) ∙ k.left p s is in
        or_false (list_any test rest) either;
  }

-- below the first of what is left nothing is left
all_below : (x k : Named) (ks : List Named) → named_cmp x k ≡ Less → AllByRecursion (λ (y : Named). named_cmp k y ≡ Less) ks → list_any (is_at (named_cmp x)) ks ≡ false
all_below x k [] e a = refl
all_below x k (y ∷ ys) e a = ap (λ o. is_eq o || list_any (is_at (named_cmp x)) ys) (named_total.trans x k y e a.0) ∙ all_below x k ys e a.1

pub none_before : (x one : Named) (rest : List Named) → IsStrictlySortedBy named_cmp (one ∷ rest) → named_cmp x one ≡ Less → list_any (is_at (named_cmp x)) (one ∷ rest) ≡ false
none_before x one rest sorted e = ap (λ o. is_eq o || list_any (is_at (named_cmp x)) rest) e ∙ all_below x one rest e (sorted_head named_cmp one rest sorted)

-- a name that is had is listed
listed_bearer : (names : Names) (objects : List Held) (p s : ℕ) (value : List ℕ) (kind : ℕ) → Covers names objects → bears objects p s value kind ≡ true
    → (p < length objects) × (is_listed names.by_hash.keys (name_hash value kind) p s ≡ true)
listed_bearer names objects p s value kind c is =
    let h = bears_at objects p s value kind is in
    let n = name_at h.0 s value kind h.2 in
    (get_below objects p h.0 h.1, ap (λ (k : ℕ). is_listed names.by_hash.keys k p s) (sym (hash_same value kind n.0 n.2)) ∙ c.all p h.0 h.1 s n.0 n.1)

-- the test of the first place from one on
abbrev pub bears_from : List Held → ℕ → List ℕ → ℕ → ℕ → ℕ → Bool
bears_from objects from value kind p s = nat_le from p && bears objects p s value kind

abbrev pub bears_now : List Held → List ℕ → ℕ → ℕ → ℕ → Bool
bears_now objects value kind p s = bears_live objects p s value kind

module _ (names : Names) (objects : List Held) (value : List ℕ) (kind hash : ℕ) (covers : Covers names objects) (is : hash ≡ name_hash value kind) where
  there : (from end p s : ℕ) → end ≡ length objects → from ≤ p → bears objects p s value kind ≡ true → is_listed (under hash from end names.by_hash.keys) hash p s ≡ true
  there from end p s count le has =
      let l = listed_bearer names objects p s value kind covers has in
      let below = l.0 in
      still_under hash from end names.by_hash.keys p s le (omega (arith, below, count)) (ap (λ (k : ℕ). is_listed names.by_hash.keys k p s) is ∙ l.1)

  pub next_start : (from end : ℕ) (rest : List Named) → end ≡ length objects → rest ≡ under hash from end names.by_hash.keys → Seeks (bears_from objects from value kind) hash rest
  next_start from end rest count e = record {
    left = λ p s passes.
        let parts = and_parts (nat_le from p) (bears objects p s value kind) passes in
        ap (λ (x : List Named). is_listed x hash p s) e ∙ there from end p s count (grind (arith, nat_tests, parts.0)) parts.1;
  }

  pub live_start : (end : ℕ) (rest : List Named) → end ≡ length objects → rest ≡ under hash 0 end names.by_hash.keys → Seeks (bears_now objects value kind) hash rest
  live_start end rest count e = record {
    left = λ p s passes.
        let h = bears_live_at objects p s value kind passes in
        ap (λ (x : List Named). is_listed x hash p s) e ∙ there 0 end p s count (omega arith) (ap (λ (o : Option Held). bears_of o s value kind) h.1 ∙ h.3);
  }

module _ (objects : List Held) (value : List ℕ) (kind : ℕ) where
  from_passes : (from q s : ℕ) (h : Held) → from ≤ q → slice_get objects q ≡ Some h → is_named_at h s value kind ≡ true → bears_from objects from value kind q s ≡ true
  from_passes from q s h le at has =
      let e : nat_le from q ≡ true = grind (arith, nat_tests, le) in
      ap (λ (b : Bool). b && bears objects q s value kind) e ∙ ap (λ (o : Option Held). bears_of o s value kind) at ∙ has

  -- the first that is left and has the name
  pub next_here : (hash from : ℕ) (one : Named) (rest : List Named) → bears objects one.1 one.2 value kind ≡ true → Seeks (bears_from objects from value kind) hash (one ∷ rest) → Rests hash from (one ∷ rest)
      → next_named value kind from objects ≡ Some one.1
  next_here hash from one rest is k r =
      let h = bears_at objects one.1 one.2 value kind is in
      first_place (has_name value kind) objects from one.1 h.0 r.inside.0.1 h.1 (named_at h.0 one.2 value kind h.2) (λ q g ge lt at. false_from_ne_true (has_name value kind g) (λ found.
      let s = bears_somewhere objects q g value kind at found in
      let less : named_cmp (hash, q, s.0) one ≡ Less =
      ap (λ (n : ℕ). ordering_then (ordering_then (nat_cmp hash n) (nat_cmp q one.1)) (nat_cmp s.0 one.2)) (sym r.inside.0.0)
      ∙ ap (λ o. ordering_then (ordering_then o (nat_cmp q one.1)) (nat_cmp s.0 one.2)) (tied hash) ∙ ap (λ o. ordering_then o (nat_cmp s.0 one.2)) (less_than q one.1 lt) in
      let clash : true ≡ false = sym (k.left q s.0 (from_passes from q s.0 g ge at s.1)) ∙ none_before (hash, q, s.0) one rest r.sorted less in
      cc))

  pub next_none : (hash from : ℕ) → Seeks (bears_from objects from value kind) hash [] → next_named value kind from objects ≡ None
  next_none hash from k = no_place (has_name value kind) objects from (λ q g ge at. false_from_ne_true (has_name value kind g) (λ found.
      let s = bears_somewhere objects q g value kind at found in
      let clash : false ≡ true = k.left q s.0 (from_passes from q s.0 g ge at s.1) in
      cc))

  pub next_past : (from : ℕ) → length objects < from → next_named value kind from objects ≡ None
  next_past from past = no_place (has_name value kind) objects from (λ q g ge at. let below = get_below objects q g at in absurd (omega (arith, below, past, ge)))

  pub next_within : (p s : ℕ) → bears objects p s value kind ≡ true → p < length objects
  next_within p s is = let h = bears_at objects p s value kind is in get_below objects p h.0 h.1

  -- one that fails is not the one looked for
  pub fails_from : (from p s : ℕ) → bears objects p s value kind ≡ false → bears_from objects from value kind p s ≡ false
  fails_from from p s is = false_from_ne_true (bears_from objects from value kind p s) (λ e.
      let parts = and_parts (nat_le from p) (bears objects p s value kind) e in
      let clash : true ≡ false = sym parts.1 ∙ is in
      cc)

  pub live_here : (p s : ℕ) → bears_live objects p s value kind ≡ true → any_live_named value kind objects ≡ true
  live_here p s is =
      let h = bears_live_at objects p s value kind is in
      any_there (λ (g : Held). live g.card && has_name value kind g) objects p h.0 h.1 (ap (λ (b : Bool). b && has_name value kind h.0) h.2 ∙ named_at h.0 s value kind h.3)

  pub live_none : (hash : ℕ) → Seeks (bears_now objects value kind) hash [] → any_live_named value kind objects ≡ false
  live_none hash k = none_there (λ (g : Held). live g.card && has_name value kind g) objects (λ q g at. false_from_ne_true (live g.card && has_name value kind g) (λ found.
      let parts = and_parts (live g.card) (has_name value kind g) found in
      let s = bears_somewhere objects q g value kind at parts.1 in
      let is : bears_live objects q s.0 value kind ≡ true =
      ap (λ (o : Option Held). bears_live_of o s.0 value kind) at ∙ ap (λ (b : Bool). b && is_named_at g s.0 value kind) parts.0 ∙ s.1 in
      let clash : false ≡ true = k.left q s.0 is in
      cc))

-- objects with the names that they had
covers_fewer : (names : Names) (hs gs : List Held) → ((p : ℕ) (g : Held) → slice_get gs p ≡ Some g → (h : Held) × (slice_get hs p ≡ Some h) × (g.card.given.names ≡ h.card.given.names)) → Covers names hs → Covers names gs
covers_fewer names hs gs f c = record {
  all = λ p g at.
      let r = f p g at in
      let P : List NameOf → Type 0 = λ ns. AreListed names p ns in
      subst P (sym r.2) (c.all p r.0 r.1);
}

pub taken_from : (hs : List Held) (n p : ℕ) (g : Held) → slice_get (take n hs) p ≡ Some g → slice_get hs p ≡ Some g
taken_from [] zero p g e = e
taken_from [] (suc n) p g e = e
taken_from (h ∷ hs) zero p g e = cc
taken_from (h ∷ hs) (suc n) zero g e = e
taken_from (h ∷ hs) (suc n) (suc p) g e = taken_from hs n p g e

pub covers_relived : (names : Names) (hs : List Held) (place : ℕ) (life : Life) → Covers names hs → Covers names (relived hs place life)
covers_relived names hs place life = covers_fewer names hs (relived hs place life) (λ p g at.
    let r = relived_from hs place p life g at in
    (r.0, r.1, elim r.2 [ inl a ↦ ap (λ (x : Held). x.card.given.names) a | inr b ↦ ap (λ (x : Held). x.card.given.names) b.1 ]))

-- another object at a place, whose names are listed there
pub covers_exchanged : (old new : Names) (hs : List Held) (place : ℕ) (h : Held) → Covers old hs → Keeps old new → AreListed new place h.card.given.names → Covers new (exchanged hs place h)
covers_exchanged old new hs place h c keeps lists = record {
  all = λ p g at.
      let r = updated_from hs place p (λ x. become x h) g at in
      let P : Held → Type 0 = λ x. AreListed new p x.card.given.names in
      let Q : ℕ → Type 0 = λ k. AreListed new k h.card.given.names in
      elim r.2 [
        | inl a ↦ subst P (sym a) (λ s n e. keeps (name_hash n.value n.kind) p s (c.all p r.0 r.1 s n e))
        | inr b ↦ subst P (sym b.1) (subst Q (sym b.0) lists)
      ];
}

-- and what went back to a place
pub covers_back : (listed result : Bool) (old new : Names) (hs ys : List Held) (place : ℕ) (h : Held) (ns : List NameOf) → (listed ≡ true → Covers old hs) → ListsAgain old listed place ns result new → ns ≡ h.card.given.names
    → ys ≡ exchanged hs place h → result ≡ true → Covers new ys
covers_back listed result old new hs ys place h ns knows lists named e whole =
    let l = lists whole in
    subst (λ (x : List Held). Covers new x) (sym e) (covers_exchanged old new hs place h (knows l.0) l.1 (subst (λ (x : List NameOf). AreListed new place x) named l.2))

pub taken_below : {X : Type 0} (xs : List X) (n p : ℕ) (x : X) → slice_get (take n xs) p ≡ Some x → p < n
taken_below [] zero p x e = let bad : ⊥ = cc in absurd bad
taken_below [] (suc n) p x e = let bad : ⊥ = cc in absurd bad
taken_below (y ∷ ys) zero p x e = let bad : ⊥ = cc in absurd bad
taken_below (y ∷ ys) (suc n) zero x e = omega arith
taken_below (y ∷ ys) (suc n) (suc p) x e = let b = taken_below ys n p x e in omega (arith, b)

pub covers_popped : (old new : Names) (hs : List Held) → Covers old hs → KeepsOthers old (length hs - 1) new → Covers new (take (length hs - 1) hs)
covers_popped old new hs c keeps = record {
  all = λ p g at s n e.
      let below = taken_below hs (length hs - 1) p g at in
      let other : p ≢ length hs - 1 = λ same. absurd (omega (arith, below, same)) in
      keeps (name_hash n.value n.kind) p s other (c.all p g (taken_from hs (length hs - 1) p g at) s n e);
}

-- more that is listed
pub covers_more : (old new : Names) (hs : List Held) → Covers old hs → Keeps old new → Covers new hs
covers_more old new hs c keeps = record { all = λ p g at s n e. keeps (name_hash n.value n.kind) p s (c.all p g at s n e) }

-- one object more, whose names were listed
pub covers_pushed : (old new : Names) (hs ys : List Held) (h : Held) (place : ℕ) → Covers old hs → place ≡ length hs → Keeps old new → AreListed new place h.card.given.names → ys ≡ hs ++ h ∷ [] → Covers new ys
covers_pushed old new hs ys h place c is keeps lists e =
    subst (λ (x : List Held). Covers new x) (sym e)
    (record {
      all = λ p g at. elim (get-append_cases hs h p g at) [
        | inl f ↦ (covers_more old new hs c keeps).all p g f
        | inr f ↦
            let Q : Held → Type 0 = λ x. AreListed new p x.card.given.names in
            let R : ℕ → Type 0 = λ k. AreListed new k h.card.given.names in
            subst Q (sym f.1) (subst R (is ∙ sym f.0) lists)
      ];
    })

-- a name listed no longer
pub others_start : (old : Names) (gone : ℕ) → KeepsOthers old gone old
others_start old gone hash p s other h = h

pub others_on : (old mid new : Names) (gone hash slot : ℕ) → KeepsOthers old gone mid → new.by_hash.keys ≡ remove_key (is_at (named_cmp (hash, gone, slot))) mid.by_hash.keys → KeepsOthers old gone new
others_on old mid new gone hash slot keeps e k p s other h =
    ap (λ (ks : List Named). is_listed ks k p s) e
    ∙ still_there (is_at (named_cmp (k, p, s))) (is_at (named_cmp (hash, gone, slot))) (λ x is. false_from_ne_true (is_at (named_cmp (hash, gone, slot)) x) (λ also.
    let one = named_same k p s x (equal_at (named_cmp (k, p, s) x) is) in
    let two = named_same hash gone slot x (equal_at (named_cmp (hash, gone, slot) x) also) in
    other (one.1 ∙ sym two.1))) mid.by_hash.keys (keeps k p s other h)

-- whatever `note` answers
pub covers_noted : (old new : Names) (hs : List Held) (place : ℕ) (ns : List NameOf) (r : Result (Unit {0}) StoreFault) → Covers old hs → Notes old place ns r new → Covers new hs
covers_noted old new hs place ns (Ok u) c l = covers_more old new hs c l.0
covers_noted old new hs place ns (Err f) c l = covers_more old new hs c l.1

-- the names listed so far, of those of the object at a place
pub record Listing (old : Names) (place : ℕ) (ns : List NameOf) (count : ℕ) (now : Names) : Type 0 where
  pub keeps : Keeps old now
  pub lists : (s : ℕ) (n : NameOf) → s < count → slice_get ns s ≡ Some n → is_listed now.by_hash.keys (name_hash n.value n.kind) place s ≡ true

keeps_put : (mid new : Names) (x : Named) → new.by_hash.keys ≡ insert_key named_cmp mid.by_hash.keys x → Keeps mid new
keeps_put mid new x e hash p s h =
    ap (λ (ks : List Named). is_listed ks hash p s) e ∙ still_found named_cmp x (named_itself x) (is_at (named_cmp (hash, p, s))) mid.by_hash.keys h

pub listing_more : (old mid new : Names) (place : ℕ) (ns : List NameOf) (slot hash : ℕ) (m : NameOf) → Listing old place ns slot mid → slice_get ns slot ≡ Some m → hash ≡ name_hash m.value m.kind
    → new.by_hash.keys ≡ insert_key named_cmp mid.by_hash.keys (hash, place, slot) → Listing old place ns (slot + 1) new
listing_more old mid new place ns slot hash m g at is e =
    let keeps = keeps_put mid new (hash, place, slot) e in
    record {
      keeps = λ k p s h. keeps k p s (g.keeps k p s h);
      lists = λ s n lt of. (elim (nat_lt s slot) as (λ t. nat_lt s slot ≡ t → is_listed new.by_hash.keys (name_hash n.value n.kind) place s ≡ true) [
        | true ↦ λ b. keeps (name_hash n.value n.kind) place s (g.lists s n (grind (arith, nat_tests, b)) of)
        | false ↦ λ b.
            let past : slot ≤ s = grind (arith, nat_tests, b) in
            let same : s ≡ slot = omega (arith, past, lt) in
            let q : Some m ≡ Some n = sym at ∙ ap (slice_get ns) (sym same) ∙ of in
            let r : m ≡ n = cc in
            let here : name_hash n.value n.kind ≡ hash = ap (λ (x : NameOf). name_hash x.value x.kind) (sym r) ∙ sym is in
            ap (λ (ks : List Named). is_listed ks (name_hash n.value n.kind) place s) e
            ∙ ap (λ (k : ℕ). is_listed (insert_key named_cmp mid.by_hash.keys (hash, place, slot)) k place s) here
            ∙ ap (λ (k : ℕ). is_listed (insert_key named_cmp mid.by_hash.keys (hash, place, slot)) hash place k) same
            ∙ found_inserted named_cmp (hash, place, slot) (named_itself (hash, place, slot)) mid.by_hash.keys
      ]) refl;
    }

pub listing_all : (old now : Names) (place : ℕ) (ns : List NameOf) (count : ℕ) → Listing old place ns count now → length ns ≤ count → Keeps old now × AreListed now place ns
listing_all old now place ns count g h = (g.keeps, (λ s n e. let below : s < length ns = get_below ns s n e in g.lists s n (omega (arith, below, h)) e))
