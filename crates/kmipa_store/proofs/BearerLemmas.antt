-- Objects that have a name, and the first of them.
use Rattle.std.proofs.Common.{◌≡◌, ◌<◌, ◌≤◌, ◌||◌, ◌==◌, ◌-◌, ◌+◌, ℕ, zero, suc, Bool, true, false, nat_lt, List, [], ◌∷◌, length, drop, Option, Some, None, slice_get, bytes_eq, refl, ap, sym, ◌∙◌, arith}
use Rattle.std.specs.List.{list_any, position_from}
use Rattle.std.proofs.lemmas.Bool.{and_parts}
use Rattle.std.proofs.lemmas.Bool.Decides.{nat_tests}
use Rattle.std.proofs.lemmas.Slice.Eq.{bytes_eq-Decides}
use Rattle.kmipa_attrs.specs.Sets.{NameOf}
use Rattle.kmipa_object.specs.Inventory.{live}
use Rattle.kmipa_object.proofs.ListLemmas.{below_get, get_below}
use Rattle.kmipa_store.specs.Ledger.{Held}
use Rattle.kmipa_store.specs.Queries.{is_name, has_name}
use Rattle.kmipa_store.specs.Bearers.{bears, bears_of, bears_live, bears_live_of, is_named_at, is_the_name}
use Rattle.kmipa_store.proofs.QueryLemmas.{position_here, position_on, position_past}

or_right : (a b : Bool) → b ≡ true → (a || b) ≡ true
or_right true b h = refl
or_right false b h = h

last_index : (i n : ℕ) → i < n → nat_lt i (n - 1) ≡ false → i ≡ n - 1
last_index i n h e = let le : n - 1 ≤ i = grind (arith, nat_tests, e) in omega (arith, h, le)

past_of : {X : Type 0} (xs : List X) (k : ℕ) → slice_get xs k ≡ None → length xs ≤ k
past_of [] k e = omega arith
past_of (x ∷ xs) zero e = cc
past_of (x ∷ xs) (suc k) e = let h : length xs ≤ k = past_of xs k e in omega (arith, h)

-- the first place of several
module _ {X : Type 0} (t : X → Bool) where
  first_gap : (xs : List X) (n from : ℕ) (x : X) → slice_get xs (from + n) ≡ Some x → t x ≡ true → ((q : ℕ) (y : X) → from ≤ q → q < from + n → slice_get xs q ≡ Some y → t y ≡ false)
      → position_from t from (drop from xs) ≡ Some (from + n)
  first_gap xs zero from x at is none =
      let e : from + 0 ≡ from = omega arith in
      position_here t xs from x (ap (slice_get xs) (sym e) ∙ at) is ∙ ap Some (sym e)
  first_gap xs (suc n) from x at is none =
      let below : from + suc n < length xs = get_below xs (from + suc n) x at in
      let here = below_get xs from (omega (arith, below)) in
      let e : (from + 1) + n ≡ from + suc n = omega arith in
      position_on t xs from here.0 here.1 (none from here.0 (omega arith) (omega arith) here.1)
      ∙ first_gap xs n (from + 1) x (ap (slice_get xs) e ∙ at) is (λ q y a b. none q y (omega (arith, a)) (omega (arith, b)))
      ∙ ap Some e

  pub first_place : (xs : List X) (from k : ℕ) (x : X) → from ≤ k → slice_get xs k ≡ Some x → t x ≡ true → ((q : ℕ) (y : X) → from ≤ q → q < k → slice_get xs q ≡ Some y → t y ≡ false)
      → position_from t from (drop from xs) ≡ Some k
  first_place xs from k x h at is none =
      let e : from + (k - from) ≡ k = omega (arith, h) in
      first_gap xs (k - from) from x (ap (slice_get xs) e ∙ at) is (λ q y a b. none q y a (omega (arith, b, e))) ∙ ap Some e

  none_gap : (xs : List X) (n from : ℕ) → length xs ≤ from + n → ((q : ℕ) (y : X) → from ≤ q → slice_get xs q ≡ Some y → t y ≡ false) → position_from t from (drop from xs) ≡ None
  none_gap xs zero from h none = position_past t xs from (omega (arith, h))
  none_gap xs (suc n) from h none = (elim (slice_get xs from) as (λ o. slice_get xs from ≡ o → position_from t from (drop from xs) ≡ None) [
    | None ↦ λ e. position_past t xs from (past_of xs from e)
    | Some y ↦ λ e. position_on t xs from y e (none from y (omega arith) e) ∙ none_gap xs n (from + 1) (omega (arith, h)) (λ q z a. none q z (omega (arith, a)))
  ]) refl

  pub no_place : (xs : List X) (from : ℕ) → ((q : ℕ) (y : X) → from ≤ q → slice_get xs q ≡ Some y → t y ≡ false) → position_from t from (drop from xs) ≡ None
  no_place xs from none = none_gap xs (length xs) from (omega arith) none

  pub any_there : (xs : List X) (k : ℕ) (x : X) → slice_get xs k ≡ Some x → t x ≡ true → list_any t xs ≡ true
  any_there [] k x e is = cc
  any_there (y ∷ ys) zero x e is = let q : y ≡ x = cc in ap (λ (b : Bool). b || list_any t ys) (ap t q ∙ is)
  any_there (y ∷ ys) (suc k) x e is = or_right (t y) (list_any t ys) (any_there ys k x e is)

  pub none_there : (xs : List X) → ((q : ℕ) (y : X) → slice_get xs q ≡ Some y → t y ≡ false) → list_any t xs ≡ false
  none_there [] none = refl
  none_there (y ∷ ys) none = ap (λ (b : Bool). b || list_any t ys) (none 0 y refl) ∙ none_there ys (λ q z e. none (suc q) z e)

  -- where one passes there is a first place of one
  pub place_there : (xs : List X) → list_any t xs ≡ true → (k : ℕ) × (x : X) × (slice_get xs k ≡ Some x) × (t x ≡ true)
  place_there [] e = let bad : ⊥ = cc in absurd bad
  place_there (y ∷ ys) e = (elim (t y) as (λ b. t y ≡ b → (b || list_any t ys) ≡ true → (k : ℕ) × (x : X) × (slice_get (y ∷ ys) k ≡ Some x) × (t x ≡ true)) [
    | true ↦ λ is h. (0, y, refl, is)
    | false ↦ λ is h. let r = place_there ys h in (suc r.0, r.1, r.2, r.3)
  ]) refl e

-- a name and the names of an object
pub name_is : (value : List ℕ) (kind : ℕ) (n : NameOf) → is_name value kind n ≡ true → (value ≡ n.value) × (kind ≡ n.kind)
name_is value kind n h =
    let b = and_parts (kind == n.kind) (bytes_eq value n.value) h in
    ((bytes_eq-Decides value n.value).0 b.1, grind (arith, nat_tests, b.0))

named_there : (ns : List NameOf) (s : ℕ) (value : List ℕ) (kind : ℕ) (o : Option NameOf) → slice_get ns s ≡ o → is_the_name o value kind ≡ true → list_any (is_name value kind) ns ≡ true
named_there ns s value kind None e h = let bad : ⊥ = cc in absurd bad
named_there ns s value kind (Some n) e h = any_there (is_name value kind) ns s n e h

has_of : (objects : List Held) (p s : ℕ) (value : List ℕ) (kind : ℕ) (o : Option Held) → slice_get objects p ≡ o → bears_of o s value kind ≡ true → (h : Held) × (slice_get objects p ≡ Some h) × (is_named_at h s value kind ≡ true)
has_of objects p s value kind None e is = let bad : ⊥ = cc in absurd bad
has_of objects p s value kind (Some h) e is = (h, e, is)

-- the object at a place where a name is
pub bears_at : (objects : List Held) (p s : ℕ) (value : List ℕ) (kind : ℕ) → bears objects p s value kind ≡ true → (h : Held) × (slice_get objects p ≡ Some h) × (is_named_at h s value kind ≡ true)
bears_at objects p s value kind is = has_of objects p s value kind (slice_get objects p) refl is

pub named_at : (h : Held) (s : ℕ) (value : List ℕ) (kind : ℕ) → is_named_at h s value kind ≡ true → has_name value kind h ≡ true
named_at h s value kind is = named_there h.card.given.names s value kind (slice_get h.card.given.names s) refl is

name_of_some : (ns : List NameOf) (s : ℕ) (value : List ℕ) (kind : ℕ) (o : Option NameOf) → slice_get ns s ≡ o → is_the_name o value kind ≡ true → (n : NameOf) × (slice_get ns s ≡ Some n) × (is_name value kind n ≡ true)
name_of_some ns s value kind None e is = let bad : ⊥ = cc in absurd bad
name_of_some ns s value kind (Some n) e is = (n, e, is)

pub name_at : (h : Held) (s : ℕ) (value : List ℕ) (kind : ℕ) → is_named_at h s value kind ≡ true → (n : NameOf) × (slice_get h.card.given.names s ≡ Some n) × (is_name value kind n ≡ true)
name_at h s value kind is = name_of_some h.card.given.names s value kind (slice_get h.card.given.names s) refl is

-- and an object with the name has it somewhere
pub bears_somewhere : (objects : List Held) (p : ℕ) (h : Held) (value : List ℕ) (kind : ℕ) → slice_get objects p ≡ Some h → has_name value kind h ≡ true → (s : ℕ) × (is_named_at h s value kind ≡ true)
bears_somewhere objects p h value kind at is =
    let n = place_there (is_name value kind) h.card.given.names is in
    (n.0, ap (λ (o : Option NameOf). is_the_name o value kind) n.2 ∙ n.3)

live_of : (objects : List Held) (p s : ℕ) (value : List ℕ) (kind : ℕ) (o : Option Held) → slice_get objects p ≡ o → bears_live_of o s value kind ≡ true
    → (h : Held) × (slice_get objects p ≡ Some h) × (live h.card ≡ true) × (is_named_at h s value kind ≡ true)
live_of objects p s value kind None e is = let bad : ⊥ = cc in absurd bad
live_of objects p s value kind (Some h) e is = let b = and_parts (live h.card) (is_named_at h s value kind) is in (h, e, b.0, b.1)

pub bears_live_at : (objects : List Held) (p s : ℕ) (value : List ℕ) (kind : ℕ) → bears_live objects p s value kind ≡ true
    → (h : Held) × (slice_get objects p ≡ Some h) × (live h.card ≡ true) × (is_named_at h s value kind ≡ true)
bears_live_at objects p s value kind is = live_of objects p s value kind (slice_get objects p) refl is
