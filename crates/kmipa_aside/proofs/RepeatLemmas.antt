-- Identifiers in a list: those that are looked at from behind, for repeats, and those that aren't set aside.
use Rattle.std.proofs.Common.{◌≡◌, ◌∙◌, ◌||◌, ◌+◌, ◌++◌, ◌≤◌, ◌<◌, ◌-◌, cond, not, refl, ap, sym, ℕ, zero, suc, Bool, true, false, if◌then◌else◌, List, [], ◌∷◌, length, drop, slice_get, Some, bytes_eq, arith, append_assoc, map}
use Rattle.std.specs.BTreeSet.{BTreeSet, contains_by}
use Rattle.std.specs.Cmp.Lexicographic.{slice_cmp}
use Rattle.std.specs.List.{list_any}
use Rattle.std.specs.Ordering.{is_eq, nat_cmp}
use Rattle.std.proofs.lemmas.Map.Text.{is_eq-slice_cmp}
use Rattle.std.proofs.lemmas.Slice.Eq.{bytes_eq-Decides}
use denote.Bor.{Bor}
use Rattle.kmipa_object.proofs.ListLemmas.{map-push}
use Rattle.kmipa_msgs.specs.Messages.{lent}
use Rattle.kmipa_ops.specs.Locate.{has_repeat}
use Rattle.kmipa_aside.specs.Lists.{judged_of}
use Rattle.kmipa_aside.specs.Standing.{StandOf, is_aside}
use Rattle.kmipa_aside.proofs.ScanLemmas.{length-map}
use Rattle.kmipa_aside.proofs.SettingLemmas.{drop_here}

-- a reference to these bytes
abbrev lend : List ℕ → Bor (List ℕ)
lend id = record { ref_ptr = (0, 0); now = id }

-- a set has an identifier, wherever its bytes stand
abbrev pub has_id : BTreeSet (Bor (List ℕ)) → List ℕ → Bool
has_id set id = contains_by (λ (x : Bor (List ℕ)). slice_cmp nat_cmp id x.now) set

-- the identifiers from a place on are in a set, and none of them stands twice
pub record Behind (ids : List (List ℕ)) (place : ℕ) (set : BTreeSet (Bor (List ℕ))) : Type 0 where
  pub within : place ≤ length ids
  pub has : (id : List ℕ) → has_id set id ≡ list_any (bytes_eq id) (drop place ids)
  pub once : has_repeat (drop place ids) ≡ false

or_true : (b : Bool) → (b || true) ≡ true
or_true true = refl
or_true false = refl

repeat_back : (ids : List (List ℕ)) (i : ℕ) → has_repeat (drop i ids) ≡ true → has_repeat ids ≡ true
repeat_back [] zero h = h
repeat_back [] (suc i) h = h
repeat_back (x ∷ ids) zero h = h
repeat_back (x ∷ ids) (suc i) h = ap (λ (b : Bool). list_any (bytes_eq x) ids || b) (repeat_back ids i h) ∙ or_true (list_any (bytes_eq x) ids)

module _ (ids : List (List ℕ)) (place i : ℕ) (k : List ℕ) (set : BTreeSet (Bor (List ℕ))) (behind : Behind ids place set) (ahead : i + 1 ≡ place) (at : slice_get ids i ≡ Some k) where
  here : drop i ids ≡ k ∷ drop place ids
  here = drop_here ids i k at ∙ ap (λ (n : ℕ). k ∷ drop n ids) ahead

  pub behind_found : has_id set k ≡ true → has_repeat ids ≡ true
  behind_found e = repeat_back ids i (ap has_repeat here ∙ ap (λ (b : Bool). b || has_repeat (drop place ids)) (sym (behind.has k) ∙ e))

  turned : (x y : List ℕ) → bytes_eq x y ≡ bytes_eq y x
  turned x y = elim (bytes_eq x y) as (λ b. bytes_eq x y ≡ b → b ≡ bytes_eq y x) [
    | true ↦ λ e. sym ((bytes_eq-Decides y x).1 (sym ((bytes_eq-Decides x y).0 e)))
    | false ↦ λ e. other (bytes_eq y x) refl e
  ] refl
    where
      other : (b : Bool) → bytes_eq y x ≡ b → bytes_eq x y ≡ false → false ≡ b
      other false f e = refl
      other true f e = sym e ∙ (bytes_eq-Decides x y).1 (sym ((bytes_eq-Decides y x).0 f))

  as_or : (b c : Bool) → cond b true c ≡ (b || c)
  as_or true c = refl
  as_or false c = refl

  pub behind_more : (new : BTreeSet (Bor (List ℕ))) → has_id set k ≡ false
      → ((q : Bor (List ℕ)) → has_id new q.now ≡ cond (is_eq (slice_cmp nat_cmp k q.now)) true (has_id set q.now)) → Behind ids i new
  behind_more new fresh u = record {
    within = let w : place ≤ length ids = behind.within in omega (arith, ahead, w);
    has = λ id.
        let rest : Bool = list_any (bytes_eq id) (drop place ids) in
        u (lend id) ∙ ap (λ (b : Bool). cond b true (has_id set id)) (is_eq-slice_cmp k id ∙ turned k id) ∙ ap (λ (c : Bool). cond (bytes_eq id k) true c) (behind.has id)
        ∙ as_or (bytes_eq id k) rest ∙ ap (list_any (bytes_eq id)) (sym here);
    once =
        ap has_repeat here ∙ ap (λ (b : Bool). b || has_repeat (drop place ids)) (sym (behind.has k) ∙ fresh) ∙ behind.once;
  }

-- ---- those that aren't set aside

pub append_nil : (xs : List (List ℕ)) → xs ++ [] ≡ xs
append_nil [] = refl
append_nil (x ∷ xs) = ap (λ (ys : List (List ℕ)). x ∷ ys) (append_nil xs)

module _ (s : StandOf) (ids : List (List ℕ)) (i : ℕ) (id : List ℕ) (at : slice_get ids i ≡ Some id) where
  -- one identifier more
  pub judged_more : (done more : List (List ℕ)) → more ≡ done ++ judged_of s (id ∷ []) → done ++ judged_of s (drop i ids) ≡ judged_of s ids → more ++ judged_of s (drop (i + 1) ids) ≡ judged_of s ids
  judged_more done more e h =
      let rest : List (List ℕ) = judged_of s (drop (i + 1) ids) in
      ap (λ (xs : List (List ℕ)). xs ++ rest) e ∙ append_assoc done (judged_of s (id ∷ [])) rest
      ∙ ap (λ (xs : List (List ℕ)). done ++ xs) (split (is_aside s id) rest ∙ sym (ap (judged_of s) (drop_here ids i id at))) ∙ h
    where
      split : (b : Bool) (xs : List (List ℕ)) → (if b then [] else id ∷ []) ++ xs ≡ (if b then xs else id ∷ xs)
      split true xs = refl
      split false xs = refl

-- an identifier that is set aside is left out
pub pushed_none : (s : StandOf) (done : List (List ℕ)) (id : List ℕ) → is_aside s id ≡ true → done ≡ done ++ judged_of s (id ∷ [])
pushed_none s done id e = sym (append_nil done) ∙ ap (λ (b : Bool). done ++ (if b then [] else id ∷ [])) (sym e)

pub pushed_one : (s : StandOf) (done : List (Bor (List ℕ))) (id : Bor (List ℕ)) → is_aside s id.now ≡ false → map lent (done ++ id ∷ []) ≡ map lent done ++ judged_of s (id.now ∷ [])
pushed_one s done id e = map-push lent done id ∙ ap (λ (b : Bool). map lent done ++ (if b then [] else id.now ∷ [])) (sym e)

-- ---- as the program finds it

pub is_old : (known added : Bool) → added ≡ not known → added ≡ false → known ≡ true
is_old true added e f = refl
is_old false added e f = let bad : ⊥ = cc in absurd bad

pub is_new : (known added : Bool) → added ≡ not known → added ≡ true → known ≡ false
is_new true added e f = let bad : ⊥ = cc in absurd bad
is_new false added e f = refl

pub less_one : (ids : List (List ℕ)) (place : ℕ) (set : BTreeSet (Bor (List ℕ))) → Behind ids place set → 0 < place
    → ((place - 1) + 1 ≡ place) × ((xs : List (Bor (List ℕ))) → ids ≡ map lent xs → place - 1 < length xs)
less_one ids place set b e =
    let within : place ≤ length ids = b.within in
    (omega (arith, e), λ xs is. let same : length ids ≡ length xs = ap (λ (ys : List (List ℕ)). length ys) is ∙ length-map lent xs in omega (arith, e, within, same))
