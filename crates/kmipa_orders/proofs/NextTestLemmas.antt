-- The test for next calls is right.
use Rattle.std.proofs.Common.{◌≡◌, ◌⊎◌, inl, inr, ℕ, zero, suc, ◌+◌, ◌≤ℤ◌, Bool, true, false, not, ◌&&◌, ◌||◌, ◌==◌, ◌≢◌, T, List, [], ◌∷◌, Option, Some, None, slice_get, Contains, refl, sym, ap, ◌∙◌, subst, arith, rules}
use Rattle.std.specs.Prelude.{int_le}
use Rattle.std.specs.Int.Signed.{le_z_yes}
use Rattle.std.proofs.lemmas.Float.{T_from_true}
use Rattle.std.proofs.lemmas.Bool.{lt-ltb, ltb-true}
use Rattle.kmipa_check.specs.Steps.{StepOf}
use Rattle.kmipa_check.specs.Runs.{Before, EndsAhead}
use Rattle.kmipa_orders.specs.Next.{IsNext, is_taken, ends_before, lets, all_let, is_next_step, is_next}
use Rattle.kmipa_orders.specs.Laws.{NextIsTested}
use Rattle.kmipa_orders.proofs.PlaceLemmas.{one_cases, has_head}
use Rattle.std.proofs.lemmas.List.Elements.{Contains-append_right}

pub both_true : (a b : Bool) → (a && b) ≡ true → (a ≡ true) × (b ≡ true)
both_true true true h = (refl, refl)
both_true true false h = absurd cc
both_true false b h = absurd cc

pub either_true : (a b : Bool) → (a || b) ≡ true → (a ≡ true) ⊎ (b ≡ true)
either_true true b h = inl refl
either_true false b h = inr h

pub not_true : (a : Bool) → not a ≡ true → a ≡ false
not_true true h = absurd cc
not_true false h = refl

same_of : (a b : ℕ) → (a == b) ≡ true → a ≡ b
same_of a b h = search rules

differ_of : (a b : ℕ) → (a == b) ≡ false → a ≡ b → ⊥
differ_of a b h e = let d : a ≢ b = search rules in d e

pub taken_of : (taken : List ℕ) (p : ℕ) → is_taken taken p ≡ true → Contains taken p
taken_of [] p h = absurd cc
taken_of (q ∷ taken) p h = elim (either_true (q == p) (is_taken taken p) h) [
  | inl e ↦ let P : ℕ → Type 0 = λ k. Contains (k ∷ taken) p in subst P (sym (same_of q p e)) (has_head p taken)
  | inr t ↦ Contains-append_right (q ∷ []) taken p (taken_of taken p t)
]

pub neither : (a b : Bool) → (a || b) ≡ false → (a ≡ false) × (b ≡ false)
neither true b h = absurd cc
neither false b h = (refl, h)

pub not_taken : (taken : List ℕ) (p : ℕ) → is_taken taken p ≡ false → Contains taken p → ⊥
not_taken [] p h c = omega (arith, c.1)
not_taken (q ∷ taken) p h c =
    let n = neither (q == p) (is_taken taken p) h in
    elim (one_cases q p taken c) [
      | inl e ↦ differ_of q p n.0 e
      | inr t ↦ not_taken taken p n.1 t
    ]

ahead_true : (end : Option ℕ) (place : ℕ) → EndsAhead end place → ends_before end place ≡ true
ahead_true None place h = absurd h
ahead_true (Some end) place h = lt-ltb end place h

true_ahead : (end : Option ℕ) (place : ℕ) → ends_before end place ≡ true → EndsAhead end place
true_ahead None place h = absurd cc
true_ahead (Some end) place h = ltb-true end place h

lets_of : (c d : StepOf) → lets c d ≡ true → (c.response.stamp ≤ℤ d.response.stamp) × (Before d c → ⊥)
lets_of c d h =
    let p = both_true (int_le c.response.stamp d.response.stamp) (not (ends_before d.end c.begin)) h in
    let q = p.1 in
    (le_z_yes (T_from_true _ p.0), λ b. let e : ends_before d.end c.begin ≡ true = ahead_true d.end c.begin b in cc)

decide : (b : Bool) → (b ≡ true) ⊎ (b ≡ false)
decide true = inl refl
decide false = inr refl

pub true_of : (b : Bool) → T b → b ≡ true
true_of true t = refl
true_of false t = absurd t

of_lets : (c d : StepOf) → c.response.stamp ≤ℤ d.response.stamp → (Before d c → ⊥) → lets c d ≡ true
of_lets c d s f =
    elim (decide (ends_before d.end c.begin)) [
      | inl t ↦ absurd (f (true_ahead d.end c.begin t))
      | inr e ↦ let u : int_le c.response.stamp d.response.stamp ≡ true = true_of (int_le c.response.stamp d.response.stamp) s.le in cc
    ]

-- the calls from a place on
all_let_of : (taken : List ℕ) (c : StepOf) (from : ℕ) (calls : List StepOf) → all_let taken c from calls ≡ true
    → (k : ℕ) (d : StepOf) → slice_get calls k ≡ Some d → (Contains taken (from + k) → ⊥) → lets c d ≡ true
all_let_of taken c from [] h k d at not = absurd cc
all_let_of taken c from (x ∷ calls) h zero d at not =
    let p = both_true (is_taken taken from || lets c x) (all_let taken c (suc from) calls) h in
    let e : x ≡ d = cc in
    elim (either_true (is_taken taken from) (lets c x) p.0) [
      | inl t ↦ let P : ℕ → Type 0 = λ n. Contains taken n in absurd (not (subst P (omega arith) (taken_of taken from t)))
      | inr l ↦ let P : StepOf → Type 0 = λ y. lets c y ≡ true in subst P e l
    ]
all_let_of taken c from (x ∷ calls) h (suc k) d at not =
    let p = both_true (is_taken taken from || lets c x) (all_let taken c (suc from) calls) h in
    let P : ℕ → Type 0 = λ n. Contains taken n in
    all_let_of taken c (suc from) calls p.1 k d at (λ t. not (subst P (omega arith) t))

of_all_let : (taken : List ℕ) (c : StepOf) (from : ℕ) (calls : List StepOf)
    → ((k : ℕ) (d : StepOf) → slice_get calls k ≡ Some d → (Contains taken (from + k) → ⊥) → lets c d ≡ true) → all_let taken c from calls ≡ true
of_all_let taken c from [] h = refl
of_all_let taken c from (x ∷ calls) h =
    let P : ℕ → Type 0 = λ n. Contains taken n in
    let rest = of_all_let taken c (suc from) calls (λ k d at not. h (suc k) d at (λ t. not (subst P (omega arith) t))) in
    let here : (is_taken taken from || lets c x) ≡ true = elim (decide (is_taken taken from)) [
      | inl t ↦ cc
      | inr f ↦ let l = h 0 x refl (λ t. not_taken taken from f (subst P (omega arith) t)) in cc
    ] in
    cc

pub next_of : (calls : List StepOf) (taken : List ℕ) (place : ℕ) → is_next calls taken place ≡ true → IsNext calls taken place
next_of calls taken place h = by (slice_get calls place) refl h
  where
    by : (o : Option StepOf) → slice_get calls place ≡ o → is_next_step calls taken place o ≡ true → IsNext calls taken place
    by None at h = absurd cc
    by (Some c) at h =
        let p = both_true (not (is_taken taken place)) (all_let taken c 0 calls) h in
        let each : (k : ℕ) (d : StepOf) → slice_get calls k ≡ Some d → (Contains taken k → ⊥) → lets c d ≡ true = λ k d at not.
        let P : ℕ → Type 0 = λ n. Contains taken n in
        all_let_of taken c 0 calls p.1 k d at (λ t. not (subst P (omega arith) t)) in
        record {
          call = c;
          there = at;
          left = not_taken taken place (not_true (is_taken taken place) p.0);
          least = λ other d at not. (lets_of c d (each other d at not)).0;
          first = λ other d at not. (lets_of c d (each other d at not)).1;
        }

pub of_next : (calls : List StepOf) (taken : List ℕ) (place : ℕ) → IsNext calls taken place → is_next calls taken place ≡ true
of_next calls taken place n =
    let a : all_let taken n.call 0 calls ≡ true = of_all_let taken n.call 0 calls (λ k d at not.
    let P : ℕ → Type 0 = λ j. Contains taken j in
    let m : Contains taken k → ⊥ = λ t. not (subst P (omega arith) t) in
    of_lets n.call d (n.least k d at m) (n.first k d at m)) in
    let t : is_taken taken place ≡ false = (elim (decide (is_taken taken place)) [ inl t ↦ absurd (n.left (taken_of taken place t)) | inr f ↦ f ]) in
    let e : is_next_step calls taken place (Some n.call) ≡ true = cc in
    ap (is_next_step calls taken place) n.there ∙ e

pub next_is_tested_lem : NextIsTested
next_is_tested_lem steps taken place = (of_next steps taken place, next_of steps taken place)
