-- Each name once: the same names, none twice; and a list without repeats stays as it is.
use Rattle.std.proofs.Common.{◌≡◌, ◌<◌, ◌↔◌, ◌||◌, ◌++◌, ℕ, zero, suc, length, take, get_or, Bool, true, false, not, cond, List, [], ◌∷◌, map, refl, sym, ap, ◌∙◌, subst, inl, inr, ◌⊎◌, arith}
use Rattle.std.proofs.lemmas.List.Elements.{Contains-append_right}
use Rattle.std.specs.List.{Contains}
use Rattle.kmipa_attrs.specs.Sets.{NameOf, name_of}
use Rattle.kmipa_attrs.specs.declared.name.Name.{Name}
use Rattle.kmipa_attrs.specs.Names.{same_name, without, distinct, HasNoRepeats}
use Rattle.kmipa_attrs.proofs.NameLemmas.{has, same_name-true, same_name-self}

true_false : {b : Bool} → b ≡ true → b ≡ false → ⊥
true_false e h = let q : true ≡ false = sym e ∙ h in cc

-- an element is the first, or one after it
contains_first : (x : NameOf) (xs : List NameOf) → Contains (x ∷ xs) x
contains_first x xs = (0, omega arith, refl)

contains_behind : (x : NameOf) (xs : List NameOf) (n : NameOf) → Contains xs n → Contains (x ∷ xs) n
contains_behind x xs n h = Contains-append_right (x ∷ []) xs n h

contains_cases : (x : NameOf) (xs : List NameOf) (n : NameOf) → Contains (x ∷ xs) n → (x ≡ n) ⊎ Contains xs n
contains_cases x xs n h = by h.0 h.1 h.2
  where
    by : (k : ℕ) → k < length (x ∷ xs) → get_or (x ∷ xs) k n ≡ n → (x ≡ n) ⊎ Contains xs n
    by zero lt e = inl e
    by (suc k) lt e = inr (k, omega arith, e)

contains_nothing : (n : NameOf) → Contains [] n → ⊥
contains_nothing n h = let lt : h.0 < 0 = h.1 in omega arith

without-other : (x n : NameOf) (names : List NameOf) → Contains names n → same_name n x ≡ false → Contains (without x names) n
without-other x n [] h e = absurd (contains_nothing n h)
without-other x n (m ∷ names) h e = by (without-other x n names) (same_name m x) refl (contains_cases m names n h)
  where
    by : (Contains names n → same_name n x ≡ false → Contains (without x names) n) → (b : Bool) → same_name m x ≡ b → (m ≡ n) ⊎ Contains names n → Contains (cond (not b) (m ∷ without x names) (without x names)) n
    by rest true g (inl p) = absurd (true_false (ap (λ k. same_name k x) (sym p) ∙ g) e)
    by rest true g (inr p) = rest p e
    by rest false g (inl p) = let P : NameOf → Type 0 = Contains (m ∷ without x names) in subst P p (contains_first m (without x names))
    by rest false g (inr p) = contains_behind m (without x names) n (rest p e)

without-from : (x n : NameOf) (names : List NameOf) → Contains (without x names) n → Contains names n × (same_name n x ≡ false)
without-from x n [] h = absurd (contains_nothing n h)
without-from x n (m ∷ names) h = by (without-from x n names) (same_name m x) refl h
  where
    by : (Contains (without x names) n → Contains names n × (same_name n x ≡ false)) → (b : Bool) → same_name m x ≡ b → Contains (cond (not b) (m ∷ without x names) (without x names)) n
        → Contains (m ∷ names) n × (same_name n x ≡ false)
    by rest true g h = let w = rest h in (contains_behind m names n w.0, w.1)
    by rest false g h = elim (contains_cases m (without x names) n h) [
      | inl p ↦ (let P : NameOf → Type 0 = Contains (m ∷ names) in subst P p (contains_first m names), ap (λ k. same_name k x) (sym p) ∙ g)
      | inr p ↦ let w = rest p in (contains_behind m names n w.0, w.1)
    ]

distinct-to : (names : List NameOf) (n : NameOf) → Contains (distinct names) n → Contains names n
unfolding distinct
distinct-to [] n h = h
distinct-to (x ∷ names) n h = elim (contains_cases x (without x (distinct names)) n h) [
  | inl p ↦ let P : NameOf → Type 0 = Contains (x ∷ names) in subst P p (contains_first x names)
  | inr p ↦ contains_behind x names n (distinct-to names n (without-from x n (distinct names) p).0)
]

distinct-from : (names : List NameOf) (n : NameOf) → Contains names n → Contains (distinct names) n
unfolding distinct
distinct-from [] n h = h
distinct-from (x ∷ names) n h = by (distinct-from names n) (same_name n x) refl (contains_cases x names n h)
  where
    by : (Contains names n → Contains (distinct names) n) → (b : Bool) → same_name n x ≡ b → (x ≡ n) ⊎ Contains names n → Contains (x ∷ without x (distinct names)) n
    by rest b e (inl p) = let P : NameOf → Type 0 = Contains (x ∷ without x (distinct names)) in subst P p (contains_first x (without x (distinct names)))
    by rest true e (inr p) = let P : NameOf → Type 0 = Contains (x ∷ without x (distinct names)) in subst P (sym (same_name-true n x e)) (contains_first x (without x (distinct names)))
    by rest false e (inr p) = contains_behind x (without x (distinct names)) n (without-other x n (distinct names) (rest p) e)

pub distinct-Contains : (names : List NameOf) (n : NameOf) → Contains (distinct names) n ↔ Contains names n
distinct-Contains names n = (distinct-to names n, distinct-from names n)

without-HasNoRepeats : (x : NameOf) (names : List NameOf) → HasNoRepeats names → HasNoRepeats (without x names)
without-HasNoRepeats x [] h = tt
without-HasNoRepeats x (m ∷ names) h = by (without-HasNoRepeats x names h.1) (same_name m x)
  where
    by : HasNoRepeats (without x names) → (b : Bool) → HasNoRepeats (cond (not b) (m ∷ without x names) (without x names))
    by rest true = rest
    by rest false = (λ g. h.0 (without-from x m names g).0, rest)

pub distinct-HasNoRepeats : (names : List NameOf) → HasNoRepeats (distinct names)
unfolding distinct
distinct-HasNoRepeats [] = tt
distinct-HasNoRepeats (x ∷ names) =
    (λ g. true_false (same_name-self x) (without-from x x (distinct names) g).1, without-HasNoRepeats x (distinct names) (distinct-HasNoRepeats names))

-- without a name that isn't there
without-absent : (x : NameOf) (names : List NameOf) → (Contains names x → ⊥) → without x names ≡ names
without-absent x [] h = refl
without-absent x (m ∷ names) h = by (same_name m x) refl (without-absent x names (λ g. h (contains_behind m names x g)))
  where
    by : (b : Bool) → same_name m x ≡ b → without x names ≡ names → cond (not b) (m ∷ without x names) (without x names) ≡ m ∷ names
    by true e r = absurd (h (let P : NameOf → Type 0 = Contains (m ∷ names) in subst P (same_name-true m x e) (contains_first m names)))
    by false e r = ap (λ us. m ∷ us) r

pub distinct-same : (names : List NameOf) → HasNoRepeats names → distinct names ≡ names
unfolding distinct
distinct-same [] h = refl
distinct-same (x ∷ names) h = ap (λ us. x ∷ without x us) (distinct-same names h.1) ∙ ap (λ us. x ∷ us) (without-absent x names h.0)

-- ---- whether a name is among others

pub has_there : (names : List NameOf) (n : NameOf) → has names n ≡ true → Contains names n
has_there [] n e = absurd cc
has_there (m ∷ names) n e = by (same_name m n) refl e (has_there names n)
  where
    by : (b : Bool) → same_name m n ≡ b → (b || has names n) ≡ true → (has names n ≡ true → Contains names n) → Contains (m ∷ names) n
    by true is e h = let P : NameOf → Type 0 = Contains (m ∷ names) in subst P (same_name-true m n is) (contains_first m names)
    by false is e h = contains_behind m names n (h e)

pub has_not_there : (names : List NameOf) (n : NameOf) → has names n ≡ false → Contains names n → ⊥
has_not_there [] n e c = contains_nothing n c
has_not_there (m ∷ names) n e c = by (same_name m n) refl e (contains_cases m names n c) (has_not_there names n)
  where
    by : (b : Bool) → same_name m n ≡ b → (b || has names n) ≡ false → (m ≡ n) ⊎ Contains names n → (has names n ≡ false → Contains names n → ⊥) → ⊥
    by true is e c h = absurd cc
    by false is e (inl p) h = absurd (let clash : false ≡ true = sym is ∙ ap (same_name m) (sym p) ∙ same_name-self m in cc)
    by false is e (inr c) h = h e c

abbrev NoneTwice : List Name → Type 0
NoneTwice names = HasNoRepeats (map name_of names)

pub again_repeats : (whole left rest : List Name) (name : Name) → left ≡ name ∷ rest → has (map name_of rest) (name_of name) ≡ true → NoneTwice left ↔ NoneTwice whole → NoneTwice whole → ⊥
again_repeats whole left rest name e again same h = let here = subst NoneTwice e (same.1 h) in here.0 (has_there (map name_of rest) (name_of name) again)

pub once_passed : (whole left rest : List Name) (name : Name) → left ≡ name ∷ rest → has (map name_of rest) (name_of name) ≡ false → NoneTwice left ↔ NoneTwice whole → NoneTwice rest ↔ NoneTwice whole
once_passed whole left rest name e fresh same = (
  λ h. same.0 (subst NoneTwice (sym e) (has_not_there (map name_of rest) (name_of name) fresh, h)),
  λ h. let here = subst NoneTwice e (same.1 h) in here.1,
)

-- ---- names that are looked up among those before them

there : (names : List Name) (i : ℕ) (d : Name) → i < length names → Contains (map name_of names) (name_of (get_or names i d))
there [] i d lt = absurd (omega arith)
there (x ∷ names) zero d lt = contains_first (name_of x) (map name_of names)
there (x ∷ names) (suc i) d lt = contains_behind (name_of x) (map name_of names) (name_of (get_or names i d)) (there names i d (omega arith))

pub repeats_at : (names : List Name) (i : ℕ) (d : Name) → i < length names → has (map name_of (take i names)) (name_of (get_or names i d)) ≡ true → NoneTwice names → ⊥
repeats_at [] i d lt e h = omega arith
repeats_at (x ∷ names) zero d lt e h = cc
repeats_at (x ∷ names) (suc i) d lt e h = by (same_name (name_of x) n) refl e (repeats_at names i d (omega arith))
  where
    n : NameOf
    n = name_of (get_or names i d)

    by : (b : Bool) → same_name (name_of x) n ≡ b → (b || has (map name_of (take i names)) n) ≡ true → (has (map name_of (take i names)) n ≡ true → NoneTwice names → ⊥) → ⊥
    by true is e rest = h.0 (let P : NameOf → Type 0 = Contains (map name_of names) in subst P (sym (same_name-true (name_of x) n is)) (there names i d (omega arith)))
    by false is e rest = rest e h.1

contains_last : (names : List NameOf) (n m : NameOf) → Contains (names ++ n ∷ []) m → Contains names m ⊎ (n ≡ m)
contains_last [] n m c = elim (contains_cases n [] m c) [
  | inl p ↦ inr p
  | inr p ↦ absurd (contains_nothing m p)
]
contains_last (x ∷ names) n m c = elim (contains_cases x (names ++ n ∷ []) m c) [
  | inl p ↦ inl (let P : NameOf → Type 0 = Contains (x ∷ names) in subst P p (contains_first x names))
  | inr p ↦ elim (contains_last names n m p) [
    | inl q ↦ inl (contains_behind x names m q)
    | inr q ↦ inr q
  ]
]

pub push_differs : (names : List NameOf) (n : NameOf) → HasNoRepeats names → has names n ≡ false → HasNoRepeats (names ++ n ∷ [])
push_differs [] n h e = (contains_nothing n, tt)
push_differs (m ∷ names) n h e = by (same_name m n) refl e (push_differs names n h.1)
  where
    by : (b : Bool) → same_name m n ≡ b → (b || has names n) ≡ false → (has names n ≡ false → HasNoRepeats (names ++ n ∷ [])) → HasNoRepeats (m ∷ names ++ n ∷ [])
    by true is e rest = absurd cc
    by false is e rest = (
      λ c. elim (contains_last names n m c) [
        | inl q ↦ h.0 q
        | inr q ↦ let clash : false ≡ true = sym is ∙ ap (same_name m) q ∙ same_name-self m in cc
      ],
      rest e,
    )
