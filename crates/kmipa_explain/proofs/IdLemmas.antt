-- A set of identifiers, one more at a time.
use Rattle.std.proofs.Common.{◌≡◌, ◌||◌, ℕ, ◌+◌, zero, suc, Bool, true, false, cond, List, [], ◌∷◌, ◌++◌, take, slice_get, Some, bytes_eq, get_or, refl, sym, ap, ◌∙◌, subst, arith}
use Rattle.std.specs.Bool.{Decides}
use Rattle.std.specs.List.{Contains, list_any}
use Rattle.std.proofs.lemmas.Bool.Decides.{same_from_decides, Decides-like}
use Rattle.std.proofs.lemmas.List.Folds.{Any-from_list_any, list_any_at, list_any-append}
use Rattle.std.proofs.lemmas.Slice.Eq.{bytes_eq-Decides}
use Rattle.kmipa_explain.specs.Ids.{HasIds, has_id}
use Rattle.kmipa_explain.specs.declared.id_set.IdSet.{IdSet}

pub same_bytes : (xs ys : List ℕ) → bytes_eq xs ys ≡ bytes_eq ys xs
same_bytes xs ys = same_from_decides (bytes_eq xs ys) (bytes_eq ys xs) (bytes_eq-Decides xs ys) (Decides-like (bytes_eq ys xs) sym sym (bytes_eq-Decides ys xs))

or_last : (b o : Bool) → cond b true o ≡ (o || (b || false))
or_last true true = refl
or_last true false = refl
or_last false true = refl
or_last false false = refl

ids_more : (ids : List (List ℕ)) (id : List ℕ) (old new : IdSet) → HasIds ids old → ((other : List ℕ) → has_id new other ≡ cond (bytes_eq id other) true (has_id old other)) → HasIds (ids ++ id ∷ []) new
ids_more ids id old new has after other =
    after other
    ∙ ap (cond (bytes_eq id other) true) (has other)
    ∙ or_last (bytes_eq id other) (list_any (bytes_eq other) ids)
    ∙ ap (λ (b : Bool). list_any (bytes_eq other) ids || (b || false)) (same_bytes id other)
    ∙ sym (list_any-append (bytes_eq other) ids (id ∷ []))

-- the test says whether an identifier is among others
pub id_decides : (ids : List (List ℕ)) (id : List ℕ) → Decides (list_any (bytes_eq id) ids) (Contains ids id)
id_decides ids id = (
  λ h.
      let a = Any-from_list_any (bytes_eq id) ids h in
      subst (λ (x : List ℕ). Contains ids x) (sym ((bytes_eq-Decides id a.1).0 a.4)) (a.0, a.2, a.3),
  λ at. list_any_at (bytes_eq id) ids at.0 id at.1 ((bytes_eq-Decides id (get_or ids at.0 id)).1 (sym at.2)),
)

-- one more of a list
take_next : {X : Type 0} (xs : List X) (i : ℕ) (x : X) → slice_get xs i ≡ Some x → take (i + 1) xs ≡ take i xs ++ x ∷ []
take_next [] i x at = absurd cc
take_next {X} (y ∷ xs) zero x at = let same : y ≡ x = cc in ap (λ (z : X). z ∷ []) same
take_next {X} (y ∷ xs) (suc i) x at =
    let next : suc i + 1 ≡ suc (i + 1) = omega arith in
    ap (λ (n : ℕ). take n (y ∷ xs)) next ∙ ap (λ (l : List X). y ∷ l) (take_next xs i x at)

pub ids_next : (ids : List (List ℕ)) (place : ℕ) (id : List ℕ) (old new : IdSet) → slice_get ids place ≡ Some id → HasIds (take place ids) old
    → ((other : List ℕ) → has_id new other ≡ cond (bytes_eq id other) true (has_id old other)) → HasIds (take (place + 1) ids) new
ids_next ids place id old new at has after =
    let P : List (List ℕ) → Type 0 = λ l. HasIds l new in
    subst P (sym (take_next ids place id at)) (ids_more (take place ids) id old new has after)
