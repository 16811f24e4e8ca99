-- The parts of calls stand as the calls do.
use Rattle.std.proofs.Common.{◌≡◌, ◌<◌, ℕ, zero, suc, ℤ, List, [], ◌∷◌, length, slice_get, Option, Some, None, refl, sym, subst, arith}
use Rattle.std.specs.Prelude.{◌≤ℤ◌, slice_index_or, AllPairs}
use Rattle.std.specs.List.{filter_map, AllZip}
use Rattle.kmipa_check.specs.Steps.{StepOf}
use Rattle.kmipa_check.specs.Runs.{Before, EndsAhead}
use Rattle.kmipa_parts.specs.Parts.{OwnOf, IsPartOf, IsPartOrNone, AreParts}
use Rattle.kmipa_parts.specs.Laws.{PartsArePlaced}

-- ---- elements of a list

pub index_is : {X : Type 0} (xs : List X) (i : ℕ) (x d : X) → slice_get xs i ≡ Some x → slice_index_or xs i d ≡ x
index_is [] i x d at = let bad : ⊥ = cc in absurd bad
index_is (y ∷ xs) zero x d at = let same : y ≡ x = cc in same
index_is (y ∷ xs) (suc i) x d at = index_is xs i x d at

pub index_there : {X : Type 0} (xs : List X) (i : ℕ) (d : X) → i < length xs → slice_get xs i ≡ Some (slice_index_or xs i d)
index_there [] i d lt = absurd (omega (arith, lt))
index_there (y ∷ xs) zero d lt = refl
index_there (y ∷ xs) (suc i) d lt = index_there xs i d (omega (arith, lt))

pub index_within : {X : Type 0} (xs : List X) (i : ℕ) (x : X) → slice_get xs i ≡ Some x → i < length xs
index_within [] i x at = let bad : ⊥ = cc in absurd bad
index_within (y ∷ xs) zero x at = omega arith
index_within (y ∷ xs) (suc i) x at = let r = index_within xs i x at in omega (arith, r)

-- what holds of each element and each later one
pub pair_at : {X : Type 0} (R : X → X → Type 0) (xs : List X) (i j : ℕ) (x y : X) → AllPairs R xs → i < j → slice_get xs i ≡ Some x → slice_get xs j ≡ Some y → R x y
pair_at R xs i j x y all lt a b =
    subst (λ u. R u y) (index_is xs i x x a) (subst (R (slice_index_or xs i x)) (index_is xs j y x b) (all i j x lt (index_within xs j y b)))

pub pairs_all : {X : Type 0} (R : X → X → Type 0) (xs : List X) → ((i j : ℕ) (x y : X) → i < j → slice_get xs i ≡ Some x → slice_get xs j ≡ Some y → R x y) → AllPairs R xs
pairs_all R xs f = λ i j d lt within. f i j (slice_index_or xs i d) (slice_index_or xs j d) lt (index_there xs i d (omega (arith, lt, within))) (index_there xs j d within)

-- ---- the parts that are there

abbrev pub those_there : List (Option StepOf) → List StepOf
those_there each = filter_map (λ (part : Option StepOf). part) each

-- a part, and the call that it is of
pub record PartAt (own : OwnOf) (calls : List StepOf) (part : StepOf) : Type 0 where
  pub place : ℕ
  pub call : StepOf
  pub there : slice_get calls place ≡ Some call
  pub is : IsPartOf own call part

abbrev onward : (own : OwnOf) (c : StepOf) (calls : List StepOf) (part : StepOf) → PartAt own calls part → PartAt own (c ∷ calls) part
onward own c calls part p = record { place = suc p.place; call = p.call; there = p.there; is = p.is }

pub part_at : (own : OwnOf) (calls : List StepOf) (each : List (Option StepOf)) (i : ℕ) (part : StepOf) → AllZip (IsPartOrNone own) calls each → slice_get (those_there each) i ≡ Some part → PartAt own calls part
part_at own [] [] i part z at = let bad : ⊥ = cc in absurd bad
part_at own [] (e ∷ each) i part z at = absurd z
part_at own (c ∷ calls) [] i part z at = absurd z
part_at own (c ∷ calls) (None ∷ each) i part z at = onward own c calls part (part_at own calls each i part z.1 at)
part_at own (c ∷ calls) (Some p ∷ each) zero part z at =
    let same : p ≡ part = cc in
    record { place = 0; call = c; there = refl; is = subst (IsPartOf own c) same z.0 }
part_at own (c ∷ calls) (Some p ∷ each) (suc i) part z at = onward own c calls part (part_at own calls each i part z.1 at)

-- two parts, in their order, and the calls that they are of, in theirs
pub record PartsAt (own : OwnOf) (calls : List StepOf) (p q : StepOf) : Type 0 where
  pub first : PartAt own calls p
  pub second : PartAt own calls q
  pub order : first.place < second.place

onward_both : (own : OwnOf) (c : StepOf) (calls : List StepOf) (p q : StepOf) → PartsAt own calls p q → PartsAt own (c ∷ calls) p q
onward_both own c calls p q r = record { first = onward own c calls p r.first; second = onward own c calls q r.second; order = (let lt = r.order in omega (arith, lt)) }

pub parts_at : (own : OwnOf) (calls : List StepOf) (each : List (Option StepOf)) (i j : ℕ) (p q : StepOf) → AllZip (IsPartOrNone own) calls each → i < j
    → slice_get (those_there each) i ≡ Some p → slice_get (those_there each) j ≡ Some q → PartsAt own calls p q
parts_at own [] [] i j p q z lt a b = let bad : ⊥ = cc in absurd bad
parts_at own [] (e ∷ each) i j p q z lt a b = absurd z
parts_at own (c ∷ calls) [] i j p q z lt a b = absurd z
parts_at own (c ∷ calls) (None ∷ each) i j p q z lt a b = onward_both own c calls p q (parts_at own calls each i j p q z.1 lt a b)
parts_at own (c ∷ calls) (Some x ∷ each) i zero p q z lt a b = absurd (omega (arith, lt))
parts_at own (c ∷ calls) (Some x ∷ each) zero (suc j) p q z lt a b =
    let same : x ≡ p = cc in
    record {
      first = record { place = 0; call = c; there = refl; is = subst (IsPartOf own c) same z.0 };
      second = onward own c calls q (part_at own calls each j q z.1 b);
      order = omega arith;
    }
parts_at own (c ∷ calls) (Some x ∷ each) (suc i) (suc j) p q z lt a b = onward_both own c calls p q (parts_at own calls each i j p q z.1 (omega (arith, lt)) a b)

-- what the marks and the stamps say of calls, they say of parts
pub before_back : (own : OwnOf) (c d p q : StepOf) → IsPartOf own c p → IsPartOf own d q → Before q p → Before d c
before_back own c d p q a b h = subst (λ (o : Option ℕ). EndsAhead o c.begin) b.end (subst (EndsAhead q.end) a.begin h)

pub parts_pair : (R : StepOf → StepOf → Type 0) (own : OwnOf) (calls parts : List StepOf) → AreParts own calls parts → AllPairs R calls
    → ((c d p q : StepOf) → IsPartOf own c p → IsPartOf own d q → R c d → R p q) → AllPairs R parts
parts_pair R own calls parts a all f =
    subst (AllPairs R) (sym a.are) (pairs_all R (those_there a.each) (λ i j x y lt s t.
    let r = parts_at own calls a.each i j x y a.of_calls lt s t in
    f r.first.call r.second.call x y r.first.is r.second.is (pair_at R calls r.first.place r.second.place r.first.call r.second.call all r.order r.first.there r.second.there)))

pub parts_are_placed_lem : PartsArePlaced
parts_are_placed_lem own calls parts a placed = record {
  kept = parts_pair (λ (a b : StepOf). ¬ (Before b a)) own calls parts a placed.kept (λ c d p q x y h before. h (before_back own c d p q x y before));
  stamped =
      parts_pair (λ (a b : StepOf). a.response.stamp ≤ℤ b.response.stamp) own calls parts a placed.stamped
      (λ c d p q x y h. subst (λ (z : ℤ). z ≤ℤ q.response.stamp) (sym x.stamp) (subst (λ (z : ℤ). c.response.stamp ≤ℤ z) (sym y.stamp) h));
}
