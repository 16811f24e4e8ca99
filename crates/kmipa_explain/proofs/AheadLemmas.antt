-- How many elements stand ahead of the first that passes, one at a time.
use Rattle.std.proofs.Common.{◌≡◌, ◌≤◌, ℕ, ◌+◌, zero, suc, Bool, true, false, not, cond, List, [], ◌∷◌, drop, map, take, length, slice_get, Some, refl, sym, ap, ◌∙◌, subst, arith}
use Rattle.std.specs.List.{before_first, position_or_len}
use Rattle.kmipa_explain.proofs.KeptLemmas.{drop_at, drop_all}

pub map_take : {X Y : Type 0} (f : X → Y) (n : ℕ) (xs : List X) → map f (take n xs) ≡ take n (map f xs)
map_take f zero xs = refl
map_take f (suc n) [] = refl
map_take f (suc n) (x ∷ xs) = ap (λ ys. f x ∷ ys) (map_take f n xs)

module _ {X : Type 0} (test : X → Bool) (xs : List X) where
  -- none before a place passes, and of the others so many stand ahead
  pub record CountedTo (place : ℕ) : Type 0 where
    pub within : place ≤ length xs
    pub counted : position_or_len test xs ≡ place + position_or_len test (drop place xs)

  fails_first : (x : X) (rest : List X) (b : Bool) → test x ≡ b → position_or_len test (x ∷ rest) ≡ cond (not b) (1 + position_or_len test rest) 0
  fails_first x rest b e = ap (λ (c : Bool). cond (not c) (1 + position_or_len test rest) 0) e

  pub counted_none : CountedTo 0
  counted_none = record { within = omega arith; counted = omega arith }

  pub counted_more : (place : ℕ) (x : X) → suc place ≤ length xs → slice_get xs place ≡ Some x → false ≡ test x → CountedTo place → CountedTo (place + 1)
  counted_more place x below at fails held =
      let e : suc place ≡ place + 1 = omega arith in
      let one = ap (position_or_len test) (drop_at xs place x at) ∙ fails_first x (drop (suc place) xs) false (sym fails) in
      let count : position_or_len test xs ≡ suc place + position_or_len test (drop (suc place) xs) = omega (arith, held.counted, one) in
      subst CountedTo e (record { within = below; counted = count })

  pub counted_found : (place : ℕ) (x : X) → slice_get xs place ≡ Some x → true ≡ test x → CountedTo place → take place xs ≡ before_first test xs
  counted_found place x at passes held =
      let none = ap (position_or_len test) (drop_at xs place x at) ∙ fails_first x (drop (suc place) xs) true (sym passes) in
      let is : place ≡ position_or_len test xs = omega (arith, held.counted, none) in
      ap (λ (n : ℕ). take n xs) is

  pub counted_all : (place : ℕ) → length xs ≤ place → CountedTo place → take place xs ≡ before_first test xs
  counted_all place end held =
      let none = ap (position_or_len test) (drop_all xs place end) in
      let is : place ≡ position_or_len test xs = omega (arith, held.counted, none) in
      ap (λ (n : ℕ). take n xs) is
