-- The first of a list that passes a test.
use Rattle.std.proofs.Common.{arith, ◌≡◌, Bool, true, false, cond, List, [], ◌∷◌, map, find, slice_get, Some, None, option_map, length, ltb, refl, sym, ap, ◌∙◌}
use Rattle.std.specs.Prelude.{option_and_then}
use Rattle.std.specs.List.{position_from, position_or_len}
use Rattle.std.proofs.lemmas.Bool.Decides.{nat_tests}
use Rattle.std.proofs.lemmas.Iterator.Adapters.{position_from-zero}
use Rattle.std.proofs.lemmas.List.Folds.{find_at}
use Rattle.std.proofs.lemmas.Option.{slice_get_past}

module _ {X : Type 0} (test : X → Bool) (xs : List X) where
  pub find_place : find test xs ≡ option_and_then (slice_get xs) (position_from test 0 xs)
  find_place = by (ltb (position_or_len test xs) (length xs)) refl
    where
      by : (b : Bool) → ltb (position_or_len test xs) (length xs) ≡ b → find test xs ≡ option_and_then (slice_get xs) (position_from test 0 xs)
      by true is = find_at test xs ∙ ap (option_and_then (slice_get xs)) (sym (ap (λ (b : Bool). cond b (Some (position_or_len test xs)) None) is) ∙ position_from-zero test xs)
      by false is =
          find_at test xs ∙ slice_get_past xs (position_or_len test xs) (grind (arith, nat_tests))
          ∙ ap (option_and_then (slice_get xs)) (sym (ap (λ (b : Bool). cond b (Some (position_or_len test xs)) None) is) ∙ position_from-zero test xs)

pub find_map : {X Y : Type 0} (f : X → Y) (test : Y → Bool) (xs : List X) → find test (map f xs) ≡ option_map f (find (λ (x : X). test (f x)) xs)
find_map f test [] = refl
find_map f test (x ∷ xs) = ap (cond (test (f x)) (Some (f x))) (find_map f test xs) ∙ out (test (f x))
  where
    out : (b : Bool) → cond b (Some (f x)) (option_map f (find (λ y. test (f y)) xs)) ≡ option_map f (cond b (Some x) (find (λ y. test (f y)) xs))
    out true = refl
    out false = refl
