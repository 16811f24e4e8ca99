-- The pairs of asks and answers up to a place.
use Rattle.std.proofs.Common.{◌≡◌, ◌≤◌, ◌<◌, ℕ, zero, suc, ◌+◌, true, List, [], ◌∷◌, ◌++◌, length, take, Option, Some, None, option_map, slice_get, get_or, map, refl, sym, ap, ◌∙◌, arith, add-one}
use Rattle.std.specs.List.{zip}
use Rattle.std.proofs.lemmas.Option.{slice_get_past, slice_get_read, slice_get-map}
use Rattle.kmipa_msgs.specs.Messages.{AskOf, AnswerOf}
use Rattle.kmipa_ops.specs.Explains.{is_readable}
use Rattle.kmipa_batch.specs.Readable.{AreReadable}
use Rattle.kmipa_batch.specs.Orders.{one_of}

-- one place more
take_suc : {A : Type 0} (xs : List A) (n : ℕ) → take (suc n) xs ≡ take n xs ++ one_of (slice_get xs n)
take_suc [] zero = refl
take_suc [] (suc n) = refl
take_suc (x ∷ xs) zero = refl
take_suc (x ∷ xs) (suc n) = ap (λ ys. x ∷ ys) (take_suc xs n)

pub take_one_more : {A : Type 0} (xs : List A) (n : ℕ) → take (n + 1) xs ≡ take n xs ++ one_of (slice_get xs n)
take_one_more xs n = ap (λ k. take k xs) (add-one n) ∙ take_suc xs n

-- pairs by their place
pub pair_both : {A B : Type 0} (xs : List A) (ys : List B) (n : ℕ) (x : A) (y : B) → slice_get xs n ≡ Some x → slice_get ys n ≡ Some y → slice_get (zip xs ys) n ≡ Some (x, y)
pair_both [] ys n x y e f = let bad : ⊥ = cc in absurd bad
pair_both (a ∷ xs) [] n x y e f = let bad : ⊥ = cc in absurd bad
pair_both (a ∷ xs) (b ∷ ys) zero x y e f = let p : a ≡ x = cc in let q : b ≡ y = cc in ap (λ c. Some (c, b)) p ∙ ap (λ c. Some (x, c)) q
pair_both (a ∷ xs) (b ∷ ys) (suc n) x y e f = pair_both xs ys n x y e f

pub pair_no_left : {A B : Type 0} (xs : List A) (ys : List B) (n : ℕ) → slice_get xs n ≡ None → slice_get (zip xs ys) n ≡ None
pair_no_left [] ys n e = refl
pair_no_left (a ∷ xs) [] n e = refl
pair_no_left (a ∷ xs) (b ∷ ys) zero e = let bad : ⊥ = cc in absurd bad
pair_no_left (a ∷ xs) (b ∷ ys) (suc n) e = pair_no_left xs ys n e

pub pair_no_right : {A B : Type 0} (xs : List A) (ys : List B) (n : ℕ) → slice_get ys n ≡ None → slice_get (zip xs ys) n ≡ None
pair_no_right [] ys n e = refl
pair_no_right (a ∷ xs) [] n e = refl
pair_no_right (a ∷ xs) (b ∷ ys) zero e = let bad : ⊥ = cc in absurd bad
pair_no_right (a ∷ xs) (b ∷ ys) (suc n) e = pair_no_right xs ys n e

-- what is there of both
abbrev pub both : {A B : Type 0} → Option A → Option B → Option (A × B)
both None y = None
both (Some x) None = None
both (Some x) (Some y) = Some (x, y)

both_none : {A B : Type 0} (o : Option A) → both {A = A} {B = B} o None ≡ None
both_none None = refl
both_none (Some x) = refl

pub zip_get : {A B : Type 0} (xs : List A) (ys : List B) (n : ℕ) → slice_get (zip xs ys) n ≡ both (slice_get xs n) (slice_get ys n)
zip_get [] ys n = refl
zip_get (a ∷ xs) [] zero = refl
zip_get (a ∷ xs) [] (suc n) = sym (both_none (slice_get xs n))
zip_get (a ∷ xs) (b ∷ ys) zero = refl
zip_get (a ∷ xs) (b ∷ ys) (suc n) = zip_get xs ys n

-- a place below the pairs is below both
pub zip_below : {A B : Type 0} (xs : List A) (ys : List B) (n : ℕ) → n < length (zip xs ys) → (n < length xs) × (n < length ys)
zip_below [] ys n h = absurd (omega arith)
zip_below (a ∷ xs) [] n h = absurd (omega arith)
zip_below (a ∷ xs) (b ∷ ys) zero h = (omega arith, omega arith)
zip_below (a ∷ xs) (b ∷ ys) (suc n) h = let r = zip_below xs ys n (omega (arith, h)) in (omega (arith, r.0), omega (arith, r.1))

pub zip_above : {A B : Type 0} (xs : List A) (ys : List B) (n : ℕ) → n < length xs → n < length ys → n < length (zip xs ys)
zip_above [] ys n h g = absurd (omega (arith, h))
zip_above (a ∷ xs) [] n h g = absurd (omega (arith, g))
zip_above (a ∷ xs) (b ∷ ys) zero h g = omega arith
zip_above (a ∷ xs) (b ∷ ys) (suc n) h g = let r = zip_above xs ys n (omega (arith, h)) (omega (arith, g)) in omega (arith, r)

pub zip_few : {A B : Type 0} (xs : List A) (ys : List B) → length (zip xs ys) ≤ length ys
zip_few [] ys = omega arith
zip_few (a ∷ xs) [] = omega arith
zip_few (a ∷ xs) (b ∷ ys) = let r = zip_few xs ys in omega (arith, r)

-- all pairs
pub take_past : {A : Type 0} (xs : List A) (n : ℕ) → length xs ≤ n → take n xs ≡ xs
take_past [] zero h = refl
take_past [] (suc n) h = refl
take_past (x ∷ xs) zero h = absurd (omega arith)
take_past (x ∷ xs) (suc n) h = ap (λ ys. x ∷ ys) (take_past xs n (omega arith))

pub zip_short : {A B : Type 0} (xs : List A) (ys : List B) (n : ℕ) → length xs ≤ n → length (zip xs ys) ≤ n
zip_short [] ys n h = omega arith
zip_short (x ∷ xs) [] n h = omega arith
zip_short (x ∷ xs) (y ∷ ys) zero h = absurd (omega arith)
zip_short (x ∷ xs) (y ∷ ys) (suc n) h = let r : length (zip xs ys) ≤ n = zip_short xs ys n (omega arith) in omega arith

-- a readable pair
pub readable_at : (pairs : List (AskOf × AnswerOf)) (n : ℕ) (ask : AskOf) (answer : AnswerOf) → AreReadable pairs → slice_get pairs n ≡ Some (ask, answer) → is_readable ask answer ≡ true
readable_at [] n ask answer r e = let bad : ⊥ = cc in absurd bad
readable_at (p ∷ pairs) zero ask answer r e =
    let is : p ≡ (ask, answer) = cc in
    ap (λ (x : AskOf × AnswerOf). is_readable x.0 x.1) (sym is) ∙ r.0
readable_at (p ∷ pairs) (suc n) ask answer r e = readable_at pairs n ask answer r.1 e

-- what a list has at a place, and what it means
pub got_some : {A B : Type 0} (f : A → B) (lent items : List A) (n : ℕ) (x : A) → lent ≡ items → n < length lent → x ≡ get_or lent n x → slice_get (map f items) n ≡ Some (f x)
got_some f lent items n x same h is = slice_get-map f items n ∙ ap (λ xs. option_map f (slice_get xs n)) (sym same) ∙ ap (option_map f) (slice_get_read lent (length lent) n x refl h is)

pub got_none : {A B : Type 0} (f : A → B) (lent items : List A) (n : ℕ) → lent ≡ items → length lent ≤ n → slice_get (map f items) n ≡ None
got_none f lent items n same h = slice_get-map f items n ∙ ap (λ xs. option_map f (slice_get xs n)) (sym same) ∙ ap (option_map f) (slice_get_past lent n h)
