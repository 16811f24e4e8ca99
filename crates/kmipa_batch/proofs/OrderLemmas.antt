-- What stands along an order of places, and the order by place.
use Rattle.std.proofs.Common.{◌≡◌, ◌≢◌, ◌≤◌, ◌<◌, inl, inr, ℕ, zero, suc, ◌+◌, ◌-◌, List, [], ◌∷◌, ◌++◌, length, take, Option, Some, None, IfSome, option_map, slice_get, get_or, refl, sym, ap, ◌∙◌, subst, arith, add-one}
use Rattle.std.specs.List.{zip}
use Rattle.std.proofs.lemmas.List.{length-map}
use Rattle.std.proofs.lemmas.Option.{slice_get-map, slice_get-get_or, slice_get_within}
use Rattle.kmipa_object.proofs.ListLemmas.{below_get}
use Rattle.kmipa_msgs.specs.declared.request.BatchOption.TheVariants.{Continue}
use Rattle.kmipa_msgs.specs.Messages.{AskOf, RequestOf, AnswerOf, ResponseOf}
use Rattle.kmipa_batch.specs.Shapes.{IsFirstFailed, AnswerShape, HasShape, IsShapedAt, IsShaped}
use Rattle.kmipa_batch.specs.Orders.{one_of, along, places_from, order_given}
use Rattle.kmipa_batch.specs.Calls.{pairs_of}
use Rattle.kmipa_batch.specs.Composing.{ByPlaceIsAll, ByPlaceIsAnOrder}
use Rattle.kmipa_batch.specs.Running.{places_of, TakesCount}
use Rattle.kmipa_batch.proofs.ShapeLemmas.{less_or_not}
use Rattle.kmipa_batch.proofs.PlaceLemmas.{take_past, zip_below, zip_above, zip_few}

-- one list of places after another
append_assoc : {A : Type 0} (xs ys zs : List A) → xs ++ (ys ++ zs) ≡ (xs ++ ys) ++ zs
append_assoc [] ys zs = refl
append_assoc (x ∷ xs) ys zs = ap (λ l. x ∷ l) (append_assoc xs ys zs)

append_none : {A : Type 0} (xs : List A) → xs ++ [] ≡ xs
append_none [] = refl
append_none (x ∷ xs) = ap (λ l. x ∷ l) (append_none xs)

pub along_append : {A : Type 0} (xs : List A) (a b : List ℕ) → along xs (a ++ b) ≡ along xs a ++ along xs b
along_append xs [] b = refl
along_append xs (p ∷ a) b = ap (λ l. one_of (slice_get xs p) ++ l) (along_append xs a b) ∙ append_assoc (one_of (slice_get xs p)) (along xs a) (along xs b)

take_none : {A : Type 0} (xs : List A) → take 0 xs ≡ []
take_none [] = refl
take_none (x ∷ xs) = refl

-- one place more
pub take_next : {A : Type 0} (xs : List A) (n : ℕ) (x : A) → slice_get xs n ≡ Some x → take (suc n) xs ≡ take n xs ++ x ∷ []
take_next [] n x e = let bad : ⊥ = cc in absurd bad
take_next (y ∷ xs) zero x e = let is : y ≡ x = cc in ap (λ z. z ∷ []) is
take_next (y ∷ xs) (suc n) x e = ap (λ l. y ∷ l) (take_next xs n x e)

pub along_next : {A : Type 0} (xs : List A) (order : List ℕ) (n place : ℕ) → slice_get order n ≡ Some place → along xs (take (n + 1) order) ≡ along xs (take n order) ++ one_of (slice_get xs place)
along_next xs order n place e =
    ap (λ k. along xs (take k order)) (add-one n) ∙ ap (along xs) (take_next order n place e) ∙ along_append xs (take n order) (place ∷ [])
    ∙ ap (λ l. along xs (take n order) ++ l) (append_none (one_of (slice_get xs place)))

-- by place
along_nothing : {A : Type 0} (order : List ℕ) → along {A = A} [] order ≡ []
along_nothing [] = refl
along_nothing (p ∷ order) = along_nothing order

along_shifted : {A : Type 0} (x : A) (xs : List A) (first count : ℕ) → along (x ∷ xs) (places_from (suc first) count) ≡ along xs (places_from first count)
along_shifted x xs first zero = refl
along_shifted x xs first (suc count) = ap (λ l. one_of (slice_get xs first) ++ l) (along_shifted x xs (suc first) count)

pub along_by_place : {A : Type 0} (xs : List A) (count : ℕ) → along xs (places_from 0 count) ≡ take count xs
along_by_place [] zero = refl
along_by_place [] (suc count) = along_nothing (places_from 1 count)
along_by_place (x ∷ xs) zero = refl
along_by_place (x ∷ xs) (suc count) = ap (λ l. x ∷ l) (along_shifted x xs 0 count ∙ along_by_place xs count)

pub by_place_is_all : ByPlaceIsAll
by_place_is_all request response count h = along_by_place (pairs_of request response) count ∙ take_past (pairs_of request response) count h

pub length_from : (first count : ℕ) → length (places_from first count) ≡ count
length_from first zero = refl
length_from first (suc count) = ap suc (length_from (suc first) count)

pub take_from : (first n count : ℕ) → n ≤ count → take n (places_from first count) ≡ places_from first n
take_from first zero zero h = refl
take_from first zero (suc count) h = refl
take_from first (suc n) zero h = absurd (omega arith)
take_from first (suc n) (suc count) h = ap (λ l. first ∷ l) (take_from (suc first) n count (omega arith))

pub from_within : (first n count : ℕ) → n < count → slice_get (places_from first count) n ≡ Some (first + n)
from_within first n zero h = absurd (omega arith)
from_within first zero (suc count) h = let is : first ≡ first + 0 = omega arith in ap Some is
from_within first (suc n) (suc count) h = let is : suc first + n ≡ first + suc n = omega arith in from_within (suc first) n count (omega arith) ∙ ap Some is

pub from_below : (first n count place : ℕ) → slice_get (places_from first count) n ≡ Some place → n < count
from_below first n zero place e = let bad : ⊥ = cc in absurd bad
from_below first zero (suc count) place e = omega arith
from_below first (suc n) (suc count) place e = let h : n < count = from_below (suc first) n count place e in omega arith

pub from_is : (n count place : ℕ) → slice_get (places_from 0 count) n ≡ Some place → place ≡ n
from_is n count place e =
    let two : Some place ≡ Some (0 + n) = sym e ∙ from_within 0 n count (from_below 0 n count place e) in
    let one : place ≡ 0 + n = cc in omega arith

-- one place more of them
pub from_last : (first count : ℕ) → places_from first (suc count) ≡ places_from first count ++ (first + count) ∷ []
from_last first zero = let is : first ≡ first + 0 = omega arith in ap (λ x. x ∷ []) is
from_last first (suc count) =
    let is : suc first + count ≡ first + suc count = omega arith in
    ap (λ l. first ∷ l) (from_last (suc first) count ∙ ap (λ x. places_from (suc first) count ++ x ∷ []) is)

-- what two lists have at these places is the same
pub along_same : {A : Type 0} (xs ys : List A) (order : List ℕ) → ((position place : ℕ) → slice_get order position ≡ Some place → slice_get xs place ≡ slice_get ys place) → along xs order ≡ along ys order
along_same xs ys [] same = refl
along_same xs ys (place ∷ order) same =
    ap (λ o. one_of o ++ along xs order) (same zero place refl)
    ∙ ap (λ l. one_of (slice_get ys place) ++ l) (along_same xs ys order (λ position other e. same (suc position) other e))

-- where something stands at each place, the first of what stands along them stands along the first
take_first : {A : Type 0} (x : A) (o : Option A) (l : List A) (n : ℕ) → o ≡ Some x → take (suc n) (one_of o ++ l) ≡ one_of o ++ take n l
take_first x o l n e = ap (λ z. take (suc n) (one_of z ++ l)) e ∙ ap (λ z. one_of z ++ take n l) (sym e)

pub along_take : {A : Type 0} (xs : List A) (order : List ℕ) (n : ℕ) → ((position place : ℕ) → slice_get order position ≡ Some place → (x : A) × (slice_get xs place ≡ Some x))
    → take n (along xs order) ≡ along xs (take n order)
along_take xs [] zero there = refl
along_take xs [] (suc n) there = refl
along_take xs (place ∷ order) zero there = take_none (along xs (place ∷ order))
along_take xs (place ∷ order) (suc n) there =
    let x = there zero place refl in
    take_first x.0 (slice_get xs place) (along xs order) n x.1
    ∙ ap (λ l. one_of (slice_get xs place) ++ l) (along_take xs order n (λ position other e. there (suc position) other e))

-- the order that was handed in
pub order_within : (places : Option (List ℕ)) (count position : ℕ) → length (places_of (order_given places) count) ≡ count → position < count → IfSome places (λ ps. position < length ps)
order_within None count position e h = tt
order_within (Some ps) count position e h = omega (arith, length-map ps (λ (place : ℕ). place - 1))

pub order_at : (places : Option (List ℕ)) (count position place : ℕ) → position < count → slice_get (places_of (order_given places) (position + 1)) position ≡ Some place
    → slice_get (places_of (order_given places) count) position ≡ Some place
order_at None count position place h e =
    let is : place ≡ position = from_is position (position + 1) place e in
    let zero_on : 0 + position ≡ position = omega arith in
    from_within 0 position count h ∙ ap Some (zero_on ∙ sym is)
order_at (Some ps) count position place h e = e

pub by_place_at : (position : ℕ) → slice_get (places_of (order_given None) (position + 1)) position ≡ Some position
by_place_at position = let zero_on : 0 + position ≡ position = omega arith in from_within 0 position (position + 1) (omega arith) ∙ ap Some zero_on

pub given_at : (places : List ℕ) (count position d : ℕ) → position < length places → slice_get (places_of (order_given (Some places)) count) position ≡ Some (get_or places position d - 1)
given_at places count position d h =
    let before : ℕ → ℕ = λ place. place - 1 in
    slice_get-map before places position ∙ ap (option_map before) (slice_get-get_or places position d h)

pub given_long : (places : Option (List ℕ)) (request : RequestOf) (count : ℕ) → TakesCount request places count → length (places_of (order_given places) count) ≡ count
given_long None request count h = length_from 0 count
given_long (Some ps) request count h = length-map ps (λ (place : ℕ). place - 1) ∙ sym h

-- by place is an order of taking
pub by_place_is_an_order : ByPlaceIsAnOrder
by_place_is_an_order request response shaped =
    let asks : List AskOf = request.items in
    let answers : List AnswerOf = response.items in
    let count : ℕ = length (zip asks answers) in
    record {
      answered = λ position place e.
          let is : place ≡ position = from_is position count place e in
          let below : position < count = from_below 0 position count place e in
          zip_below asks answers place (omega (arith, is, below));
      all = λ place h.
          let zero_on : 0 + place ≡ place = omega arith in
          (place, from_within 0 place count (zip_above asks answers place h.0 h.1) ∙ ap Some zero_on);
      once = λ position other place e f.
          let one : place ≡ position = from_is position count place e in
          let two : place ≡ other = from_is other count place f in
          sym one ∙ two;
      last = λ ends failed first.
          let at = shape_there request response failed first.answer (shaped failed) first.there in
          let within : failed < length answers = slice_get_within answers failed first.answer first.there in
          let short : length answers ≤ suc failed = none_behind request response shaped ends failed first in
          let above : failed < count = zip_above asks answers failed at.asked within in
          let few : count ≤ length answers = zip_few asks answers in
          let is : count ≡ suc failed = omega (arith, short, above, few) in
          let zero_on : 0 + failed ≡ failed = omega arith in
          (places_from 0 failed, ap (places_from 0) is ∙ from_last 0 failed ∙ ap (λ x. places_from 0 failed ++ x ∷ []) zero_on);
    }
  where
    shape_there : (request : RequestOf) (response : ResponseOf) (place : ℕ) (answer : AnswerOf) → IsShapedAt request response place → slice_get response.items place ≡ Some answer
        → AnswerShape request.option (length request.items) response.items place answer
    shape_there request response place answer h e =
        let P : Option AnswerOf → Type 0 = λ o. HasShape request.option (length request.items) response.items place o in
        subst P e h

    none_behind : (request : RequestOf) (response : ResponseOf) → IsShaped request response → request.option ≢ Continue → (failed : ℕ) → IsFirstFailed response.items failed → length response.items ≤ suc failed
    none_behind request response shaped ends failed first = elim (less_or_not (suc failed) (length response.items)) [
      | inr x ↦ x.0
      | inl x ↦ (
          let a = below_get response.items (suc failed) x.0 in
          let at = shape_there request response (suc failed) a.0 (shaped (suc failed)) a.1 in
          let bad : suc failed ≤ failed = at.ends ends failed first in
          absurd (omega (arith, bad)))
    ]
