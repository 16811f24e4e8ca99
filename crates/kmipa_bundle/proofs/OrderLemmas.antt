-- A request and a response of which nothing is known but how each answer ends, and the places of a call.
use Rattle.std.proofs.Common.{◌≡◌, ◌<◌, ◌≤◌, ◌∙◌, refl, sym, ap, ℕ, zero, suc, ◌+◌, List, [], ◌∷◌, ◌++◌, length, map, take, replicate, get_or, add-one, arith, Bool, true, false, IsTrue}
use Rattle.std.proofs.Math.Dec.{leb}
use Rattle.std.proofs.lemmas.Bool.{leb-false, leb-true}
use Rattle.std.proofs.lemmas.List.{length-map}
use Rattle.std.proofs.lemmas.Option.{slice_get-get_or}
use Rattle.kmipa_object.proofs.ListLemmas.{map-push}
use Rattle.kmipa_msgs.specs.Messages.{ask_of, answer_of}
use Rattle.kmipa_msgs.specs.declared.request.Ask.{Ask}
use Rattle.kmipa_msgs.specs.declared.response.Answer.{Answer}
use Rattle.kmipa_passed.specs.declared.passed.Outcome.{Outcome}
use Rattle.kmipa_batch.proofs.OrderLemmas.{take_next}
use Rattle.kmipa_batch.proofs.PlaceLemmas.{take_past}
use Rattle.kmipa_batch.proofs.ShapeLemmas.{clash}
use Rattle.kmipa_places.specs.Calls.{ReadOf}
use Rattle.kmipa_bundle.specs.Bundles.{IsWhole}
use Rattle.kmipa_bundle.specs.Shapes.{answer_as, answers_as, some_ask}

replicate_more : {A : Type 0} (n : ℕ) (x : A) → replicate n x ++ x ∷ [] ≡ replicate (suc n) x
replicate_more zero x = refl
replicate_more (suc n) x = ap (λ l. x ∷ l) (replicate_more n x)

pub asks_more : (items : List Ask) (n : ℕ) (a : Ask) → map ask_of items ≡ replicate n some_ask → ask_of a ≡ some_ask → map ask_of (items ++ a ∷ []) ≡ replicate (n + 1) some_ask
asks_more items n a e is =
    map-push ask_of items a ∙ ap (λ l. l ++ ask_of a ∷ []) e ∙ ap (λ x. replicate n some_ask ++ x ∷ []) is ∙ replicate_more n some_ask
    ∙ ap (λ k. replicate k some_ask) (sym (add-one n))

pub answers_more : (items : List Answer) (outcomes : List Outcome) (n : ℕ) (d : Outcome) (a : Answer) → map answer_of items ≡ answers_as (take n outcomes) → n < length outcomes
    → answer_of a ≡ answer_as (get_or outcomes n d) → map answer_of (items ++ a ∷ []) ≡ answers_as (take (n + 1) outcomes)
answers_more items outcomes n d a e h is =
    map-push answer_of items a ∙ ap (λ l. l ++ answer_of a ∷ []) e ∙ ap (λ x. answers_as (take n outcomes) ++ x ∷ []) is
    ∙ sym (map-push answer_as (take n outcomes) (get_or outcomes n d))
    ∙ ap answers_as (sym (take_next outcomes n (get_or outcomes n d) (slice_get-get_or outcomes n d h)))
    ∙ ap (λ k. answers_as (take k outcomes)) (sym (add-one n))

pub answers_done : (items : List Answer) (outcomes : List Outcome) (n : ℕ) → map answer_of items ≡ answers_as (take n outcomes) → length outcomes ≤ n → map answer_of items ≡ answers_as outcomes
answers_done items outcomes n e h = e ∙ ap answers_as (take_past outcomes n h)

pub replicate_long : {A : Type 0} (n : ℕ) (x : A) → length (replicate n x) ≡ n
replicate_long zero x = refl
replicate_long (suc n) x = ap suc (replicate_long n x)

-- each item that has an answer has its place
module _ (c : ReadOf) (few count : ℕ) (long : count ≡ length c.places) (asks : few ≤ c.asks) (answers : few ≤ length c.outcomes) (most : (k : ℕ) → k < c.asks → k < length c.outcomes → k < few) where
  is_whole : few ≤ count → IsWhole c
  is_whole h place there =
      let a : place < c.asks = (let x = there.0 in let l = replicate_long c.asks some_ask in omega (arith, x, l)) in
      let b : place < length c.outcomes = (let x = there.1 in let l = length-map c.outcomes answer_as in omega (arith, x, l)) in
      let m = most place a b in omega (arith, m, h, long)

  isnt_whole : count < few → IsWhole c → ⊥
  isnt_whole h whole =
      let l = replicate_long c.asks some_ask in
      let w = length-map c.outcomes answer_as in
      let bad = whole (length c.places) (omega (arith, h, long, asks, l), omega (arith, h, long, answers, w)) in omega (arith, bad)

  pub whole_reported : (reported : Bool) → leb few count ≡ reported → (IsTrue reported → IsWhole c) × (IsWhole c → IsTrue reported)
  whole_reported true e = (λ h. is_whole (leb-true few count e), λ w. refl)
  whole_reported false e = (λ h. absurd (clash h), λ w. absurd (isnt_whole (leb-false few count e) w))
