-- The items of a step more, and what becomes of them.
use Rattle.std.proofs.Common.{◌≡◌, ◌<◌, ℕ, zero, suc, ◌+◌, ◌-◌, Bool, true, false, List, [], ◌∷◌, ◌++◌, length, take, Option, Some, None, slice_get, refl, sym, ap, ◌∙◌, arith, add-one}
use Rattle.std.proofs.lemmas.List.Filters.{length-filter_both}
use Rattle.std.proofs.lemmas.List.Sums.{count_by_more_no, count_by_more_yes, length-filter}
use Rattle.std.proofs.lemmas.Option.{get_or_from_slice_get, slice_get_within}
use Rattle.std.specs.Prelude.{cond, min, not, get_or}
use Rattle.std.specs.List.{count_by, zip}
use Rattle.kmipa_ttlv.specs.Stream.{capped}
use Rattle.kmipa_msgs.specs.declared.rules.Unjudged.{Unjudged}
use Rattle.kmipa_msgs.specs.declared.rules.Unjudged.TheVariants as unjudged
use Rattle.kmipa_msgs.specs.Messages.{AskOf, AnswerOf}
use Rattle.kmipa_batch.specs.Calls.{pairs_of}
use Rattle.kmipa_check.specs.Steps.{StepOf}
use Rattle.kmipa_check.proofs.RunLemmas.{take_next}
use Rattle.kmipa_stream.specs.Counting.{asks_judged, asks_other, count_in, items_in, tally_of}
use Rattle.kmipa_stream.specs.Replaying.{counts_under, tally_under}
use Rattle.kmipa_stream.specs.declared.counts.Counts.{Counts}
use Rattle.kmipa_stream.specs.declared.tally.Tally.{Tally}

-- a place of both lists is one below the shorter
pub length_of_zip : {A B : Type 0} (xs : List A) (ys : List B) → length (zip xs ys) ≡ min (length xs) (length ys)
length_of_zip [] ys = omega arith
length_of_zip (x ∷ xs) [] = omega arith
length_of_zip (x ∷ xs) (y ∷ ys) = let r = length_of_zip xs ys in omega (arith, r)

-- the pair at a place of both
pub at_zip : {A B : Type 0} (xs : List A) (ys : List B) (place : ℕ) (x : A) (y : B) → slice_get xs place ≡ Some x → slice_get ys place ≡ Some y → slice_get (zip xs ys) place ≡ Some (x, y)
at_zip [] ys place x y here there = absurd cc
at_zip (z ∷ xs) [] place x y here there = absurd cc
at_zip (z ∷ xs) (w ∷ ys) zero x y here there =
    let one : z ≡ x = cc in
    let other : w ≡ y = cc in
    ap (λ (v : _). Some (v, w)) one ∙ ap (λ (v : _). Some (x, v)) other
at_zip (z ∷ xs) (w ∷ ys) (suc place) x y here there = at_zip xs ys place x y here there

-- what passes a test, and what doesn't
count_both : {X : Type 0} (test : X → Bool) (xs : List X) → count_by test xs + count_by (λ x. not (test x)) xs ≡ length xs
count_both test xs =
    let both = length-filter_both test (λ x. not (test x)) (λ x. refl) xs in
    omega (arith, both, length-filter test xs, length-filter (λ x. not (test x)) xs)

items_behind : (steps : List StepOf) (s : StepOf) → items_in (steps ++ s ∷ []) ≡ items_in steps + length (pairs_of s.request s.response)
items_behind [] s = omega arith
items_behind (t ∷ steps) s = let r = items_behind steps s in omega (arith, r)

counted_behind : (test : AskOf × AnswerOf → Bool) (steps : List StepOf) (s : StepOf) → count_in test (steps ++ s ∷ []) ≡ count_in test steps + count_by test (pairs_of s.request s.response)
counted_behind test [] s = omega arith
counted_behind test (t ∷ steps) s = let r = counted_behind test steps s in omega (arith, r)

-- what becomes of the items of a step more
pub tally_more : (steps : List StepOf) (s : StepOf) (t more : Tally) (judged answered : ℕ) → t ≡ tally_of steps → judged ≡ count_by asks_judged (pairs_of s.request s.response)
    → answered ≡ length (pairs_of s.request s.response) → more.judged ≡ capped (t.judged + judged) → more.by_request ≡ capped (t.by_request + (answered - judged)) → more ≡ tally_of (steps ++ s ∷ [])
tally_more steps s t more judged answered before some all are others =
    let made : ℕ → ℕ → Tally = λ j r. record { judged = j; by_request = r } in
    let both = count_both asks_judged (pairs_of s.request s.response) in
    let j : more.judged ≡ capped (count_in asks_judged (steps ++ s ∷ [])) =
    omega (arith, are, some, ap (λ (x : Tally). x.judged) before, counted_behind asks_judged steps s) in
    let r : more.by_request ≡ capped (count_in asks_other (steps ++ s ∷ [])) =
    omega (arith, others, some, all, both, ap (λ (x : Tally). x.by_request) before, counted_behind asks_other steps s) in
    ap (λ (n : ℕ). made n more.by_request) j ∙ ap (made (capped (count_in asks_judged (steps ++ s ∷ [])))) r

-- what is told of them
module _ (steps : List StepOf) (s : StepOf) where
  pub told_more : (u : Unjudged) (t more : Tally) → ((before : List StepOf) → t ≡ tally_of before → more ≡ tally_of (before ++ s ∷ [])) → Some t ≡ tally_under u steps → Some more ≡ tally_under u (steps ++ s ∷ [])
  told_more unjudged.Refused t more goes is = absurd cc
  told_more unjudged.SetAside t more goes is = let same : t ≡ tally_of steps = cc in ap Some (goes steps same)
  told_more unjudged.Unknown t more goes is = let same : t ≡ tally_of steps = cc in ap Some (goes steps same)

  pub untold_more : (u : Unjudged) → None ≡ tally_under u steps → None ≡ tally_under u (steps ++ s ∷ [])
  untold_more unjudged.Refused is = refl
  untold_more unjudged.SetAside is = absurd cc
  untold_more unjudged.Unknown is = absurd cc

  pub counts_more : (u : Unjudged) (counts : Counts) (items more : ℕ) (tally : Option Tally) → counts ≡ counts_under u steps → more ≡ length (pairs_of s.request s.response)
      → items ≡ capped (counts.items + more) → (counts.tally ≡ tally_under u steps → tally ≡ tally_under u (steps ++ s ∷ []))
      → record { items = items; tally = tally } ≡ counts_under u (steps ++ s ∷ [])
  counts_more u counts items more tally before all are goes =
      let made : ℕ → Option Tally → Counts = λ n t. record { items = n; tally = t } in
      let i : items ≡ capped (items_in (steps ++ s ∷ [])) = omega (arith, are, all, ap (λ (x : Counts). x.items) before, items_behind steps s) in
      ap (λ (n : ℕ). made n tally) i ∙ ap (made (capped (items_in (steps ++ s ∷ [])))) (goes (ap (λ (x : Counts). x.tally) before))

-- the step at a place is counted behind those before it
pub counted_more : (u : Unjudged) (order : List StepOf) (count : ℕ) (s : StepOf) (counts more : Counts) → slice_get order count ≡ Some s → counts ≡ counts_under u (take count order)
    → ((steps : List StepOf) → counts ≡ counts_under u steps → more ≡ counts_under u (steps ++ s ∷ [])) → more ≡ counts_under u (take (count + 1) order)
counted_more u order count s counts more there before goes =
    goes (take count order) before ∙ ap (counts_under u) (sym (take_next order count s there)) ∙ ap (λ (n : ℕ). counts_under u (take n order)) (sym (add-one count))

-- ---- pairs that are counted one after the other

module _ (asks : List AskOf) (answers : List AnswerOf) (place : ℕ) (ask : AskOf) (answer : AnswerOf) (here : slice_get asks place ≡ Some ask) (there : slice_get answers place ≡ Some answer)
    (count : ℕ) (before : count ≡ count_by asks_judged (take place (zip asks answers))) where
  pair_at : get_or (zip asks answers) place (ask, answer) ≡ (ask, answer)
  pair_at = get_or_from_slice_get (zip asks answers) place (ask, answer) (ask, answer) (at_zip asks answers place ask answer here there)

  within : place < length (zip asks answers)
  within = slice_get_within (zip asks answers) place (ask, answer) (at_zip asks answers place ask answer here there)

  pub judged_more : asks_judged (ask, answer) ≡ true → count + 1 ≡ count_by asks_judged (take (place + 1) (zip asks answers))
  judged_more is = let r = count_by_more_yes asks_judged (zip asks answers) place (ask, answer) within (ap asks_judged pair_at ∙ is) in omega (arith, r, before)

  pub other_more : asks_judged (ask, answer) ≡ false → count ≡ count_by asks_judged (take (place + 1) (zip asks answers))
  other_more is = let r = count_by_more_no asks_judged (zip asks answers) place (ask, answer) within (ap asks_judged pair_at ∙ is) in omega (arith, r, before)

  pub counted_more_by : (one : ℕ) → one ≡ cond (asks_judged (ask, answer)) 1 0 → count + one ≡ count_by asks_judged (take (place + 1) (zip asks answers))
  counted_more_by one is = by (asks_judged (ask, answer)) refl is
    where
      by : (b : Bool) → asks_judged (ask, answer) ≡ b → one ≡ cond b 1 0 → count + one ≡ count_by asks_judged (take (place + 1) (zip asks answers))
      by true e o = let r = judged_more e in omega (arith, r, o)
      by false e o = let r = other_more e in omega (arith, r, o)

-- a place within a list has an element
pub at_place : {X : Type 0} (xs : List X) (place : ℕ) → place < length xs → (x : X) × (slice_get xs place ≡ Some x)
at_place [] place below = absurd (omega (arith, below))
at_place (x ∷ xs) zero below = (x, refl)
at_place (x ∷ xs) (suc place) below = at_place xs place (omega (arith, below))
