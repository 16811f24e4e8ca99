-- What is computed of a place is whether it has its shape.
use Rattle.std.proofs.Common.{◌≡◌, ◌≢◌, ◌≤◌, ◌<◌, ◌⊎◌, ◌&&◌, ◌||◌, inl, inr, ℕ, ◌+◌, Bool, true, false, IsTrue, nat_lt, List, length, Option, Some, None, option_map, slice_get, get_or, refl, sym, ap, ◌∙◌, subst, arith}
use Rattle.std.proofs.lemmas.List.{length-map}
use Rattle.std.proofs.lemmas.Option.{slice_get_past, slice_get-map, slice_get-get_or, slice_get_within}
use Rattle.kmipa_msgs.specs.Messages.{AnswerOf}
use Rattle.kmipa_msgs.specs.declared.request.BatchOption.{BatchOption}
use Rattle.kmipa_msgs.specs.declared.response.Status.{Status}
use Rattle.kmipa_msgs.specs.declared.response.Status.TheVariants as status
use Rattle.kmipa_passed.specs.declared.passed.Outcome.{Outcome}
use Rattle.kmipa_passed.specs.declared.passed.Outcome.TheVariants.{Done, Undone, Pending, Failed}
use Rattle.kmipa_batch.specs.Shapes.{AnswerShape, IsFirstFailed, NoneFailed}
use Rattle.kmipa_batch.specs.Fits.{FailedAt, fits}
use Rattle.kmipa_batch.proofs.ShapeLemmas.{NoneBelow, clash, less_or_not, shape_fits, shape_misfits}
use Rattle.kmipa_places.specs.Calls.{ReadOf}
use Rattle.kmipa_bundle.specs.Fits.{fits_at, fits_outcome}
use Rattle.kmipa_bundle.specs.Shapes.{HasShape, IsShaped, IsShapedAt, IsShapedBelow, OutcomeShape, answer_as, answers_as, status_of, with_status}

both_true : (a b : Bool) → (a && b) ≡ true → (a ≡ true) × (b ≡ true)
both_true true b e = (refl, e)
both_true false b e = absurd (clash e)

either_true : (a b : Bool) → (a || b) ≡ true → (a ≡ true) ⊎ (b ≡ true)
either_true true b e = inl refl
either_true false b e = inr e

neither_true : (p a b : Bool) → p ≡ true → (p && (a || b)) ≡ false → (a ≡ false) × (b ≡ false)
neither_true false a b is e = absurd (clash is)
neither_true true true b is e = absurd (clash (sym e))
neither_true true false b is e = (refl, e)

module _ (pending : Bool) (option : BatchOption) (asks : ℕ) (outcomes : List Outcome) (failed : Option ℕ) (at : FailedAt (answers_as outcomes) failed) (place : ℕ) where
  one_fits : (s : Status) → fits option failed place (nat_lt place asks) (Some s) ≡ true → AnswerShape option asks (answers_as outcomes) place (with_status s)
  one_fits s e = shape_fits asks (answers_as outcomes) place option failed (Some (with_status s)) at e

  one_misfits : (s : Status) → fits option failed place (nat_lt place asks) (Some s) ≡ false → AnswerShape option asks (answers_as outcomes) place (with_status s) → ⊥
  one_misfits s e r = shape_misfits asks (answers_as outcomes) place option failed (Some (with_status s)) at e r

  outcome_fits : (o : Outcome) → fits_outcome pending option failed place (nat_lt place asks) o ≡ true → OutcomeShape pending option asks outcomes place o
  outcome_fits Done e = one_fits status.Success e
  outcome_fits Undone e = one_fits status.Undone e
  outcome_fits Failed e = one_fits status.Failed e
  outcome_fits Pending e =
      let success : Bool = fits option failed place (nat_lt place asks) (Some status.Success) in
      let undone : Bool = fits option failed place (nat_lt place asks) (Some status.Undone) in
      let both = both_true pending (success || undone) e in
      (both.0, elim (either_true success undone both.1) [ inl a ↦ inl (one_fits status.Success a) | inr b ↦ inr (one_fits status.Undone b) ])

  outcome_misfits : (o : Outcome) → fits_outcome pending option failed place (nat_lt place asks) o ≡ false → OutcomeShape pending option asks outcomes place o → ⊥
  outcome_misfits Done e r = one_misfits status.Success e r
  outcome_misfits Undone e r = one_misfits status.Undone e r
  outcome_misfits Failed e r = one_misfits status.Failed e r
  outcome_misfits Pending e r =
      let success : Bool = fits option failed place (nat_lt place asks) (Some status.Success) in
      let undone : Bool = fits option failed place (nat_lt place asks) (Some status.Undone) in
      let none = neither_true pending success undone r.0 e in
      elim r.1 [ inl a ↦ one_misfits status.Success none.0 a | inr b ↦ one_misfits status.Undone none.1 b ]

  at_fits : (o : Option Outcome) → fits_at pending option failed place (nat_lt place asks) o ≡ true → HasShape pending option asks outcomes place o
  at_fits None e = shape_fits asks (answers_as outcomes) place option failed None at e
  at_fits (Some o) e = outcome_fits o e

  at_misfits : (o : Option Outcome) → fits_at pending option failed place (nat_lt place asks) o ≡ false → HasShape pending option asks outcomes place o → ⊥
  at_misfits None e r = shape_misfits asks (answers_as outcomes) place option failed None at e r
  at_misfits (Some o) e r = outcome_misfits o e r

pub shape_reported : (c : ReadOf) (place : ℕ) (failed : Option ℕ) (o : Option Outcome) (reported : Bool) → FailedAt (answers_as c.outcomes) failed → o ≡ slice_get c.outcomes place
    → reported ≡ fits_at c.pending c.option failed place (nat_lt place c.asks) o → (IsTrue reported → IsShapedAt c place) × (IsShapedAt c place → IsTrue reported)
shape_reported c place failed o true at is e = (
  λ h. at_fits c.pending c.option c.asks c.outcomes failed at place (slice_get c.outcomes place) (sym (e ∙ ap (fits_at c.pending c.option failed place (nat_lt place c.asks)) is)),
  λ r. refl,
)
shape_reported c place failed o false at is e = (
  λ h. absurd (clash h),
  λ r. absurd (at_misfits c.pending c.option c.asks c.outcomes failed at place (slice_get c.outcomes place) (sym (e ∙ ap (fits_at c.pending c.option failed place (nat_lt place c.asks)) is)) r),
)

-- after all items and answers each place has its shape
pub shaped_all : (c : ReadOf) (count : ℕ) → c.asks ≤ count → length c.outcomes ≤ count → IsShapedBelow c count → IsShaped c
shaped_all c count asks answers below place = elim (less_or_not place count) [
  | inl x ↦ below place x.0
  | inr x ↦ (
      let past : length c.outcomes ≤ place = (let u : count ≤ place = x.0 in omega arith) in
      let P : Option Outcome → Type 0 = λ o. HasShape c.pending c.option c.asks c.outcomes place o in
      subst P (sym (slice_get_past c.outcomes place past)) (inl (let u : count ≤ place = x.0 in omega arith)))
]

-- one place more
pub shaped_more : (c : ReadOf) (count : ℕ) → IsShapedBelow c count → IsShapedAt c count → IsShapedBelow c (count + 1)
shaped_more c count below here place h = elim (less_or_not place count) [
  | inl x ↦ below place x.0
  | inr x ↦ (
      let is : count ≡ place = (let u : count ≤ place = x.0 in omega arith) in
      let P : ℕ → Type 0 = λ k. IsShapedAt c k in
      subst P is here)
]

-- which failed first
status_failed : (o : Outcome) → status_of o ≡ status.Failed → o ≡ Failed
status_failed Done e = let bad : ⊥ = cc in absurd bad
status_failed Undone e = let bad : ⊥ = cc in absurd bad
status_failed Pending e = let bad : ⊥ = cc in absurd bad
status_failed Failed e = refl

answer_there : (outcomes : List Outcome) (place : ℕ) (d : Outcome) → place < length outcomes → slice_get (answers_as outcomes) place ≡ Some (answer_as (get_or outcomes place d))
answer_there outcomes place d h = slice_get-map answer_as outcomes place ∙ ap (option_map answer_as) (slice_get-get_or outcomes place d h)

pub none_more : (outcomes : List Outcome) (place : ℕ) (d : Outcome) → NoneBelow (answers_as outcomes) place → place < length outcomes → get_or outcomes place d ≢ Failed → NoneBelow (answers_as outcomes) (place + 1)
none_more outcomes place d n h kept = record {
  none = λ earlier other lt e. elim (less_or_not earlier place) [
    | inl x ↦ n.none earlier other x.0 e
    | inr x ↦ (λ f.
        let at : place ≡ earlier = (let u : place ≤ earlier = x.0 in omega arith) in
        let two : Some (answer_as (get_or outcomes place d)) ≡ Some other = sym (answer_there outcomes place d h) ∙ ap (slice_get (answers_as outcomes)) at ∙ e in
        let one : answer_as (get_or outcomes place d) ≡ other = cc in
        kept (status_failed (get_or outcomes place d) (ap (λ (y : AnswerOf). y.status) one ∙ f)))
  ];
}

pub first_found : (outcomes : List Outcome) (place : ℕ) (d : Outcome) → NoneBelow (answers_as outcomes) place → place < length outcomes → get_or outcomes place d ≡ Failed → IsFirstFailed (answers_as outcomes) place
first_found outcomes place d n h failed =
    record { answer = answer_as (get_or outcomes place d); there = answer_there outcomes place d h; failed = ap status_of failed; first = n.none }

pub none_found : (outcomes : List Outcome) (place : ℕ) → NoneBelow (answers_as outcomes) place → length outcomes ≤ place → NoneFailed (answers_as outcomes)
none_found outcomes place n h p other e =
    let within : p < length (answers_as outcomes) = slice_get_within (answers_as outcomes) p other e in
    n.none p other (omega (arith, h, within, length-map outcomes answer_as)) e
