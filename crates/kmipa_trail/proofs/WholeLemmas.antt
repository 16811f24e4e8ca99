-- A call of which nothing is outside, as one that can be read: it can be taken.
use Rattle.std.proofs.Common.{◌≡◌, ◌<◌, ◌≤◌, ◌&&◌, ◌||◌, ℕ, zero, suc, Bool, true, false, List, [], ◌∷◌, map, length, Option, Some, None, option_map, slice_get, Contains, refl, sym, ap, ◌∙◌, subst, arith}
use Rattle.std.specs.List.{list_all}
use Rattle.std.specs.Prelude.{All, IfSome, IsTrue, is_none}
use Rattle.std.proofs.lemmas.List.{length-map}
use Rattle.kmipa_msgs.specs.Messages.{AskOf, AnswerOf, RequestOf, ResponseOf}
use Rattle.kmipa_msgs.specs.declared.response.Status.{Status}
use Rattle.kmipa_msgs.specs.declared.response.Status.TheVariants.{Success, Failed, Undone}
use Rattle.kmipa_record.specs.Marks.{MarkOf}
use Rattle.kmipa_batch.specs.Calls.{RefusesMessage, pairs_of}
use Rattle.kmipa_batch.specs.Orders.{order_given}
use Rattle.kmipa_batch.specs.Readable.{AreReadable, IsReadableCall}
use Rattle.kmipa_batch.specs.Shapes.{is_failed}
use Rattle.kmipa_batch.proofs.PlaceLemmas.{zip_above}
use Rattle.kmipa_batch.proofs.ShapeLemmas.{Alike, first_alike}
use Rattle.kmipa_bundle.specs.Bundles.{IsWhole, MayTake}
use Rattle.kmipa_bundle.specs.Refusals.{is_readable_at, is_readable_call}
use Rattle.kmipa_bundle.specs.Shapes.{answer_as, answers_as, some_ask}
use Rattle.kmipa_bundle.proofs.OrderLemmas.{replicate_long}
use Rattle.kmipa_check.specs.Places.{MayBeTaken}
use Rattle.kmipa_check.specs.Replays as ever_replays
use Rattle.kmipa_check.specs.Steps as ever
use Rattle.kmipa_check.proofs.PlaceLemmas.{at_contains, contains_at, mapped_from}
use Rattle.kmipa_turns.specs.Laws.{IsTakable}
use Rattle.kmipa_turns.specs.Steps.{StepOf, takes}
use Rattle.kmipa_trail.specs.Replays.{AllTakable}
use Rattle.kmipa_trail.specs.Whole.{is_refused, judged_pair, outcome_in, whole_call, whole_step}

-- ---- a refused message

refusal_of : (s : Status) (o : Option ℕ) → (is_failed s && is_none o) ≡ true → (s ≡ Failed) × (o ≡ None)
refusal_of Success o e = absurd cc
refusal_of Undone o e = absurd cc
refusal_of Failed None e = (refl, refl)
refusal_of Failed (Some n) e = absurd cc

refused_is : (r : ResponseOf) → is_refused r.items ≡ true → RefusesMessage r
refused_is r e = by r.items refl e
  where
    by : (items : List AnswerOf) → r.items ≡ items → is_refused items ≡ true → RefusesMessage r
    by [] f g = absurd cc
    by (a ∷ []) f g = let h = refusal_of a.status a.operation g in record { answer = a; alone = f; failed = h.0; unnamed = h.1 }
    by (a ∷ b ∷ rest) f g = absurd cc

is_refused_by : (r : ResponseOf) → RefusesMessage r → is_refused r.items ≡ true
is_refused_by r h =
    ap is_refused h.alone ∙ ap (λ (s : Status). is_failed s && is_none h.answer.operation) h.failed ∙ ap (λ (o : Option ℕ). is_none o) h.unnamed

pub refused_told : (r : ResponseOf) (b : Bool) → (IsTrue b → RefusesMessage r) → (RefusesMessage r → IsTrue b) → b ≡ is_refused r.items
refused_told r true f g = sym (is_refused_by r (f refl))
refused_told r false f g = by (is_refused r.items) refl
  where
    by : (x : Bool) → is_refused r.items ≡ x → false ≡ is_refused r.items
    by true e = let bad : IsTrue false = g (refused_is r e) in absurd cc
    by false e = sym e

-- ---- its places

module _ (q : RequestOf) (r : ResponseOf) where
  whole : IsWhole (whole_call q r)
  whole place there =
      let asks : place < length q.items = (let h = there.0 in let l = replicate_long (length q.items) some_ask in omega (arith, h, l)) in
      let many : length (answers_as (map outcome_in r.items)) ≡ length r.items = length-map (map outcome_in r.items) answer_as ∙ length-map r.items outcome_in in
      let answers : place < length r.items = (let h = there.1 in omega (arith, h, many)) in
      let z = zip_above q.items r.items place asks answers in
      let l = length-map (pairs_of q r) judged_pair in
      omega (arith, z, l)

  all_readable : (pairs : List (AskOf × AnswerOf)) → AreReadable pairs → list_all is_readable_at (map judged_pair pairs) ≡ true
  all_readable [] h = refl
  all_readable (pair ∷ pairs) h = ap (λ (b : Bool). b && list_all is_readable_at (map judged_pair pairs)) h.0 ∙ all_readable pairs h.1

  readable : IsReadableCall q r → is_readable_call (whole_call q r) ≡ true
  readable h = by (is_refused r.items) refl
    where
      by : (b : Bool) → is_refused r.items ≡ b → is_readable_call (whole_call q r) ≡ true
      by true e = ap (λ (x : Bool). x || list_all is_readable_at (map judged_pair (pairs_of q r))) e
      by false e =
          ap (λ (x : Bool). x || list_all is_readable_at (map judged_pair (pairs_of q r))) e
          ∙ all_readable (pairs_of q r) (h (λ refuses. let bad : true ≡ false = sym (is_refused_by r refuses) ∙ e in absurd cc))

  status_back : (o : Option AnswerOf) → option_map (λ (a : AnswerOf). a.status) (option_map answer_as (option_map outcome_in o)) ≡ option_map (λ (a : AnswerOf). a.status) o
  status_back None = refl
  status_back (Some a) = by a.status refl
    where
      by : (s : Status) → a.status ≡ s → Some (answer_as (outcome_in a)).status ≡ Some a.status
      by Success e = search
      by Failed e = search
      by Undone e = search

  get_mapped : {A B : Type 0} (f : A → B) (xs : List A) (n : ℕ) → slice_get (map f xs) n ≡ option_map f (slice_get xs n)
  get_mapped f [] n = refl
  get_mapped f (x ∷ xs) zero = refl
  get_mapped f (x ∷ xs) (suc n) = get_mapped f xs n

  alike : Alike (answers_as (map outcome_in r.items)) r.items
  alike = record {
    same = λ place.
        ap (option_map (λ (a : AnswerOf). a.status)) (get_mapped answer_as (map outcome_in r.items) place ∙ ap (option_map answer_as) (get_mapped outcome_in r.items place))
        ∙ status_back (slice_get r.items place);
  }

  may_take : (places : Option (List ℕ)) → MayBeTaken q r places → MayTake (whole_call q r) (order_given places)
  may_take None may = tt
  may_take (Some places) may =
      let l = replicate_long (length q.items) some_ask in
      let many : length (answers_as (map outcome_in r.items)) ≡ length r.items = length-map (map outcome_in r.items) answer_as ∙ length-map r.items outcome_in in
      let o = may.1.1 in (
        may.0.0,
        by (is_refused r.items) refl,
        record {
          answered = λ position place at. let a = o.answered position place at in (omega (arith, a.0, l), omega (arith, a.1, many));
          all = λ place a. o.all place (omega (arith, a.0, l), omega (arith, a.1, many));
          once = o.once;
          last = λ ends failed first. o.last ends failed (first_alike (answers_as (map outcome_in r.items)) r.items failed alike first);
        },
      )
    where
      by : (b : Bool) → is_refused r.items ≡ b → is_refused r.items ≡ false
      by true e = absurd (may.0.1 (refused_is r e))
      by false e = e

  from_one : (places : Option (List ℕ)) → MayBeTaken q r places → IfSome places (All (λ (place : ℕ). 1 ≤ place))
  from_one None may = tt
  from_one (Some places) may = may.1.0

  pub call_takable : (places : Option (List ℕ)) → IsReadableCall q r → MayBeTaken q r places → IsTakable (takes (whole_call q r) places)
  call_takable places h may = (whole, readable h, may_take places may, from_one places may)

-- ---- its steps

step_in : (marks : List MarkOf) (steps : List ever.StepOf) (s : StepOf) → Contains (map (whole_step marks) steps) s → (e : ever.StepOf) × Contains steps e × (s ≡ whole_step marks e)
step_in marks steps s has =
    let p = at_contains (map (whole_step marks) steps) s has in
    let e = mapped_from (whole_step marks) steps p.0 s p.1 in
    (e.0, contains_at steps p.0 e.0 e.1, sym e.2)

pub whole_takable : (marks : List MarkOf) (steps : List ever.StepOf) → ever_replays.AllTakable steps → AllTakable (map (whole_step marks) steps)
whole_takable marks steps all s has =
    let e = step_in marks steps s has in
    let h = all e.0 e.1 in
    subst IsTakable (sym (ap (λ (x : StepOf). x.taken) e.2)) (call_takable e.0.request e.0.response e.0.places h.0 h.1)
