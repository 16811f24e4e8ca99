-- What a turn makes of its call can be taken.
use Rattle.std.proofs.Common.{◌≡◌, ◌≤◌, ◌&&◌, ◌||◌, ℕ, zero, suc, ℤ, Bool, true, false, List, [], ◌∷◌, map, length, Option, Some, None, slice_get, refl, sym, ap, ◌∙◌, subst, arith}
use Rattle.std.specs.List.{list_all}
use Rattle.std.specs.Prelude.{All, IfSome}
use Rattle.std.proofs.lemmas.List.{length-map}
use Rattle.kmipa_ttlv.specs.Tree.{Tree}
use Rattle.kmipa_attrs.specs.Fields.{first, at, as_enumeration}
use Rattle.kmipa_attrs.specs.Tags.{operation_tag, response_payload}
use Rattle.kmipa_msgs.specs.Messages.{AskOf, AnswerOf, RequestOf, ResponseOf}
use Rattle.kmipa_msgs.specs.Replies.{SaysAnswer}
use Rattle.kmipa_msgs.specs.Tables.{children}
use Rattle.kmipa_msgs.specs.Wanted.{Wanted}
use Rattle.kmipa_record.specs.Witnesses.{BirthOf, FillOf, TurnOf}
use Rattle.kmipa_ops.specs.Explains.{is_readable}
use Rattle.kmipa_batch.specs.Orders.{order_given}
use Rattle.kmipa_places.specs.Calls.{ArePlaces, CallOf, ReadOf, unread, read, IsCall, IsRead}
use Rattle.kmipa_places.specs.Places.{PlaceOf, judged, passed}
use Rattle.kmipa_bundle.specs.Bundles.{IsWhole, MayTake}
use Rattle.kmipa_bundle.specs.Refusals.{is_readable_at, is_readable_call}
use Rattle.kmipa_bundle.proofs.WholeLemmas.{read_whole}
use Rattle.kmipa_check.specs.Births.{IsBorn, IsBornAt}
use Rattle.kmipa_check.specs.Fills.{SaysFill, IsFilled, IsFilledAt, stays, put_in}
use Rattle.kmipa_check.specs.Grants.{GrantsOf}
use Rattle.kmipa_check.proofs.FillLemmas.{pair_left}
use Rattle.kmipa_check.proofs.FillingLemmas.{is_wanted_here}
use Rattle.kmipa_check.proofs.PlaceLemmas.{get_at}
use Rattle.kmipa_check.proofs.ReadableLemmas.{answer_readable, filled_readable, readable_born}
use Rattle.kmipa_turns.specs.Laws.{IsTakable, StepsAreTakable}
use Rattle.kmipa_turns.specs.Recorded.{RecordedOf}
use Rattle.kmipa_turns.specs.Sides.{answered_at, asked_at, completed, place_with, places_with, request_side, response_side}
use Rattle.kmipa_turns.specs.Steps.{Completes, MayBeTaken, StepOf, TakenOf, Takes, leaves, takes}

-- ---- lists of places

with_length : (ps : List PlaceOf) (asks : List AskOf) (answers : List AnswerOf) → length asks ≡ length ps → length answers ≡ length ps → length (places_with ps asks answers) ≡ length ps
with_length [] asks answers e f = refl
with_length (p ∷ ps) [] answers e f = absurd (omega (arith, e))
with_length (p ∷ ps) (ask ∷ asks) [] e f = absurd (omega (arith, f))
with_length (p ∷ ps) (ask ∷ asks) (answer ∷ answers) e f = ap suc (with_length ps asks answers (omega (arith, e)) (omega (arith, f)))

record ComesOf (ps : List PlaceOf) (asks : List AskOf) (answers : List AnswerOf) (i : ℕ) (q : PlaceOf) : Type 0 where
  place : PlaceOf
  ask : AskOf
  answer : AnswerOf
  there : slice_get ps i ≡ Some place
  asked : slice_get asks i ≡ Some ask
  answered : slice_get answers i ≡ Some answer
  is : q ≡ place_with place ask answer

comes_of : (ps : List PlaceOf) (asks : List AskOf) (answers : List AnswerOf) (i : ℕ) (q : PlaceOf) → slice_get (places_with ps asks answers) i ≡ Some q → ComesOf ps asks answers i q
comes_of [] asks answers i q at = absurd cc
comes_of (p ∷ ps) [] answers i q at = absurd cc
comes_of (p ∷ ps) (ask ∷ asks) [] i q at = absurd cc
comes_of (p ∷ ps) (ask ∷ asks) (answer ∷ answers) zero q at = record { place = p; ask = ask; answer = answer; there = refl; asked = refl; answered = refl; is = cc }
comes_of (p ∷ ps) (ask ∷ asks) (answer ∷ answers) (suc i) q at =
    let c = comes_of ps asks answers i q at in
    record { place = c.place; ask = c.ask; answer = c.answer; there = c.there; asked = c.asked; answered = c.answered; is = c.is }

all_readable : (ps : List PlaceOf) → ((i : ℕ) (p : PlaceOf) → slice_get ps i ≡ Some p → is_readable_at p ≡ true) → list_all is_readable_at ps ≡ true
all_readable [] h = refl
all_readable (p ∷ ps) h = ap (λ (b : Bool). b && list_all is_readable_at ps) (h 0 p refl) ∙ all_readable ps (λ i q there. h (suc i) q there)

-- a judged place of a call that was read says what its answer does
judged_says : (unordered : Bool) (asides : List ℤ) (n : ℕ) (ts us : List Tree) (ps : List PlaceOf) (i : ℕ) (ask : AskOf) (answer : AnswerOf) → ArePlaces unordered asides n ts us ps
    → slice_get ps i ≡ Some (judged ask answer) → (u : Tree) × SaysAnswer (Some ask) u answer
judged_says unordered asides n (t ∷ ts) (u ∷ us) [] i ask answer h at = absurd h
judged_says unordered asides n (t ∷ ts) [] ps i ask answer h at =
    let P : List PlaceOf → Type 0 = λ l. slice_get l i ≡ Some (judged ask answer) in
    let bad = subst P h at in
    absurd cc
judged_says unordered asides n [] us ps i ask answer h at =
    let P : List PlaceOf → Type 0 = λ l. slice_get l i ≡ Some (judged ask answer) in
    let bad = subst P h at in
    absurd cc
judged_says unordered asides n (t ∷ ts) (u ∷ us) (judged a b ∷ ps) zero ask answer h at =
    let same : judged a b ≡ judged ask answer = cc in
    let left : a ≡ ask = cc in
    let right : b ≡ answer = cc in
    let P : AskOf → Type 0 = λ x. SaysAnswer (Some x) u answer in
    let Q : AnswerOf → Type 0 = λ y. SaysAnswer (Some a) u y in
    (u, subst P left (subst Q right h.0.answers))
judged_says unordered asides n (t ∷ ts) (u ∷ us) (passed by p ∷ ps) zero ask answer h at = absurd cc
judged_says unordered asides n (t ∷ ts) (u ∷ us) (p ∷ ps) (suc i) ask answer h at = judged_says unordered asides (suc n) ts us ps i ask answer h.1 at

said_readable : (u : Tree) (ask : AskOf) (answer : AnswerOf) → SaysAnswer (Some ask) u answer → (Wanted ask answer → ⊥) → is_readable ask answer ≡ true
said_readable u ask answer s never = answer_readable (at as_enumeration operation_tag (children u)) ask answer (first response_payload (children u)) answer.operation refl s.operation s.payload never

-- ---- a call, completed

module _ (g : GrantsOf) (x : ReadOf) (fills : List FillOf) (births : List BirthOf) (response : ResponseOf) (request : RequestOf)
    (filled : IsFilled (request_side x) (response_side x) fills response) (born : IsBorn g (request_side x) (response_side x) births request)
    (says : (i : ℕ) (ask : AskOf) (answer : AnswerOf) → slice_get x.places i ≡ Some (judged ask answer) → (u : Tree) × SaysAnswer (Some ask) u answer) where
  here : (i : ℕ) (a ask : AskOf) (b answer : AnswerOf) → slice_get x.places i ≡ Some (judged a b) → IsFilledAt (request_side x) (response_side x) fills i b answer
      → IsBornAt g births i a ask → is_readable ask answer ≡ true
  here i a ask b answer there (stays none is) bears =
      let s = says i a b there in
      let readable = said_readable s.0 a b s.1 (λ w. none (is_wanted_here (request_side x) (response_side x) i a b (get_at asked_at x.places i (judged a b) there) (get_at answered_at x.places i (judged a b) there) w)) in
      readable_born g births i a ask answer bears (ap (λ (y : AnswerOf). is_readable a y) is ∙ readable)
  here i a ask b answer there (put_in other w fill one its p said is) bears =
      let q = pair_left (map asked_at x.places) (map answered_at x.places) i other b w.there in
      let at = get_at asked_at x.places i (judged a b) there in
      let same : other ≡ a = cc in
      let P : AskOf → Type 0 = λ y. Wanted y b × SaysFill fill y p in
      let wanted = subst P same (w.wanted, said) in
      readable_born g births i a ask answer bears (ap (λ (y : AnswerOf). is_readable a y) is ∙ filled_readable a b fill p wanted.0 wanted.1)

  one : (i : ℕ) (q : PlaceOf) → slice_get (places_with x.places request.items response.items) i ≡ Some q → is_readable_at q ≡ true
  one i q at = by c.place c.there c.is
    where
      c : ComesOf x.places request.items response.items i q
      c = comes_of x.places request.items response.items i q at

      by : (p : PlaceOf) → slice_get x.places i ≡ Some p → q ≡ place_with p c.ask c.answer → is_readable_at q ≡ true
      by (passed y p) there is = ap is_readable_at is
      by (judged a b) there is =
          ap is_readable_at is
          ∙ here i a c.ask b c.answer there (filled.each i b c.answer (get_at answered_at x.places i (judged a b) there) c.answered)
          (born.each i a c.ask (get_at asked_at x.places i (judged a b) there) c.asked)

  or_true : (a b : Bool) → b ≡ true → (a || b) ≡ true
  or_true true b e = refl
  or_true false b e = e

  module _ (moment : ℤ) where
    full_readable : is_readable_call (completed x moment request response) ≡ true
    full_readable = or_true x.refused (list_all is_readable_at (places_with x.places request.items response.items)) (all_readable (places_with x.places request.items response.items) one)

    full_whole : IsWhole x → IsWhole (completed x moment request response)
    full_whole whole place answered =
        let long = with_length x.places request.items response.items (born.counted ∙ length-map x.places asked_at) (filled.counted ∙ length-map x.places answered_at) in
        omega (arith, long, whole place answered)

    full_order : (places : Option (List ℕ)) → MayBeTaken x places → MayTake (completed x moment request response) (order_given places)
    full_order None may = tt
    full_order (Some places) may = (
      may.0.0,
      may.0.1,
      record { answered = may.1.1.answered; all = may.1.1.all; once = may.1.1.once; last = may.1.1.last },
    )

from_one : (x : ReadOf) (places : Option (List ℕ)) → MayBeTaken x places → IfSome places (All (λ (place : ℕ). 1 ≤ place))
from_one x None may = tt
from_one x (Some places) may = may.1.0

-- ---- a step

says_of : (request response : Option Tree) (asides : List ℤ) (x : ReadOf) → IsCall request response asides (read x) → (t : Tree) × (u : Tree) × IsRead t u asides x
says_of None response asides x h = absurd h
says_of (Some t) None asides x h = absurd h
says_of (Some t) (Some u) asides x h = (t, u, h)

completed_takable : (g : GrantsOf) (x : ReadOf) (t : TurnOf) (request response : Option Tree) (places : Option (List ℕ)) (full : ReadOf) → IsCall request response t.asides (read x) → Completes g x t full places
    → IsTakable (takes full places)
completed_takable g x t request response places full said c =
    let r = says_of request response t.asides x said in
    let P : ReadOf → Type 0 = λ y. IsTakable (takes y places) in
    let says : (i : ℕ) (ask : AskOf) (answer : AnswerOf) → slice_get x.places i ≡ Some (judged ask answer) → (u : Tree) × SaysAnswer (Some ask) u answer =
    λ i ask answer at. judged_says _ t.asides 1 _ _ x.places i ask answer r.2.places at in
    subst P (sym c.is) (
      full_whole g x t.fills t.births c.response c.request c.filled c.born says c.moment (read_whole r.0 r.1 t.asides x r.2),
      full_readable g x t.fills t.births c.response c.request c.filled c.born says c.moment,
      full_order g x t.fills t.births c.response c.request c.filled c.born says c.moment places c.may,
      from_one x places c.may,
    )

takable : (g : GrantsOf) (c : RecordedOf) (t : TurnOf) (request response : Option Tree) (call : CallOf) (stamp : Option ℤ) (taken : TakenOf) (excepted : ℕ) → IsCall request response t.asides call
    → Takes g c t request response call stamp taken excepted → IsTakable taken
takable g c t request response (unread left) stamp taken excepted said h = let counts = h.2.0 in subst IsTakable (sym h.2.2) (let P : Type 0 = IsTakable (leaves left counts) in let here : P = tt in here)
takable g c t request response (read x) stamp taken excepted said h = subst IsTakable (sym h.1.3) (completed_takable g x t request response h.1.1 h.1.0 said h.1.2)

pub step_takable : StepsAreTakable
step_takable g c t s i = subst IsTakable (sym (ap (λ (y : StepOf). y.taken) i.is)) (takable g c t i.request i.response i.call i.stamp i.taken i.excepted i.said i.takes)
