-- A place is one thing.
use Rattle.std.proofs.Common.{◌≡◌, ℕ, Bool, true, false, Option, Some, None, Result, Ok, Err, refl, sym, ap, ◌∙◌, subst, if◌then◌else◌}
use Rattle.std.specs.Option.{option_map}
use Rattle.kmipa_ttlv.specs.Tree.{Tree}
use Rattle.kmipa_attrs.specs.Fields.{at, inside, as_structure}
use Rattle.kmipa_attrs.specs.Readings.{Reads, Says}
use Rattle.kmipa_attrs.specs.Tags.{request_payload, response_payload}
use Rattle.kmipa_msgs.specs.declared.kind.OutsideKind.{OutsideKind}
use Rattle.kmipa_msgs.specs.Kinds.{kind_number}
use Rattle.kmipa_msgs.specs.Messages.{AskOf, AnswerOf}
use Rattle.kmipa_msgs.specs.Tables.{children}
use Rattle.kmipa_msgs.specs.Asks.{SaysAsk, ItemFault, item_in}
use Rattle.kmipa_msgs.specs.Replies.{SaysAnswer, AnswerFault, answer_in}
use Rattle.kmipa_msgs.proofs.AskLemmas.{reads_item}
use Rattle.kmipa_msgs.proofs.ReplyLemmas.{reads_answer}
use Rattle.kmipa_passed.specs.declared.passed.Outcome.{Outcome}
use Rattle.kmipa_passed.specs.Passed.{request_says, answer_says}
use Rattle.kmipa_aside.specs.Passed.{PassedOf}
use Rattle.kmipa_places.specs.Told.{told}
use Rattle.kmipa_places.specs.Unordered.{asks_in}
use Rattle.kmipa_places.specs.Outcomes.{outcome_at}
use Rattle.kmipa_places.specs.Places.{SaysPassed, is_poll, operation_at, AsksPassed, AnswersPassed, IsPassed, IsJudged, PlaceOf, judged, passed, IsPlace}
use Rattle.kmipa_places.specs.Places.AsksPassed.{item_outside, polls}
use Rattle.kmipa_places.specs.Places.AnswersPassed.{answer_outside}
use Rattle.kmipa_places.specs.Places.IsPassed.{by_request, by_answer, by_witness}
use Rattle.kmipa_places.specs.Readings.{passed_as, WayOf, judges, passes, way_answered, way_asked, way_in, place_by, place_in}
use Rattle.kmipa_places.specs.declared.place.By.TheVariants.{Request, Answer, Witness}

-- how a place is to be read
abbrev pub IsWay : Bool → Bool → Tree → Tree → WayOf → Type 0
IsWay unordered aside t u (judges ask answer) = IsJudged unordered aside t u ask answer
IsWay unordered aside t u (passes by) = IsPassed unordered aside t u by

-- the request's item is judged
not_asked : (unordered : Bool) (t : Tree) (ask : AskOf) → is_poll (operation_at t) ≡ false → Says (SaysAsk (told t)) (ItemFault unordered (told t)) ask → AsksPassed unordered t → ⊥
not_asked unordered t ask e h w = elim w [ item_outside k f ↦ h.right k f | polls p ↦ (let bad : false ≡ true = sym e ∙ p in cc) ]

not_answered : (unordered : Bool) (t u : Tree) (ask : AskOf) (answer : AnswerOf) → Says (SaysAsk (told t)) (ItemFault unordered (told t)) ask
    → Says (SaysAnswer (Some ask) u) (AnswerFault (Some ask) u) answer → AnswersPassed t u → ⊥
not_answered unordered t u ask answer h g w = elim w [
  | answer_outside other s k f ↦ (let same : other ≡ ask = h.only other s in let F : AskOf → Type 0 = λ a. AnswerFault (Some a) u k in g.right k (subst F same f))
]

-- it is read so
answered_way : (unordered aside : Bool) (t u : Tree) (ask : AskOf) (r : Result AnswerOf OutsideKind) → is_poll (operation_at t) ≡ false
    → Says (SaysAsk (told t)) (ItemFault unordered (told t)) ask → Reads kind_number (SaysAnswer (Some ask) u) (AnswerFault (Some ask) u) r
    → IsWay unordered aside t u (way_answered aside ask r)
answered_way unordered aside t u ask (Err k) e h g = by_answer refl (not_asked unordered t ask e h) (answer_outside ask h.said k g.here)
answered_way unordered true t u ask (Ok answer) e h g = by_witness refl (not_asked unordered t ask e h) (not_answered unordered t u ask answer h g) refl
answered_way unordered false t u ask (Ok answer) e h g = record {
  asks = h.said;
  answers = g.said;
  request = not_asked unordered t ask e h;
  response = not_answered unordered t u ask answer h g;
  witness = refl;
}

asked_way : (unordered aside : Bool) (t u : Tree) (r : Result AskOf OutsideKind) → is_poll (operation_at t) ≡ false
    → Reads kind_number (SaysAsk (told t)) (ItemFault unordered (told t)) r → IsWay unordered aside t u (way_asked aside u r)
asked_way unordered aside t u (Err k) e h = by_request refl (item_outside k h.here)
asked_way unordered aside t u (Ok ask) e h = answered_way unordered aside t u ask (answer_in (Some ask) u) e h (reads_answer (Some ask) u)

pub is_way : (unordered aside : Bool) (t u : Tree) → IsWay unordered aside t u (way_in unordered aside t u)
is_way unordered aside t u = by (is_poll (operation_at t)) refl
  where
    by : (b : Bool) → is_poll (operation_at t) ≡ b → IsWay unordered aside t u (if b then passes Request else way_asked aside u (item_in unordered (told t)))
    by true e = by_request refl (polls e)
    by false e = asked_way unordered aside t u (item_in unordered (told t)) e (reads_item unordered (told t))

-- and in no other way
one_request : (unordered aside : Bool) (t u : Tree) (w : WayOf) → AsksPassed unordered t → IsWay unordered aside t u w → w ≡ passes Request
one_request unordered aside t u (judges ask answer) a w = absurd (w.request a)
one_request unordered aside t u (passes by) a w = elim w [ by_request e b ↦ ap passes e | by_answer e n b ↦ absurd (n a) | by_witness e n m b ↦ absurd (n a) ]

one_answer : (unordered aside : Bool) (t u : Tree) (w : WayOf) → (AsksPassed unordered t → ⊥) → AnswersPassed t u → IsWay unordered aside t u w → w ≡ passes Answer
one_answer unordered aside t u (judges ask answer) n a w = absurd (w.response a)
one_answer unordered aside t u (passes by) n a w = elim w [ by_request e b ↦ absurd (n b) | by_answer e m b ↦ ap passes e | by_witness e m o b ↦ absurd (o a) ]

one_witness : (unordered : Bool) (t u : Tree) (w : WayOf) → (AsksPassed unordered t → ⊥) → (AnswersPassed t u → ⊥) → IsWay unordered true t u w → w ≡ passes Witness
one_witness unordered t u (judges ask answer) n m w = let bad : true ≡ false = w.witness in cc
one_witness unordered t u (passes by) n m w = elim w [ by_request e b ↦ absurd (n b) | by_answer e o b ↦ absurd (m b) | by_witness e o p b ↦ ap passes e ]

one_judged : (unordered : Bool) (t u : Tree) (ask : AskOf) (answer : AnswerOf) (w : WayOf) → (AsksPassed unordered t → ⊥) → (AnswersPassed t u → ⊥)
    → Says (SaysAsk (told t)) (ItemFault unordered (told t)) ask → Says (SaysAnswer (Some ask) u) (AnswerFault (Some ask) u) answer
    → IsWay unordered false t u w → w ≡ judges ask answer
one_judged unordered t u ask answer (judges a x) n m h g w =
    let same : a ≡ ask = h.only a w.asks in
    let F : AskOf → Type 0 = λ b. SaysAnswer (Some b) u x in
    let like : x ≡ answer = g.only x (subst F same w.answers) in
    (λ i. judges (same i) (like i))
one_judged unordered t u ask answer (passes by) n m h g w =
    elim w [ by_request e b ↦ absurd (n b) | by_answer e o b ↦ absurd (m b) | by_witness e o p b ↦ (let bad : false ≡ true = b in cc) ]

answered_only : (unordered aside : Bool) (t u : Tree) (ask : AskOf) (w : WayOf) (r : Result AnswerOf OutsideKind) → is_poll (operation_at t) ≡ false
    → Says (SaysAsk (told t)) (ItemFault unordered (told t)) ask → Reads kind_number (SaysAnswer (Some ask) u) (AnswerFault (Some ask) u) r
    → IsWay unordered aside t u w → w ≡ way_answered aside ask r
answered_only unordered aside t u ask w (Err k) e h g i = one_answer unordered aside t u w (not_asked unordered t ask e h) (answer_outside ask h.said k g.here) i
answered_only unordered true t u ask w (Ok answer) e h g i = one_witness unordered t u w (not_asked unordered t ask e h) (not_answered unordered t u ask answer h g) i
answered_only unordered false t u ask w (Ok answer) e h g i = one_judged unordered t u ask answer w (not_asked unordered t ask e h) (not_answered unordered t u ask answer h g) h g i

asked_only : (unordered aside : Bool) (t u : Tree) (w : WayOf) (r : Result AskOf OutsideKind) → is_poll (operation_at t) ≡ false
    → Reads kind_number (SaysAsk (told t)) (ItemFault unordered (told t)) r → IsWay unordered aside t u w → w ≡ way_asked aside u r
asked_only unordered aside t u w (Err k) e h i = one_request unordered aside t u w (item_outside k h.here) i
asked_only unordered aside t u w (Ok ask) e h i = answered_only unordered aside t u ask w (answer_in (Some ask) u) e h (reads_answer (Some ask) u) i

one_way : (unordered aside : Bool) (t u : Tree) (w : WayOf) → IsWay unordered aside t u w → w ≡ way_in unordered aside t u
one_way unordered aside t u w i = by (is_poll (operation_at t)) refl
  where
    by : (b : Bool) → is_poll (operation_at t) ≡ b → w ≡ (if b then passes Request else way_asked aside u (item_in unordered (told t)))
    by true e = one_request unordered aside t u w (polls e) i
    by false e = asked_only unordered aside t u w (item_in unordered (told t)) e (reads_item unordered (told t)) i

-- ---- the place

passed_says : (unordered : Bool) (t u : Tree) (outcome : Outcome) → outcome_at u ≡ Some outcome → SaysPassed unordered t u (passed_as unordered outcome t u)
passed_says unordered t u outcome e = record { asks = refl; names = refl; ask = refl; outcome = sym e; answer = refl }

by_way : (unordered aside : Bool) (t u : Tree) (w : WayOf) (outcome : Outcome) → outcome_at u ≡ Some outcome → IsWay unordered aside t u w → IsPlace unordered aside t u (place_by unordered t u w outcome)
by_way unordered aside t u (judges ask answer) outcome e i = i
by_way unordered aside t u (passes by) outcome e i = (i, passed_says unordered t u outcome e)

pub is_place : (unordered aside : Bool) (t u : Tree) (p : PlaceOf) → place_in unordered aside t u ≡ Some p → IsPlace unordered aside t u p
is_place unordered aside t u p e = by (outcome_at u) refl e
  where
    by : (o : Option Outcome) → outcome_at u ≡ o → option_map (place_by unordered t u (way_in unordered aside t u)) o ≡ Some p → IsPlace unordered aside t u p
    by None f g = cc
    by (Some outcome) f g =
        let same : place_by unordered t u (way_in unordered aside t u) outcome ≡ p = cc in
        subst (IsPlace unordered aside t u) same (by_way unordered aside t u (way_in unordered aside t u) outcome f (is_way unordered aside t u))

-- what is said of a passed place is one thing
one_passed : (unordered : Bool) (t u : Tree) (p q : PassedOf) → SaysPassed unordered t u p → SaysPassed unordered t u q → p ≡ q
one_passed unordered t u p q a b =
    let number : p.asks ≡ q.asks = a.asks ∙ sym b.asks in
    let names : p.names ≡ q.names = a.names ∙ sym b.names in
    let payload = inside request_payload (children t) in
    let ask : p.ask ≡ q.ask = a.ask ∙ ap (λ (n : ℕ). asks_in unordered (request_says n payload)) number ∙ sym b.ask in
    let some : Some p.answer.outcome ≡ Some q.answer.outcome = a.outcome ∙ sym b.outcome in
    let outcome : p.answer.outcome ≡ q.answer.outcome = cc in
    let answer : p.answer ≡ q.answer = a.answer ∙ ap (λ (o : Outcome). answer_says o (at as_structure response_payload (children u))) outcome ∙ sym b.answer in
    (λ i. record { asks = number i; names = names i; ask = ask i; answer = answer i })

pub one_place : (unordered aside : Bool) (t u : Tree) (p q : PlaceOf) → IsPlace unordered aside t u p → IsPlace unordered aside t u q → p ≡ q
one_place unordered aside t u (judged ask answer) (judged a x) i j =
    let same : judges ask answer ≡ judges a x = one_way unordered aside t u (judges ask answer) i ∙ sym (one_way unordered aside t u (judges a x) j) in cc
one_place unordered aside t u (judged ask answer) (passed by p) i j =
    let same : judges ask answer ≡ passes by = one_way unordered aside t u (judges ask answer) i ∙ sym (one_way unordered aside t u (passes by) j.0) in cc
one_place unordered aside t u (passed by p) (judged a x) i j =
    let same : passes by ≡ judges a x = one_way unordered aside t u (passes by) i.0 ∙ sym (one_way unordered aside t u (judges a x) j) in cc
one_place unordered aside t u (passed by p) (passed other q) i j =
    let same : passes by ≡ passes other = one_way unordered aside t u (passes by) i.0 ∙ sym (one_way unordered aside t u (passes other) j.0) in
    let e : by ≡ other = cc in
    let f : p ≡ q = one_passed unordered t u p q i.1 j.1 in
    (λ k. passed (e k) (f k))
