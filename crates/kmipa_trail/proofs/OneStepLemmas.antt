-- A call and a turn make one step, or the turn has a fault.
use Rattle.std.proofs.Common.{◌≡◌, inl, inr, ℕ, ℤ, List, [], ◌∷◌, Option, Some, None, refl, sym, ap, ◌∙◌, subst}
use Rattle.kmipa_ttlv.specs.Tree.{Tree}
use Rattle.kmipa_ttlv.proofs.LawLemmas.{one_spelling_lem}
use Rattle.kmipa_msgs.specs.Messages.{RequestOf, ResponseOf}
use Rattle.kmipa_record.specs.Witnesses.{TurnOf}
use Rattle.kmipa_places.specs.Calls.{CallOf, ReadOf, unread, read, IsCall}
use Rattle.kmipa_places.specs.Counting.{CountsBy, by_request, by_answer, by_witness, UnreadCountsOf, unread_with, AreCounted}
use Rattle.kmipa_places.specs.Fits.{IsFitAnswer}
use Rattle.kmipa_places.specs.Unread.{asked, answered as answered_by, or_nothing}
use Rattle.kmipa_places.specs.declared.place.By.{By}
use Rattle.kmipa_places.proofs.CallLemmas.{one_call}
use Rattle.kmipa_check.specs.Grants.{GrantsOf}
use Rattle.kmipa_check.specs.Moments.{IsMoment, IsUntimely}
use Rattle.kmipa_check.specs.Places.{GivesPlaces}
use Rattle.kmipa_check.specs.declared.fault.WitnessKind.{WitnessKind}
use Rattle.kmipa_check.proofs.BornLemmas.{born_right, one_born}
use Rattle.kmipa_check.proofs.FillLemmas.{filled_right, one_filled}
use Rattle.kmipa_check.proofs.PlacesLemmas.{one_places}
use Rattle.kmipa_turns.specs.Answered.{AnswerFault, IsAnswered, recorded, given, left, answered, unanswered, formless}
use Rattle.kmipa_turns.specs.Faults.{CompletingFault, GivenFault, PlacesFault, ReadFault, UnreadFault.untimely as unread_untimely, ReadFault.untimely as read_untimely, ordered, filled, born, unwanted, disordered, unfit_places, unfilled, unfit_births, unfit_answer, uncompleted, unfit_asides}
use Rattle.kmipa_turns.specs.Recorded.{RecordedOf, IsItem}
use Rattle.kmipa_turns.specs.Sides.{completed, request_side, response_side}
use Rattle.kmipa_turns.specs.Steps.{Completes, IsExcepted, alone, not_set, anyway, IsStep, MayBeTaken, MaySetAside, StepOf, TakenOf, Takes, leaves, takes}

-- ---- messages and answers

one_item : (bytes : List ℕ) (a b : Option Tree) → IsItem bytes a → IsItem bytes b → a ≡ b
one_item bytes None None h k = refl
one_item bytes None (Some t) h k = absurd (h t k)
one_item bytes (Some t) None h k = absurd (k t h)
one_item bytes (Some t) (Some u) h k = ap Some (one_spelling_lem t u bytes bytes [] [] h k refl).0

module _ (c : RecordedOf) (t : TurnOf) (request : Option Tree) where
  same_bytes : (x y : List ℕ) (a b : Option Tree) → x ≡ y → IsItem x a → IsItem y b → a ≡ b
  same_bytes x y a b same says said = let P : List ℕ → Type 0 = λ z. IsItem z b in one_item x a b says (subst P (sym same) said)

  one_answered : (a b : Option Tree) → IsAnswered c t request a → IsAnswered c t request b → a ≡ b
  one_answered a b (recorded x has none says) (recorded y had nothing said) = let same : x ≡ y = cc in same_bytes x y a b same says said
  one_answered a b (recorded x has none says) (given y unended not some said fit) = absurd cc
  one_answered a b (recorded x has none says) (left unended set is) = absurd cc
  one_answered a b (given x unended not some says fit) (recorded y had nothing said) = absurd cc
  one_answered a b (given x unended not some says fit) (given y lacks nor any said fits) = let same : x ≡ y = cc in same_bytes x y a b same says said
  one_answered a b (given x unended not some says fit) (left lacks set is) = absurd (not set)
  one_answered a b (left unended set is) (recorded y had nothing said) = absurd cc
  one_answered a b (left unended set is) (given y lacks nor any said fits) = absurd (nor set)
  one_answered a b (left unended set is) (left lacks sets same) = is ∙ sym same

  answered_right : (a : Option Tree) (kind : WitnessKind) → IsAnswered c t request a → AnswerFault c t request kind → ⊥
  answered_right a kind (recorded x has none says) (answered y had some is) = some none
  answered_right a kind (recorded x has none says) (unanswered lacks nor nothing is) = absurd cc
  answered_right a kind (recorded x has none says) (formless y r lacks nor any said misfit is) = absurd cc
  answered_right a kind (given x unended not some says fit) (answered y had any is) = absurd cc
  answered_right a kind (given x unended not some says fit) (unanswered lacks nor nothing is) = absurd cc
  answered_right a kind (given x unended not some says fit) (formless y r lacks nor any said misfit is) =
      let same : x ≡ y = cc in
      let P : Option Tree → Type 0 = λ z. IsFitAnswer request z in
      misfit (subst P (same_bytes x y a r same says said) fit)
  answered_right a kind (left unended set is) (answered y had some same) = absurd cc
  answered_right a kind (left unended set is) (unanswered lacks nor nothing same) = nor set
  answered_right a kind (left unended set is) (formless y r lacks nor any said misfit same) = nor set

-- ---- how the items of a call count that can't be read

module _ (request response : Option Tree) where
  one_by : (t u : Tree) (by other : By) → CountsBy request response t u by → CountsBy request response t u other → by ≡ other
  one_by t u by other (by_request is h) (by_request same k) = is ∙ sym same
  one_by t u by other (by_request is h) (by_answer same never k) = absurd (never h)
  one_by t u by other (by_request is h) (by_witness same never nor) = absurd (never h)
  one_by t u by other (by_answer is not h) (by_request same k) = absurd (not k)
  one_by t u by other (by_answer is not h) (by_answer same never k) = is ∙ sym same
  one_by t u by other (by_answer is not h) (by_witness same never nor) = absurd (nor h)
  one_by t u by other (by_witness is not neither) (by_request same k) = absurd (not k)
  one_by t u by other (by_witness is not neither) (by_answer same never k) = absurd (neither k)
  one_by t u by other (by_witness is not neither) (by_witness same never nor) = is ∙ sym same

  one_counts : (ts us : List Tree) (n m : UnreadCountsOf) → AreCounted request response ts us n → AreCounted request response ts us m → n ≡ m
  one_counts [] us n m h k = h ∙ sym k
  one_counts (t ∷ ts) [] n m h k = h ∙ sym k
  one_counts (t ∷ ts) (u ∷ us) n m h k =
      h.4
      ∙ ap (λ (b : By). unread_with b h.1) (one_by t u h.0 k.0 h.2 k.2)
      ∙ ap (unread_with k.0) (one_counts ts us h.1 k.1 h.3 k.3)
      ∙ sym k.4

one_excepted : (c : RecordedOf) (t : TurnOf) (request response : Option Tree) (n m : ℕ) → IsExcepted c t request response n → IsExcepted c t request response m → n ≡ m
one_excepted c t request response n m (alone set why is) (alone sets reason same) = is ∙ sym same
one_excepted c t request response n m (alone set why is) (not_set never same) = absurd (never set)
one_excepted c t request response n m (alone set why is) (anyway ended unreadable same) = elim why [ inl none ↦ absurd (ended none) | inr readable ↦ absurd (readable unreadable) ]
one_excepted c t request response n m (not_set not is) (alone sets reason same) = absurd (not sets)
one_excepted c t request response n m (not_set not is) (not_set never same) = is ∙ sym same
one_excepted c t request response n m (not_set not is) (anyway ended unreadable same) = is ∙ sym same
one_excepted c t request response n m (anyway ended unreadable is) (alone sets reason same) = elim reason [ inl none ↦ absurd (ended none) | inr readable ↦ absurd (readable unreadable) ]
one_excepted c t request response n m (anyway ended unreadable is) (not_set never same) = is ∙ sym same
one_excepted c t request response n m (anyway ended unreadable is) (anyway end unread_too same) = is ∙ sym same

-- ---- what completes a call that can be read

moment_right : (g : GrantsOf) (stamp : ℤ) (told : Option ℤ) (moment : ℤ) → IsMoment g stamp told moment → IsUntimely g stamp told → ⊥
moment_right g stamp None moment timed late = late
moment_right g stamp (Some told) moment timed late = late timed.1

one_moment : (g : GrantsOf) (stamp : ℤ) (told : Option ℤ) (moment other : ℤ) → IsMoment g stamp told moment → IsMoment g stamp told other → moment ≡ other
one_moment g stamp None moment other timed same = timed ∙ sym same
one_moment g stamp (Some told) moment other timed same = timed.0 ∙ sym same.0

places_right : (c : ReadOf) (numbers : List ℤ) (places : Option (List ℕ)) (kind : WitnessKind) → GivesPlaces numbers places → MayBeTaken c places → PlacesFault c numbers kind → ⊥
places_right c numbers None kind gives may (unwanted some never is) = some gives
places_right c numbers None kind gives may (disordered some wants none is) = some gives
places_right c numbers (Some places) kind gives may (unwanted some never is) = never may.0
places_right c numbers (Some places) kind gives may (disordered some wants none is) = none places gives.1 may.1

module _ (g : GrantsOf) (c : ReadOf) (t : TurnOf) where
  one_completed : (full other : ReadOf) (places others : Option (List ℕ)) → Completes g c t full places → Completes g c t other others → full ≡ other
  one_completed full other places others a b =
      a.is
      ∙ ap (λ (m : ℤ). completed c m a.request a.response) (one_moment g c.stamp t.moment a.moment b.moment a.timed b.timed)
      ∙ ap (λ (q : RequestOf). completed c b.moment q a.response) (one_born g (request_side c) (response_side c) t.births a.request b.request a.born b.born)
      ∙ ap (λ (q : ResponseOf). completed c b.moment b.request q) (one_filled (request_side c) (response_side c) t.fills a.response b.response a.filled b.filled)
      ∙ sym b.is

  read_right : (full : ReadOf) (places : Option (List ℕ)) (kind : WitnessKind) → Completes g c t full places → ReadFault g c t kind → ⊥
  read_right full places kind a (read_untimely late is) = moment_right g c.stamp t.moment a.moment a.timed late
  read_right full places kind a (unfit_places moment timed fault) = places_right c t.places places kind a.ordered a.may fault
  read_right full places kind a (unfilled moment timed ps gives may fault) = filled_right (request_side c) (response_side c) t.fills a.response kind a.filled fault
  read_right full places kind a (unfit_births moment timed ps gives may response put fault) = born_right g (request_side c) (response_side c) t.births a.request kind a.born fault

-- ---- the step

module _ (g : GrantsOf) (c : RecordedOf) (t : TurnOf) where
  one_taken : (request response : Option Tree) (call : CallOf) (stamp date : Option ℤ) (taken other : TakenOf) (n m : ℕ) → Takes g c t request response call stamp taken n
      → Takes g c t request response call date other m → (stamp ≡ date) × (taken ≡ other) × (n ≡ m)
  one_taken request response (unread leaving) stamp date taken other n m a b = (
    a.1 ∙ sym b.1,
    a.2.2
        ∙ ap (leaves leaving) (one_counts request response (or_nothing (asked request)) (or_nothing (answered_by response)) a.2.0 b.2.0 a.2.1 b.2.1)
        ∙ sym b.2.2,
    one_excepted c t request response n m a.3 b.3,
  )
  one_taken request response (read x) stamp date taken other n m a b = (
    a.0 ∙ sym b.0,
    a.1.3
        ∙ ap (λ (f : ReadOf). takes f a.1.1) (one_completed g x t a.1.0 b.1.0 a.1.1 b.1.1 a.1.2 b.1.2)
        ∙ ap (takes b.1.0) (one_places t.places a.1.1 b.1.1 a.1.2.ordered b.1.2.ordered)
        ∙ sym b.1.3,
    a.2 ∙ sym b.2,
  )

  taken_right : (request response : Option Tree) (call : CallOf) (stamp : Option ℤ) (taken : TakenOf) (n : ℕ) (kind : WitnessKind) → Takes g c t request response call stamp taken n
      → CompletingFault g call t kind → ⊥
  taken_right request response (unread leaving) stamp taken n kind a (unread_untimely some is) = some a.0.moment
  taken_right request response (unread leaving) stamp taken n kind a (ordered none some is) = some a.0.places
  taken_right request response (unread leaving) stamp taken n kind a (filled none nothing some is) = some a.0.fills
  taken_right request response (unread leaving) stamp taken n kind a (born none nothing never some is) = some a.0.births
  taken_right request response (read x) stamp taken n kind a fault = read_right g x t a.1.0 a.1.1 kind a.1.2 fault

  abbrev made : Option ℤ → TakenOf → ℕ → StepOf
  made stamp taken n = record { number = c.number; client = c.client; begin = c.begin; end = c.end; stamp = stamp; taken = taken; excepted = n }

  module _ (s : StepOf) (i : IsStep g c t s) where
    -- whatever its messages and its call are, they are those of the step
    its_request : (request : Option Tree) → IsItem c.request request → request ≡ i.request
    its_request request asks = one_item c.request request i.request asks i.asks

    its_response : (request response : Option Tree) → request ≡ i.request → IsAnswered c t request response → response ≡ i.response
    its_response request response same answers =
        let P : Option Tree → Type 0 = λ r. IsAnswered c t r response in
        one_answered c t i.request response i.response (subst P same answers) i.answers

    its_call : (request response : Option Tree) (call : CallOf) → request ≡ i.request → response ≡ i.response → IsCall request response t.asides call → call ≡ i.call
    its_call request response call same one said =
        let P : Option Tree → Type 0 = λ r. IsCall r response t.asides call in
        let Q : Option Tree → Type 0 = λ r. IsCall i.request r t.asides call in
        one_call i.request i.response t.asides call i.call (subst Q one (subst P same said)) i.said

    pub step_right : (kind : WitnessKind) → GivenFault g c t kind → ⊥
    step_right kind (unfit_answer request asks fault) =
        let P : Option Tree → Type 0 = λ r. AnswerFault c t r kind in
        answered_right c t i.request i.response kind i.answers (subst P (its_request request asks) fault)
    step_right kind (uncompleted request response asks answers call said fault) =
        let same = its_request request asks in
        let one = its_response request response same answers in
        let P : CallOf → Type 0 = λ x. CompletingFault g x t kind in
        taken_right i.request i.response i.call i.stamp i.taken i.excepted kind i.takes (subst P (its_call request response call same one said) fault)
    step_right kind (unfit_asides request response asks answers call said right never is) =
        let same = its_request request asks in
        let one = its_response request response same answers in
        let P : CallOf → Type 0 = λ x. MaySetAside x t.asides in
        never (subst P (sym (its_call request response call same one said)) i.aside)

  pub one_step_lem : (s u : StepOf) → IsStep g c t s → IsStep g c t u → s ≡ u
  one_step_lem s u i j =
      let request = its_request s i j.request j.asks in
      let response = its_response s i j.request j.response request j.answers in
      let call = its_call s i j.request j.response j.call request response j.said in
      let P : Option Tree → Type 0 = λ r. Takes g c t r j.response j.call j.stamp j.taken j.excepted in
      let Q : Option Tree → Type 0 = λ r. Takes g c t i.request r j.call j.stamp j.taken j.excepted in
      let R : CallOf → Type 0 = λ r. Takes g c t i.request i.response r j.stamp j.taken j.excepted in
      let same = one_taken i.request i.response i.call i.stamp j.stamp i.taken j.taken i.excepted j.excepted i.takes (subst R call (subst Q response (subst P request j.takes))) in
      i.is
      ∙ ap (λ (x : Option ℤ). made x i.taken i.excepted) same.0
      ∙ ap (λ (x : TakenOf). made j.stamp x i.excepted) same.1
      ∙ ap (λ (x : ℕ). made j.stamp j.taken x) same.2
      ∙ sym j.is
