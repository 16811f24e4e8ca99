-- The items of a batch, one place after the other, over any ledger.
use Rattle.std.proofs.Common.{◌≡◌, ◌≤◌, ◌<◌, inl, inr, ℕ, ◌+◌, ℤ, Bool, true, false, List, [], ◌∷◌, ◌++◌, length, take, Option, Some, None, Result, Ok, Err, slice_get, refl, sym, ap, ◌∙◌, subst, arith}
use Rattle.std.proofs.lemmas.Option.{slice_get_within}
use Rattle.kmipa_object.proofs.ListLemmas.{below_get}
use Rattle.kmipa_store.specs.Ledger.{Meaning, LedgerState}
use Rattle.kmipa_store.specs.Choices.{IsSound}
use Rattle.kmipa_msgs.specs.Messages.{RulesOf, AskOf, RequestOf, AnswerOf, ResponseOf}
use Rattle.kmipa_ops.specs.declared.why.Why.{Why}
use Rattle.kmipa_ops.specs.declared.why.Why.TheVariants.{BatchShape}
use Rattle.kmipa_ops.specs.declared.why.Refusal.{Refusal}
use Rattle.kmipa_ops.specs.declared.why.Refusal.TheVariants as item
use Rattle.kmipa_ops.specs.Alike.{StandAlike}
use Rattle.kmipa_ops.specs.Blame.{lowest}
use Rattle.kmipa_ops.specs.Explains.{Explains, Taken}
use Rattle.kmipa_ops.proofs.AlikeLemmas.{alike_speak_alike, alike_go_alike}
use Rattle.kmipa_ops.proofs.ExplainLemmas.{explains_none, explains_more}
use Rattle.kmipa_batch.specs.Shapes.{IsShapedBelow, IsShaped, IsFirstUnshaped}
use Rattle.kmipa_batch.specs.Orders.{is_unordered, IsTakingOrder, one_of, along, place_at, places_from, order_given}
use Rattle.kmipa_batch.specs.Calls.{pairs_of, pairs_taken, RefusesMessage, MayTake}
use Rattle.kmipa_batch.specs.Composing.{CanChain, OneItemIsTold, OneReasonIsTold}
use Rattle.kmipa_batch.specs.Refusals.SpeaksAtAlong.{in_shape, in_item}
use Rattle.kmipa_batch.specs.Refusals.{IsJudgedBy, AreShapedFor, IsPossibleUpToAlong, CallRefutedAlong}
use Rattle.kmipa_batch.specs.declared.refusal.CallRefusal.{CallRefusal}
use Rattle.kmipa_batch.specs.declared.refusal.CallRefusal.TheVariants.{Impossible, Memory}
use Rattle.kmipa_batch.specs.Running.{PairRefuted, PairTaken, refused_at, places_of, TakesCount, AlongTaken, Ran}
use Rattle.kmipa_batch.proofs.ShapeLemmas.{clash, less_or_not}
use Rattle.kmipa_batch.proofs.PlaceLemmas.{take_one_more, take_past, zip_above, zip_short}
use Rattle.kmipa_batch.proofs.OrderLemmas.{along_next, along_take, along_by_place, by_place_is_all, length_from, take_from, from_below, from_is}
use Rattle.kmipa_batch.proofs.ComposeLemmas.{taken_can, refused_cannot}

-- where there is no pair nothing is done
pub pair_absent : (rules : RulesOf) (s : LedgerState) (p : Option (List ℕ)) (t : ℤ) (pair : Option (AskOf × AnswerOf)) → pair ≡ None → IsSound s.now → PairTaken rules s p t pair (Ok tt) s p
pair_absent rules s p t pair is sound =
    let P : Option (AskOf × AnswerOf) → Type 0 = λ o. PairTaken rules s p t o (Ok tt) s p in
    subst P (sym is) ((explains_none rules t s.now p, sound), refl)

-- and else what its item comes to
taken_there : (rules : RulesOf) (s : LedgerState) (p : Option (List ℕ)) (t : ℤ) (ask : AskOf) (answer : AnswerOf) (result : Result (Unit {0}) Refusal) (u : LedgerState) (q : Option (List ℕ))
    → Taken rules s p t ask answer result u q → PairTaken rules s p t (Some (ask, answer)) result u q
taken_there rules s p t ask answer (Ok done) u q r = ((r.explains, r.sound), r.marks)
taken_there rules s p t ask answer (Err (item.Impossible why)) u q r = (record { ask = ask; answer = answer; there = refl; refuted = r.0 }, ap (λ (x : LedgerState). x.marks) r.1)
taken_there rules s p t ask answer (Err item.Memory) u q r = (tt, r)

pub pair_taken : (rules : RulesOf) (s : LedgerState) (p : Option (List ℕ)) (moment t : ℤ) (ask : AskOf) (answer : AnswerOf) (pair : Option (AskOf × AnswerOf)) → moment ≡ t → pair ≡ Some (ask, answer)
    → (result : Result (Unit {0}) Refusal) (u : LedgerState) (q : Option (List ℕ)) → Taken rules s p moment ask answer result u q → PairTaken rules s p t pair result u q
pair_taken rules s p moment t ask answer pair at is result u q r =
    let P : Option (AskOf × AnswerOf) → Type 0 = λ o. PairTaken rules s p t o result u q in
    let Q : ℤ → Type 0 = λ x. PairTaken rules s p x (Some (ask, answer)) result u q in
    subst P (sym is) (subst Q at (taken_there rules s p moment ask answer result u q r))

-- as far as the items have come: those before a position of the order, from a ledger `s` to `u`
pub record Along (rules : RulesOf) (t : ℤ) (s : LedgerState) (pairs : List (AskOf × AnswerOf)) (order : List ℕ) (position : ℕ) (u : LedgerState) (placeholder : Option (List ℕ)) : Type 0 where
  pub explains : Explains rules t s.now None (along pairs (take position order)) u.now placeholder
  pub sound : IsSound u.now
  pub marks : u.marks ≡ s.marks

take_zero : {A : Type 0} (xs : List A) → take 0 xs ≡ []
take_zero [] = refl
take_zero (x ∷ xs) = refl

module _ (rules : RulesOf) (t : ℤ) (s : LedgerState) (pairs : List (AskOf × AnswerOf)) (order : List ℕ) where
  pub along_none : (placeholder : Option (List ℕ)) → IsSound s.now → placeholder ≡ None → Along rules t s pairs order 0 s placeholder
  along_none placeholder sound is =
      let P : Option (List ℕ) → Type 0 = λ p. Along rules t s pairs order 0 s p in
      let Q : List ℕ → Type 0 = λ front. Explains rules t s.now None (along pairs front) s.now None in
      subst P (sym is) (record {
        explains = subst Q (sym (take_zero order)) (explains_none rules t s.now None);
        sound = sound;
        marks = refl;
      })

  module _ (position : ℕ) (u : LedgerState) (before : Option (List ℕ)) (l : Along rules t s pairs order position u before) where
    module _ (place : ℕ) (there : slice_get order position ≡ Some place) where
      -- the pair of the next place was taken, or there is none
      pub along_more : (v : LedgerState) (after : Option (List ℕ)) → PairTaken rules u before t (slice_get pairs place) (Ok tt) v after → Along rules t s pairs order (position + 1) v after
      along_more v after took =
          let P : List (AskOf × AnswerOf) → Type 0 = λ xs. Explains rules t s.now None xs v.now after in
          record {
            explains = subst P (sym (along_next pairs order position place there))
                (explains_more rules t s.now None (along pairs (take position order)) (one_of (slice_get pairs place)) u.now before v.now after l.explains took.0.0);
            sound = took.0.1;
            marks = took.1 ∙ l.marks;
          }

      -- or it was refused
      pub along_stops : (refusal : Refusal) (v : LedgerState) (after : Option (List ℕ)) → PairTaken rules u before t (slice_get pairs place) (Err refusal) v after
          → AlongTaken rules t s pairs order (Err (refused_at place refusal)) v
      along_stops (item.Impossible why) v after r = (
        record {
          position = position;
          place = place;
          there = there;
          reported = refl;
          between = u.now;
          placeholder = before;
          explains = l.explains;
          sound = l.sound;
          refuted = r.0;
        },
        r.1 ∙ l.marks,
      )
      along_stops item.Memory v after r = (tt, r.1 ∙ l.marks)

    -- after all places
    pub along_ends : length order ≤ position → AlongTaken rules t s pairs order (Ok tt) u
    along_ends h =
        let P : List ℕ → Type 0 = λ front. Explains rules t s.now None (along pairs front) u.now before in
        (record { placeholder = before; explains = subst P (take_past order position h) l.explains; sound = l.sound }, l.marks)

-- shapes that are judged by the time that so many items are done
judged_more : (unordered : Bool) (m n place : ℕ) → m ≤ n → IsJudgedBy unordered m place → IsJudgedBy unordered n place
judged_more false m n place h j = omega (arith, h, j)
judged_more true m n place h j = omega (arith, h, j)

pub shaped_fewer : (request : RequestOf) (response : ResponseOf) (m n : ℕ) → m ≤ n → AreShapedFor request response n → AreShapedFor request response m
shaped_fewer request response m n h shaped place j = shaped place (judged_more (is_unordered request) m n place h j)

judged_none : (unordered : Bool) (place : ℕ) → IsJudgedBy unordered 0 place → ⊥
judged_none false place j = omega (arith, j)
judged_none true place j = omega (arith, j)

-- where a call is ordered, they are those of the places before
shaped_before : (request : RequestOf) (response : ResponseOf) (count : ℕ) → is_unordered request ≡ false → IsShapedBelow request response count → AreShapedFor request response count
shaped_before request response count ordered below place j = let P : Bool → Type 0 = λ b. IsJudgedBy b count place in below place (subst P ordered j)

-- at each place of an order of taking stands a pair
pair_stands : (request : RequestOf) (response : ResponseOf) (order : List ℕ) → IsTakingOrder request response order → (position place : ℕ) → slice_get order position ≡ Some place
    → (x : AskOf × AnswerOf) × (slice_get (pairs_of request response) place ≡ Some x)
pair_stands request response order o position place e =
    let h = o.answered position place e in
    below_get (pairs_of request response) place (zip_above request.items response.items place h.0 h.1)

-- what stands at a position of the order, and the pairs up to it
record Next (request : RequestOf) (response : ResponseOf) (order : Option (List ℕ)) (places : List ℕ) (position place : ℕ) : Type 0 where
  at : place_at order position ≡ Some place
  front : along (pairs_of request response) (take position places) ≡ take position (pairs_taken request response order)
  more : take (position + 1) (pairs_taken request response order) ≡ take position (pairs_taken request response order) ++ one_of (slice_get (pairs_of request response) place)

next_of : (request : RequestOf) (response : ResponseOf) (order : Option (List ℕ)) (count position place : ℕ) → MayTake request response order → slice_get (places_of order count) position ≡ Some place
    → Next request response order (places_of order count) position place
next_of request response None count position place may there =
    let pairs : List (AskOf × AnswerOf) = pairs_of request response in
    let below : position < count = from_below 0 position count place there in
    let is : place ≡ position = from_is position count place there in
    record {
      at = ap Some (sym is);
      front = ap (along pairs) (take_from 0 position count (omega arith)) ∙ along_by_place pairs position;
      more = take_one_more pairs position ∙ ap (λ n. take position pairs ++ one_of (slice_get pairs n)) (sym is);
    }
next_of request response (Some order) count position place may there =
    let pairs : List (AskOf × AnswerOf) = pairs_of request response in
    let stands = pair_stands request response order may.2 in
    let front : take position (along pairs order) ≡ along pairs (take position order) = along_take pairs order position stands in
    record {
      at = there;
      front = sym front;
      more = along_take pairs order (position + 1) stands ∙ along_next pairs order position place there ∙ ap (λ l. l ++ one_of (slice_get pairs place)) (sym front);
    }

-- an order of a call that is ordered is by place
pub ordered_by_place : (request : RequestOf) (response : ResponseOf) (order : Option (List ℕ)) → MayTake request response order → is_unordered request ≡ false → None ≡ order
ordered_by_place request response None may e = refl
ordered_by_place request response (Some order) may e = absurd (clash (sym e ∙ may.0))

module _ (rules : RulesOf) (s : LedgerState) (request : RequestOf) (response : ResponseOf) (unrefused : RefusesMessage response → ⊥) where
  abbrev pairs : List (AskOf × AnswerOf)
  pairs = pairs_of request response

  -- what is possible of so many items
  possible : (order : Option (List ℕ)) (count : ℕ) → AreShapedFor request response count → CanChain rules response.stamp s.now None (take count (pairs_taken request response order))
      → IsPossibleUpToAlong rules s.now request response order count
  possible order count shaped c = record { shaped = shaped; choice = c.choice; chooses = c.chooses; things = c.things; placeholder = c.placeholder; chain = c.chain }

  -- where those before it were taken, an item is refused
  item_refuted : (order : Option (List ℕ)) (places : List ℕ) (position place : ℕ) → Next request response order places position place → AreShapedFor request response (position + 1)
      → (n : Meaning) (before : Option (List ℕ)) → Explains rules response.stamp s.now None (along pairs (take position places)) n before → IsSound n
      → (why : Why) → PairRefuted rules n before response.stamp (slice_get pairs place) why → CallRefutedAlong rules s.now request response order (place + 1) why
  item_refuted order places position place next shaped n before e sound why r =
      let t : ℤ = response.stamp in
      let front : List (AskOf × AnswerOf) = take position (pairs_taken request response order) in
      let P : List (AskOf × AnswerOf) → Type 0 = λ xs. Explains rules t s.now None xs n before in
      let taken : Explains rules t s.now None front n before = subst P next.front e in
      let last : take (position + 1) (pairs_taken request response order) ≡ front ++ (r.ask, r.answer) ∷ [] =
      next.more ∙ ap (λ (o : Option (AskOf × AnswerOf)). front ++ one_of o) r.there in
      record {
        count = position;
        before = possible order position (shaped_fewer request response position (position + 1) (omega arith) shaped) (taken_can rules t s.now None front n before taken sound);
        never = λ p.
            let Q : List (AskOf × AnswerOf) → Type 0 = λ xs. CanChain rules t s.now None xs in
            refused_cannot rules t s.now None front n before taken r.ask r.answer why r.refuted
            (subst Q last (record { choice = p.choice; chooses = p.chooses; things = p.things; placeholder = p.placeholder; chain = p.chain }));
        unrefused = unrefused;
        speaks = in_item place refl shaped next.at n before r.ask r.answer taken sound r.there r.refuted;
      }

  -- an item was refused, where all shapes that are judged by then are right
  refused_in_order : (order : Option (List ℕ)) (count : ℕ) → MayTake request response order → ((position : ℕ) → position < length (places_of order count) → AreShapedFor request response (position + 1))
      → (refusal : CallRefusal) (u : LedgerState) → AlongTaken rules response.stamp s pairs (places_of order count) (Err refusal) u → Ran rules s request response order (Err refusal) u
  refused_in_order order count may shaped (Impossible item why) u a =
      let x = a.0 in
      let below : x.position < length (places_of order count) = slice_get_within (places_of order count) x.position x.place x.there in
      let R : ℕ → Type 0 = λ reported. CallRefutedAlong rules s.now request response order reported why in (
        subst R (sym x.reported)
            (item_refuted order (places_of order count) x.position x.place (next_of request response order count x.position x.place may x.there) (shaped x.position below) x.between x.placeholder
            x.explains x.sound why x.refuted),
        a.1,
      )
  refused_in_order order count may shaped Memory u a = a

  -- where all places have their shape
  pub ran_shaped : (places : Option (List ℕ)) (count : ℕ) → TakesCount request places count → MayTake request response (order_given places) → IsShaped request response
      → (result : Result (Unit {0}) CallRefusal) (u : LedgerState) → AlongTaken rules response.stamp s pairs (places_of (order_given places) count) result u
      → Ran rules s request response (order_given places) result u
  ran_shaped None count all may shaped (Ok done) u a =
      let P : List (AskOf × AnswerOf) → Type 0 = λ xs. Explains rules response.stamp s.now None xs u.now a.0.placeholder in
      let few : length pairs ≤ count = zip_short request.items response.items count all in
      (record { shaped = shaped; placeholder = a.0.placeholder; explains = subst P (by_place_is_all request response count few) a.0.explains; sound = a.0.sound }, a.1)
  ran_shaped (Some places) count all may shaped (Ok done) u a =
      (record { shaped = shaped; placeholder = a.0.placeholder; explains = a.0.explains; sound = a.0.sound }, a.1)
  ran_shaped places count all may shaped (Err refusal) u a = refused_in_order (order_given places) count may (λ position below place j. shaped place) refusal u a

  -- where a place hasn't its shape, and the call is ordered
  module _ (count : ℕ) (first : IsFirstUnshaped request response count) (ordered : is_unordered request ≡ false) where
    pub ran_before : (refusal : CallRefusal) (u : LedgerState) → AlongTaken rules response.stamp s pairs (places_from 0 count) (Err refusal) u → Ran rules s request response None (Err refusal) u
    ran_before refusal u a =
        refused_in_order None count tt (λ position below.
        shaped_before request response (position + 1) ordered (λ place h. first.0 place (omega (arith, h, below, length_from 0 count)))) refusal u a

    pub ran_unshaped : (u : LedgerState) → AlongTaken rules response.stamp s pairs (places_from 0 count) (Ok tt) u → Ran rules s request response None (Err (Impossible (count + 1) BatchShape)) u
    ran_unshaped u a =
        let P : List (AskOf × AnswerOf) → Type 0 = λ xs. Explains rules response.stamp s.now None xs u.now a.0.placeholder in
        let J : Bool → Type 0 = λ b. IsJudgedBy b (count + 1) count in
        let judged : IsJudgedBy (is_unordered request) (count + 1) count = subst J (sym ordered) (omega arith) in (
          record {
            count = count;
            before = possible None count (shaped_before request response count ordered first.0)
                (taken_can rules response.stamp s.now None (take count pairs) u.now a.0.placeholder (subst P (along_by_place pairs count) a.0.explains) a.0.sound);
            never = λ p. first.1 (p.shaped count judged);
            unrefused = unrefused;
            speaks = in_shape count refl judged first refl;
          },
          a.1,
        )

  -- and where it is without order
  pub ran_misshapen : (order : Option (List ℕ)) (place : ℕ) → IsFirstUnshaped request response place → is_unordered request ≡ true → IsSound s.now
      → Ran rules s request response order (Err (Impossible (place + 1) BatchShape)) s
  ran_misshapen order place first unordered sound =
      let J : Bool → Type 0 = λ b. IsJudgedBy b (0 + 1) place in
      let judged : IsJudgedBy (is_unordered request) (0 + 1) place = subst J (sym unordered) (omega arith) in
      let C : List (AskOf × AnswerOf) → Type 0 = λ xs. CanChain rules response.stamp s.now None xs in
      let none = taken_can rules response.stamp s.now None [] s.now None (explains_none rules response.stamp s.now None) sound in (
        record {
          count = 0;
          before = possible order 0 (λ other j. absurd (judged_none (is_unordered request) other j)) (subst C (sym (take_zero (pairs_taken request response order))) none);
          never = λ p. first.1 (p.shaped place judged);
          unrefused = unrefused;
          speaks = in_shape place refl judged first refl;
        },
        refl,
      )

-- only one item is reported
first_once : (request : RequestOf) (response : ResponseOf) (place other : ℕ) → IsFirstUnshaped request response place → IsFirstUnshaped request response other → place ≡ other
first_once request response place other a b = elim (less_or_not place other) [
  | inl x ↦ absurd (a.1 (b.0 place x.0))
  | inr x ↦ (elim (less_or_not other place) [ inl y ↦ absurd (b.1 (a.0 other y.0)) | inr y ↦ (let u : other ≤ place = x.0 in let v : place ≤ other = y.0 in omega arith) ])
]

pub one_item_is_reported : OneItemIsTold
one_item_is_reported rules m n request response order count item other why because (in_shape p reported judged first is) (in_shape q said tested least same) =
    reported ∙ ap (λ k. k + 1) (first_once request response p q first least) ∙ sym said
one_item_is_reported rules m n request response order count item other why because (in_shape p reported judged first is) (in_item q said shaped at k b x a e kept there r) = absurd (first.1 (shaped p judged))
one_item_is_reported rules m n request response order count item other why because (in_item p reported shaped at k b x a e kept there r) (in_shape q said judged first is) = absurd (first.1 (shaped q judged))
one_item_is_reported rules m n request response order count item other why because (in_item p reported shaped at k b x a e kept there r) (in_item q said formed stands l c y d f still here z) =
    let two : Some p ≡ Some q = sym at ∙ stands in
    let one : p ≡ q = cc in
    reported ∙ ap (λ k. k + 1) one ∙ sym said

same_pair : (p q : AskOf × AnswerOf) → Some p ≡ Some q → (p.0 ≡ q.0) × (p.1 ≡ q.1)
same_pair p q e = (ap (λ o. (of o).0) e, ap (λ o. (of o).1) e)
  where
    of : Option (AskOf × AnswerOf) → AskOf × AnswerOf
    of None = p
    of (Some x) = x

-- and over ledgers that stand for the same inventories one reason
item_reported : (rules : RulesOf) (t : ℤ) (k l : Meaning) (b c : Option (List ℕ)) (x y : AskOf) (a d : AnswerOf) (why because : Why)
    → IsSound k → IsSound l → StandAlike k l → b ≡ c → x ≡ y → a ≡ d → lowest rules k b t x a ≡ Some why → lowest rules l c t y d ≡ Some because → why ≡ because
item_reported rules t k l b c x y a d why because kept still alike same one two e f =
    let g : lowest rules k b t x a ≡ lowest rules l c t y d = (λ i. lowest rules k (same i) t (one i) (two i)) ∙ (alike_speak_alike rules k l c t y d kept still alike).1 in
    let h : Some why ≡ Some because = sym e ∙ g ∙ f in
    cc

pub one_reason_is_reported : OneReasonIsTold
one_reason_is_reported rules m n request response order count item other why because alike (in_shape p reported judged first is) (in_shape q said tested least same) = is ∙ sym same
one_reason_is_reported rules m n request response order count item other why because alike (in_shape p reported judged first is) (in_item q said shaped at k b x a e kept there r) = absurd (first.1 (shaped p judged))
one_reason_is_reported rules m n request response order count item other why because alike (in_item p reported shaped at k b x a e kept there r) (in_shape q said judged first is) = absurd (first.1 (shaped q judged))
one_reason_is_reported rules m n request response order count item other why because alike (in_item p reported shaped at k b x a e kept there r) (in_item q said formed stands l c y d f still here z) =
    let two : Some p ≡ Some q = sym at ∙ stands in
    let one : p ≡ q = cc in
    let pair = same_pair (x, a) (y, d) (sym there ∙ ap (slice_get (pairs_of request response)) one ∙ here) in
    let go = alike_go_alike rules response.stamp m n None (take count (pairs_taken request response order)) k l b c alike kept e f in
    item_reported rules response.stamp k l b c x y a d why because kept still go.0 go.1 pair.0 pair.1 r.named z.named
