-- The places of a call, one after the other, over any ledger.
use Rattle.std.proofs.Common.{◌≡◌, ◌≤◌, ◌<◌, ℕ, ◌+◌, ◌-◌, ℤ, Bool, true, false, List, [], ◌∷◌, ◌++◌, length, take, Option, Some, None, Result, Ok, Err, slice_get, refl, sym, ap, ◌∙◌, subst, arith}
use Rattle.std.proofs.lemmas.List.{length-map}
use Rattle.std.proofs.lemmas.Option.{slice_get_within}
use Rattle.kmipa_object.proofs.ListLemmas.{below_get}
use Rattle.kmipa_store.specs.Ledger.{Meaning, LedgerState}
use Rattle.kmipa_store.specs.Choices.{IsSound}
use Rattle.kmipa_msgs.specs.Messages.{RulesOf}
use Rattle.kmipa_ops.specs.declared.why.Why.{Why}
use Rattle.kmipa_ops.specs.declared.why.Why.TheVariants.{BatchShape}
use Rattle.kmipa_ops.specs.declared.why.Refusal.{Refusal}
use Rattle.kmipa_ops.specs.declared.why.Refusal.TheVariants as item
use Rattle.kmipa_passed.specs.Leaving.{HeldOf, empty, held_of}
use Rattle.kmipa_passed.specs.declared.leaving.Held.{Held}
use Rattle.kmipa_batch.specs.Orders.{IsTakingOrder, one_of, along, place_at, places_from, order_given}
use Rattle.kmipa_batch.specs.Refusals.{IsJudgedBy}
use Rattle.kmipa_batch.specs.Running.{places_of, refused_at}
use Rattle.kmipa_batch.specs.declared.refusal.CallRefusal.{CallRefusal}
use Rattle.kmipa_batch.specs.declared.refusal.CallRefusal.TheVariants.{Impossible, Memory}
use Rattle.kmipa_batch.proofs.ShapeLemmas.{clash}
use Rattle.kmipa_batch.proofs.PlaceLemmas.{take_one_more, take_past}
use Rattle.kmipa_batch.proofs.OrderLemmas.{along_next, along_take, along_by_place, length_from, take_from, from_below, from_is}
use Rattle.kmipa_places.specs.Calls.{ReadOf}
use Rattle.kmipa_places.specs.Places.{PlaceOf}
use Rattle.kmipa_bundle.specs.Shapes.{IsShapedBelow, IsShaped, IsFirstUnshaped, is_unordered, request_as, response_as}
use Rattle.kmipa_bundle.specs.Bundles.{DoesPlace, IsWhole, MayTake, places_taken, sight_on}
use Rattle.kmipa_bundle.specs.Refusals.SpeaksAt.{in_shape, in_item}
use Rattle.kmipa_bundle.specs.Refusals.{AreShapedFor, CallRefuted, IsPossibleUpTo, TellsPlace}
use Rattle.kmipa_bundle.specs.Composing.{CanBeDone}
use Rattle.kmipa_bundle.specs.Counts.{Counted, CountsOf, counted_there, counts_of, no_counts, total}
use Rattle.kmipa_bundle.specs.declared.counts.Counts.{Counts}
use Rattle.kmipa_bundle.specs.declared.progress.Progress.{Progress}
use Rattle.kmipa_bundle.specs.Running.{AlongTaken, GoesThere, Led, Ran, TakenPlace, TakenThere, TakesCount, ThereRefuted}
use Rattle.kmipa_aside.specs.Becoming.{stand_in}
use Rattle.kmipa_aside.specs.Sights.{SightOf}
use Rattle.kmipa_bundle.proofs.CountLemmas.{counted_there_more, counts_more}
use Rattle.kmipa_bundle.proofs.ChainLemmas.{explains_none, explains_one, explains_more, taken_can, refuted_cannot}

-- where there is no place nothing is done
pub there_none : (sight : SightOf) (s : LedgerState) (before : HeldOf) (t : ℤ) (o : Option PlaceOf) (after : Held) → o ≡ None → held_of after ≡ before → IsSound s.now → TakenThere sight s before t o (Ok after) s
there_none sight s before t o after is same sound =
    let P : Option PlaceOf → Type 0 = λ x. TakenThere sight s before t x (Ok after) s in
    let Q : HeldOf → Type 0 = λ h. Led sight t s.now before [] s.now h in
    subst P (sym is) (subst Q (sym same) (explains_none (DoesPlace sight t) TellsPlace s.now before), sound, refl)

-- and else what that one comes to
taken_there : (sight : SightOf) (s : LedgerState) (before : HeldOf) (t : ℤ) (place : PlaceOf) (result : Result Held Refusal) (u : LedgerState)
    → TakenPlace sight s before t place result u → TakenThere sight s before t (Some place) result u
taken_there sight s before t place (Ok after) u r = (explains_one (DoesPlace sight t) TellsPlace place s.now before u.now (held_of after) r.explains, r.sound, r.marks)
taken_there sight s before t place (Err (item.Impossible why)) u r = (record { place = place; there = refl; refuted = r.0 }, ap (λ (x : LedgerState). x.marks) r.1)
taken_there sight s before t place (Err item.Memory) u r = r

pub there_taken : (sight : SightOf) (s : LedgerState) (before : HeldOf) (moment t : ℤ) (place : PlaceOf) (o : Option PlaceOf) → moment ≡ t → o ≡ Some place
    → (result : Result Held Refusal) (u : LedgerState) → TakenPlace sight s before moment place result u → TakenThere sight s before t o result u
there_taken sight s before moment t place o at is result u r =
    let P : Option PlaceOf → Type 0 = λ x. TakenThere sight s before t x result u in
    let Q : ℤ → Type 0 = λ x. TakenThere sight s before x (Some place) result u in
    subst P (sym is) (subst Q at (taken_there sight s before moment place result u r))

-- as far as the places have come: those before a position of the order, from a ledger `s` to `u`
pub record Along (sight : SightOf) (t : ℤ) (s : LedgerState) (places : List PlaceOf) (order : List ℕ) (position : ℕ) (u : LedgerState) (held : HeldOf) (k : CountsOf) : Type 0 where
  pub led : Led sight t s.now empty (along places (take position order)) u.now held
  pub sound : IsSound u.now
  pub marks : u.marks ≡ s.marks
  pub counted : Counted sight t s.now empty no_counts (along places (take position order)) u.now held k
  pub few : total k ≤ position

take_zero : {A : Type 0} (xs : List A) → take 0 xs ≡ []
take_zero [] = refl
take_zero (x ∷ xs) = refl

module _ (sight : SightOf) (t : ℤ) (s : LedgerState) (places : List PlaceOf) (order : List ℕ) where
  pub along_none : (held : HeldOf) (k : CountsOf) → IsSound s.now → held ≡ empty → k ≡ no_counts → Along sight t s places order 0 s held k
  along_none held k sound is none =
      let P : HeldOf → Type 0 = λ h. Along sight t s places order 0 s h k in
      let K : CountsOf → Type 0 = λ n. Along sight t s places order 0 s empty n in
      let Q : List ℕ → Type 0 = λ front. Led sight t s.now empty (along places front) s.now empty in
      let R : List ℕ → Type 0 = λ front. Counted sight t s.now empty no_counts (along places front) s.now empty no_counts in
      subst P (sym is) (subst K (sym none) (record {
        led = subst Q (sym (take_zero order)) (explains_none (DoesPlace sight t) TellsPlace s.now empty);
        sound = sound;
        marks = refl;
        counted = subst R (sym (take_zero order)) (λ c h. (refl, refl, refl));
        few = omega arith;
      }))

  module _ (position : ℕ) (u : LedgerState) (p : Progress) (l : Along sight t s places order position u (held_of p.held) (counts_of p.counts)) where
    module _ (place : ℕ) (there : slice_get order position ≡ Some place) where
      -- the next place was taken, or there is none
      pub along_more : (v : LedgerState) (q : Progress) → GoesThere sight u p t (slice_get places place) (Ok q) v
          → Along sight t s places order (position + 1) v (held_of q.held) (counts_of q.counts)
      along_more v q took =
          let P : List PlaceOf → Type 0 = λ xs. Led sight t s.now empty xs v.now (held_of q.held) in
          let Q : List PlaceOf → Type 0 = λ xs. Counted sight t s.now empty no_counts xs v.now (held_of q.held) (counts_of q.counts) in
          let front : List PlaceOf = along places (take position order) in
          let next = along_next places order position place there in
          let more = counted_there_more sight.rules (stand_in u.now) (held_of p.held) (slice_get places place) (counts_of p.counts) in
          let few = l.few in
          let is : total (counts_of q.counts) ≡ total (counted_there sight.rules (stand_in u.now) (held_of p.held) (slice_get places place) (counts_of p.counts)) = ap total took.1 in
          record {
            led = subst P (sym next)
                (explains_more (DoesPlace sight t) TellsPlace s.now empty front (one_of (slice_get places place)) u.now (held_of p.held) v.now (held_of q.held) l.led took.0.0);
            sound = took.0.1;
            marks = took.0.2 ∙ l.marks;
            counted = subst Q (sym next)
                (counts_more sight t s.now empty no_counts front u.now (held_of p.held) (counts_of p.counts) (slice_get places place) v.now (held_of q.held) (counts_of q.counts) l.counted
                took.0.0 took.1);
            few = omega (arith, more, few, is);
          }

      -- or it was refused
      pub along_stops : (refusal : Refusal) (v : LedgerState) → GoesThere sight u p t (slice_get places place) (Err refusal) v
          → AlongTaken sight t s places order (Err (refused_at place refusal)) v
      along_stops (item.Impossible why) v r = (
        record {
          position = position;
          place = place;
          there = there;
          reported = refl;
          between = u.now;
          held = held_of p.held;
          led = l.led;
          sound = l.sound;
          refuted = r.0;
        },
        r.1 ∙ l.marks,
      )
      along_stops item.Memory v r = (tt, r ∙ l.marks)

    -- after all places
    pub along_ends : length order ≤ position → AlongTaken sight t s places order (Ok p.counts) u
    along_ends h =
        let P : List ℕ → Type 0 = λ front. Led sight t s.now empty (along places front) u.now (held_of p.held) in
        let Q : List ℕ → Type 0 = λ front. Counted sight t s.now empty no_counts (along places front) u.now (held_of p.held) (counts_of p.counts) in
        (record { held = held_of p.held; led = subst P (take_past order position h) l.led; sound = l.sound; counted = subst Q (take_past order position h) l.counted }, l.marks)

-- shapes that are judged by the time that so many items are done
judged_more : (unordered : Bool) (m n place : ℕ) → m ≤ n → IsJudgedBy unordered m place → IsJudgedBy unordered n place
judged_more false m n place h j = omega (arith, h, j)
judged_more true m n place h j = omega (arith, h, j)

shaped_fewer : (c : ReadOf) (m n : ℕ) → m ≤ n → AreShapedFor c n → AreShapedFor c m
shaped_fewer c m n h shaped place j = shaped place (judged_more (is_unordered c) m n place h j)

judged_none : (unordered : Bool) (place : ℕ) → IsJudgedBy unordered 0 place → ⊥
judged_none false place j = omega (arith, j)
judged_none true place j = omega (arith, j)

-- where a call is ordered, they are those of the places before
shaped_before : (c : ReadOf) (count : ℕ) → is_unordered c ≡ false → IsShapedBelow c count → AreShapedFor c count
shaped_before c count ordered below place j = let P : Bool → Type 0 = λ b. IsJudgedBy b count place in below place (subst P ordered j)

-- so many places are taken
pub given_long : (c : ReadOf) (places : Option (List ℕ)) (count : ℕ) → TakesCount c places count → length (places_of (order_given places) count) ≡ count
given_long c None count h = length_from 0 count
given_long c (Some ps) count h = length-map ps (λ (place : ℕ). place - 1) ∙ sym h

-- at each place of an order of taking something stands
stands : (c : ReadOf) (order : List ℕ) → IsWhole c → IsTakingOrder (request_as c) (response_as c) order → (position place : ℕ) → slice_get order position ≡ Some place
    → (x : PlaceOf) × (slice_get c.places place ≡ Some x)
stands c order whole o position place e = below_get c.places place (whole place (o.answered position place e))

-- what stands at a position of the order, and the places up to it
record Next (c : ReadOf) (order : Option (List ℕ)) (places : List ℕ) (position place : ℕ) : Type 0 where
  at : place_at order position ≡ Some place
  front : along c.places (take position places) ≡ take position (places_taken c order)
  more : take (position + 1) (places_taken c order) ≡ take position (places_taken c order) ++ one_of (slice_get c.places place)

next_of : (c : ReadOf) (order : Option (List ℕ)) (count position place : ℕ) → IsWhole c → MayTake c order → slice_get (places_of order count) position ≡ Some place
    → Next c order (places_of order count) position place
next_of c None count position place whole may there =
    let below : position < count = from_below 0 position count place there in
    let is : place ≡ position = from_is position count place there in
    record {
      at = ap Some (sym is);
      front = ap (along c.places) (take_from 0 position count (omega arith)) ∙ along_by_place c.places position;
      more = take_one_more c.places position ∙ ap (λ n. take position c.places ++ one_of (slice_get c.places n)) (sym is);
    }
next_of c (Some order) count position place whole may there =
    let on = stands c order whole may.2 in
    let front : take position (along c.places order) ≡ along c.places (take position order) = along_take c.places order position on in
    record {
      at = there;
      front = sym front;
      more = along_take c.places order (position + 1) on ∙ along_next c.places order position place there ∙ ap (λ l. l ++ one_of (slice_get c.places place)) (sym front);
    }

-- an order of a call that is ordered is by place
pub ordered_by_place : (c : ReadOf) (order : Option (List ℕ)) → MayTake c order → is_unordered c ≡ false → None ≡ order
ordered_by_place c None may e = refl
ordered_by_place c (Some order) may e = absurd (clash (sym e ∙ may.0))

module _ (rules : RulesOf) (s : LedgerState) (c : ReadOf) (whole : IsWhole c) (unrefused : c.refused ≡ false) where
  -- what is possible of so many places
  possible : (order : Option (List ℕ)) (count : ℕ) → AreShapedFor c count → CanBeDone (DoesPlace (sight_on rules c) c.stamp) s.now empty (take count (places_taken c order))
      → IsPossibleUpTo rules s.now c order count
  possible order count shaped p = record { shaped = shaped; choice = p.choice; chooses = p.chooses; left = p.left; held = p.held; chain = p.chain }

  -- where those before it were taken, a place is refused
  place_refuted : (order : Option (List ℕ)) (places : List ℕ) (position place : ℕ) → Next c order places position place → AreShapedFor c (position + 1)
      → (n : Meaning) (before : HeldOf) → Led (sight_on rules c) c.stamp s.now empty (along c.places (take position places)) n before → IsSound n
      → (why : Why) → ThereRefuted (sight_on rules c) c.stamp n before (slice_get c.places place) why → CallRefuted rules s.now c order (place + 1) why
  place_refuted order places position place next shaped n before e sound why r =
      let front : List PlaceOf = take position (places_taken c order) in
      let P : List PlaceOf → Type 0 = λ xs. Led (sight_on rules c) c.stamp s.now empty xs n before in
      let taken : Led (sight_on rules c) c.stamp s.now empty front n before = subst P next.front e in
      let last : take (position + 1) (places_taken c order) ≡ front ++ r.place ∷ [] = next.more ∙ ap (λ (o : Option PlaceOf). front ++ one_of o) r.there in
      record {
        count = position;
        before = possible order position (shaped_fewer c position (position + 1) (omega arith) shaped) (taken_can (DoesPlace (sight_on rules c) c.stamp) TellsPlace s.now empty front n before taken sound);
        never = λ p.
            let Q : List PlaceOf → Type 0 = λ xs. CanBeDone (DoesPlace (sight_on rules c) c.stamp) s.now empty xs in
            refuted_cannot (DoesPlace (sight_on rules c) c.stamp) TellsPlace s.now empty front n before taken r.place r.refuted.refutes
            (subst Q last (record { choice = p.choice; chooses = p.chooses; left = p.left; held = p.held; chain = p.chain }));
        unrefused = unrefused;
        speaks = in_item place refl shaped next.at n before r.place taken sound r.there r.refuted;
      }

  -- a place was refused, where all shapes that are judged by then are right
  refused_in_order : (order : Option (List ℕ)) (count : ℕ) → MayTake c order → ((position : ℕ) → position < length (places_of order count) → AreShapedFor c (position + 1))
      → (refusal : CallRefusal) (u : LedgerState) → AlongTaken (sight_on rules c) c.stamp s c.places (places_of order count) (Err refusal) u → Ran rules s c order (Err refusal) u
  refused_in_order order count may shaped (Impossible item why) u a =
      let x = a.0 in
      let below : x.position < length (places_of order count) = slice_get_within (places_of order count) x.position x.place x.there in
      let R : ℕ → Type 0 = λ reported. CallRefuted rules s.now c order reported why in (
        subst R (sym x.reported)
            (place_refuted order (places_of order count) x.position x.place (next_of c order count x.position x.place whole may x.there) (shaped x.position below) x.between x.held
            x.led x.sound why x.refuted),
        a.1,
      )
  refused_in_order order count may shaped Memory u a = a

  -- where all places have their shape
  pub ran_shaped : (places : Option (List ℕ)) (count : ℕ) → TakesCount c places count → MayTake c (order_given places) → IsShaped c
      → (result : Result Counts CallRefusal) (u : LedgerState) → AlongTaken (sight_on rules c) c.stamp s c.places (places_of (order_given places) count) result u
      → Ran rules s c (order_given places) result u
  ran_shaped None count all may shaped (Ok k) u a =
      let P : List PlaceOf → Type 0 = λ xs. Led (sight_on rules c) c.stamp s.now empty xs u.now a.0.held in
      let Q : List PlaceOf → Type 0 = λ xs. Counted (sight_on rules c) c.stamp s.now empty no_counts xs u.now a.0.held (counts_of k) in
      let is : along c.places (places_from 0 count) ≡ c.places = along_by_place c.places count ∙ take_past c.places count all in
      (record { shaped = shaped; held = a.0.held; led = subst P is a.0.led; sound = a.0.sound; counted = subst Q is a.0.counted }, a.1)
  ran_shaped (Some places) count all may shaped (Ok k) u a =
      (record { shaped = shaped; held = a.0.held; led = a.0.led; sound = a.0.sound; counted = a.0.counted }, a.1)
  ran_shaped places count all may shaped (Err refusal) u a = refused_in_order (order_given places) count may (λ position below place j. shaped place) refusal u a

  -- where a place hasn't its shape, and the call is ordered
  module _ (count : ℕ) (first : IsFirstUnshaped c count) (ordered : is_unordered c ≡ false) where
    pub ran_before : (refusal : CallRefusal) (u : LedgerState) → AlongTaken (sight_on rules c) c.stamp s c.places (places_from 0 count) (Err refusal) u → Ran rules s c None (Err refusal) u
    ran_before refusal u a =
        refused_in_order None count tt (λ position below.
        shaped_before c (position + 1) ordered (λ place h. first.0 place (omega (arith, h, below, length_from 0 count)))) refusal u a

    pub ran_unshaped : (k : Counts) (u : LedgerState) → AlongTaken (sight_on rules c) c.stamp s c.places (places_from 0 count) (Ok k) u → Ran rules s c None (Err (Impossible (count + 1) BatchShape)) u
    ran_unshaped k u a =
        let P : List PlaceOf → Type 0 = λ xs. Led (sight_on rules c) c.stamp s.now empty xs u.now a.0.held in
        let J : Bool → Type 0 = λ b. IsJudgedBy b (count + 1) count in
        let judged : IsJudgedBy (is_unordered c) (count + 1) count = subst J (sym ordered) (omega arith) in (
          record {
            count = count;
            before = possible None count (shaped_before c count ordered first.0)
                (taken_can (DoesPlace (sight_on rules c) c.stamp) TellsPlace s.now empty (take count c.places) u.now a.0.held (subst P (along_by_place c.places count) a.0.led) a.0.sound);
            never = λ p. first.1 (p.shaped count judged);
            unrefused = unrefused;
            speaks = in_shape count refl judged first refl;
          },
          a.1,
        )

  -- and where it is without order
  pub ran_misshapen : (order : Option (List ℕ)) (place : ℕ) → IsFirstUnshaped c place → is_unordered c ≡ true → IsSound s.now
      → Ran rules s c order (Err (Impossible (place + 1) BatchShape)) s
  ran_misshapen order place first unordered sound =
      let J : Bool → Type 0 = λ b. IsJudgedBy b (0 + 1) place in
      let judged : IsJudgedBy (is_unordered c) (0 + 1) place = subst J (sym unordered) (omega arith) in
      let C : List PlaceOf → Type 0 = λ xs. CanBeDone (DoesPlace (sight_on rules c) c.stamp) s.now empty xs in
      let none = taken_can (DoesPlace (sight_on rules c) c.stamp) TellsPlace s.now empty [] s.now empty (explains_none (DoesPlace (sight_on rules c) c.stamp) TellsPlace s.now empty) sound in (
        record {
          count = 0;
          before = possible order 0 (λ other j. absurd (judged_none (is_unordered c) other j)) (subst C (sym (take_zero (places_taken c order))) none);
          never = λ p. first.1 (p.shaped place judged);
          unrefused = unrefused;
          speaks = in_shape place refl judged first refl;
        },
        refl,
      )
