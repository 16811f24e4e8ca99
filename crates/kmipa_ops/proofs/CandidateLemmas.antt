-- The next place of an object that may have to be listed.
use Rattle.std.proofs.Common.{◌≡◌, ◌<◌, ◌≤◌, ◌+◌, ◌&&◌, ◌||◌, ◌==◌, ℕ, suc, ℤ, Bool, true, false, not, nat_lt, is_none, is_some, drop, List, slice_get, Option, Some, None, refl, ap, sym, ◌∙◌, inl, inr, arith}
use Rattle.std.specs.List.{position_from}
use Rattle.std.specs.Ordering.{int_eq}
use Rattle.std.proofs.lemmas.Bool.Decides.{nat_tests}
use Rattle.kmipa_attrs.specs.Filters.{FilterOf}
use Rattle.kmipa_attrs.specs.ObjectTypes.{type_number}
use Rattle.kmipa_object.specs.Inventory.{Card, live}
use Rattle.kmipa_object.specs.Life.{Dates, state, state_number}
use Rattle.kmipa_object.specs.declared.state.State.{State}
use Rattle.kmipa_object.specs.declared.state.State.TheVariants.{PreActive, Active, Deactivated, Compromised, Destroyed, DestroyedCompromised}
use Rattle.kmipa_store.specs.Ledger.{Held}
use Rattle.kmipa_store.specs.Queries.{has_feature, has_length, has_number, next_with}
use Rattle.kmipa_store.specs.declared.feature.Feature.{Feature}
use Rattle.kmipa_store.specs.declared.feature.Feature.TheVariants.{Live, State as InState, Kind, Algorithm, Length}
use Rattle.kmipa_store.specs.Features.{is_live_state}
use Rattle.kmipa_store.proofs.FeatureLemmas.{live_state}
use Rattle.kmipa_ops.specs.GetAttributes.{has_stranger}
use Rattle.kmipa_ops.specs.Listing.{NextCandidate}
use Rattle.kmipa_ops.specs.Locate.{is_doubtful, is_unsure, may_fit, must_fit, says_no}
use Rattle.kmipa_ops.specs.Objects.{clash, is_other}
use Rattle.kmipa_ops.proofs.ListingLemmas.{destroyed_not, dropped, false_right, lt_or_le, position_none, position_some}
use Rattle.kmipa_ops.proofs.TestLemmas.{or_right}

-- from one candidate to a later one
pub candidate_on : (hs : List Held) (t : ℤ) (q : FilterOf) (from a : ℕ) (o : Option ℕ) → NextCandidate hs t q from (Some a) → NextCandidate hs t q a o → NextCandidate hs t q from o
candidate_on hs t q from a None x y = λ to p h low high at. elim (lt_or_le p a) [ inl below ↦ x.1 p h low below at | inr above ↦ y to p h above high at ]
candidate_on hs t q from a (Some b) x y =
    let first : from ≤ a = x.0 in
    let second : a ≤ b = y.0 in
    (omega (arith, first, second), λ p h low high at. elim (lt_or_le p a) [ inl below ↦ x.1 p h low below at | inr above ↦ y.1 p h above high at ])

-- a feature that each object has that must be listed
abbrev pub IsWanted : FilterOf → ℤ → Feature → Type 0
IsWanted q t feature = (h : Held) → has_feature feature t h ≡ false → must_fit q (state h.card.dates t) h.card ≡ false

pub candidate_with : (hs : List Held) (t : ℤ) (q : FilterOf) (feature : Feature) (from : ℕ) (o : Option ℕ) → IsWanted q t feature → o ≡ next_with feature t from hs → NextCandidate hs t q from o
candidate_with hs t q feature from None wanted e = λ to p h low high at.
    let d = dropped hs from p h low at in wanted h (position_none (has_feature feature t) (drop from hs) from (sym e) d.0 h d.2)
candidate_with hs t q feature from (Some to) wanted e =
    let r = position_some (has_feature feature t) (drop from hs) from to (sym e) in (
      r.0,
      λ p h low high at.
          let d = dropped hs from p h low at in
          let below : from + d.0 < to = let same : from + d.0 ≡ p = d.1 in omega (arith, same, high) in
          wanted h (r.1 d.0 h below d.2),
    )

-- where no object must be listed
pub candidate_none : (hs : List Held) (t : ℤ) (q : FilterOf) (from : ℕ) → ((h : Held) → must_fit q (state h.card.dates t) h.card ≡ false) → NextCandidate hs t q from None
candidate_none hs t q from none = λ to p h low high at. none h

-- WHAT IS ASKED FOR

no_if : (q : FilterOf) (s : State) (c : Card) → says_no q s c ≡ true → must_fit q s c ≡ false
no_if q s c says = ap (λ (b : Bool). not b && not (is_doubtful q c)) says

doubt_if : (q : FilterOf) (s : State) (c : Card) → is_doubtful q c ≡ true → must_fit q s c ≡ false
doubt_if q s c doubtful = false_right (may_fit q s c) (not (is_doubtful q c)) (ap not doubtful)

second_of : (a b c d e : Bool) → b ≡ true → (a || b || c || d || e) ≡ true
second_of true b c d e h = refl
second_of false true c d e h = refl
second_of false false c d e h = cc

third_of : (a b c d e : Bool) → c ≡ true → (a || b || c || d || e) ≡ true
third_of true b c d e h = refl
third_of false true c d e h = refl
third_of false false true d e h = refl
third_of false false false d e h = cc

fourth_of : (a b c d e : Bool) → d ≡ true → (a || b || c || d || e) ≡ true
fourth_of true b c d e h = refl
fourth_of false true c d e h = refl
fourth_of false false true d e h = refl
fourth_of false false false true e h = refl
fourth_of false false false false e h = cc

fifth_of : (a b c d e : Bool) → e ≡ true → (a || b || c || d || e) ≡ true
fifth_of true b c d e h = refl
fifth_of false true c d e h = refl
fifth_of false false true d e h = refl
fifth_of false false false true e h = refl
fifth_of false false false false e h = h

third_of_four : (a b c d : Bool) → c ≡ true → (a || b || c || d) ≡ true
third_of_four true b c d h = refl
third_of_four false true c d h = refl
third_of_four false false true d h = refl
third_of_four false false false d h = cc

last_of_four : (a b c d : Bool) → d ≡ true → (a || b || c || d) ≡ true
last_of_four true b c d h = refl
last_of_four false true c d h = refl
last_of_four false false true d h = refl
last_of_four false false false d h = h

pub wants_live : (q : FilterOf) (t : ℤ) → IsWanted q t Live
wants_live q t h gone = destroyed_not q (state h.card.dates t) h.card gone

module _ (q : FilterOf) (t : ℤ) where
  abbrev no_names : Held → Bool
  no_names h = has_stranger h.card.given.names q.names

  abbrev no_type : Held → Bool
  no_type h = is_other (λ (x y : ℕ). x == y) q.object_type (type_number h.card.kind)

  abbrev no_state : Held → Bool
  no_state h = is_other (λ (x y : ℕ). x == y) q.state (state_number (state h.card.dates t))

  abbrev no_algorithm : Held → Bool
  no_algorithm h = clash (λ (x y : ℕ). x == y) q.algorithm h.card.given.algorithm

  abbrev no_length : Held → Bool
  no_length h = clash int_eq q.length h.card.given.length

  pub wants_type : (n : ℕ) → q.object_type ≡ Some n → IsWanted q t (Kind n)
  wants_type n is h lacks =
      no_if q (state h.card.dates t) h.card
      (second_of (no_names h) (no_type h) (no_state h) (no_algorithm h) (no_length h) (ap (λ o. is_other (λ (x y : ℕ). x == y) o (type_number h.card.kind)) is ∙ ap not lacks))

  pub wants_state : (n : ℕ) → q.state ≡ Some n → IsWanted q t (InState n)
  wants_state n is h lacks =
      no_if q (state h.card.dates t) h.card
      (third_of (no_names h) (no_type h) (no_state h) (no_algorithm h) (no_length h) (ap (λ o. is_other (λ (x y : ℕ). x == y) o (state_number (state h.card.dates t))) is ∙ ap not lacks))

  algorithm_by : (n : ℕ) (h : Held) (o : Option ℕ) → q.algorithm ≡ Some n → h.card.given.algorithm ≡ o → has_number o n ≡ false → must_fit q (state h.card.dates t) h.card ≡ false
  algorithm_by n h None is own lacks =
      doubt_if q (state h.card.dates t) h.card
      (third_of_four (not (live h.card)) q.is_loose (is_unsure q.algorithm h.card.given.algorithm) (is_unsure q.length h.card.given.length)
      (ap (λ o. is_unsure o h.card.given.algorithm) is ∙ ap (λ o. is_unsure (Some n) o) own))
  algorithm_by n h (Some x) is own lacks =
      no_if q (state h.card.dates t) h.card
      (fourth_of (no_names h) (no_type h) (no_state h) (no_algorithm h) (no_length h)
      (ap (λ o. clash (λ (x y : ℕ). x == y) o h.card.given.algorithm) is ∙ ap (λ o. clash (λ (x y : ℕ). x == y) (Some n) o) own ∙ ap not lacks))

  pub wants_algorithm : (n : ℕ) → q.algorithm ≡ Some n → IsWanted q t (Algorithm n)
  wants_algorithm n is h lacks = algorithm_by n h h.card.given.algorithm is refl lacks

  length_by : (n : ℤ) (h : Held) (o : Option ℤ) → q.length ≡ Some n → h.card.given.length ≡ o → has_length o n ≡ false → must_fit q (state h.card.dates t) h.card ≡ false
  length_by n h None is own lacks =
      doubt_if q (state h.card.dates t) h.card
      (last_of_four (not (live h.card)) q.is_loose (is_unsure q.algorithm h.card.given.algorithm) (is_unsure q.length h.card.given.length)
      (ap (λ o. is_unsure o h.card.given.length) is ∙ ap (λ o. is_unsure (Some n) o) own))
  length_by n h (Some x) is own lacks =
      no_if q (state h.card.dates t) h.card
      (fifth_of (no_names h) (no_type h) (no_state h) (no_algorithm h) (no_length h)
      (ap (λ o. clash int_eq o h.card.given.length) is ∙ ap (λ o. clash int_eq (Some n) o) own ∙ ap not lacks))

  pub wants_length : (n : ℤ) → q.length ≡ Some n → IsWanted q t (Length n)
  wants_length n is h lacks = length_by n h h.card.given.length is refl lacks

-- the states of destroyed objects
pub above : (a b : ℕ) → nat_lt a b ≡ true → a < b
above a b e = grind (arith, nat_tests)

dead_number : (n : ℕ) (s : State) → 4 < n → (n == state_number s) ≡ true → is_live_state s ≡ false
dead_number n PreActive past e = let is : n ≡ 1 = grind (arith, nat_tests) in absurd (omega (arith, is, past))
dead_number n Active past e = let is : n ≡ 2 = grind (arith, nat_tests) in absurd (omega (arith, is, past))
dead_number n Deactivated past e = let is : n ≡ 3 = grind (arith, nat_tests) in absurd (omega (arith, is, past))
dead_number n Compromised past e = let is : n ≡ 4 = grind (arith, nat_tests) in absurd (omega (arith, is, past))
dead_number n Destroyed past e = refl
dead_number n DestroyedCompromised past e = refl

gone_by : (d : Dates) (t : ℤ) (b : Bool) → is_none d.destroy ≡ b → is_live_state (state d t) ≡ false → is_none d.destroy ≡ false
gone_by d t true alive dead = let clash : true ≡ false = sym (live_state d t alive) ∙ dead in cc
gone_by d t false gone dead = gone

pub none_destroyed : (q : FilterOf) (t : ℤ) (n : ℕ) → 4 < n → q.state ≡ Some n → (h : Held) → must_fit q (state h.card.dates t) h.card ≡ false
none_destroyed q t n past is h = (elim (n == state_number (state h.card.dates t)) as (λ r. (n == state_number (state h.card.dates t)) ≡ r → must_fit q (state h.card.dates t) h.card ≡ false) [
  | true ↦ λ e. destroyed_not q (state h.card.dates t) h.card (gone_by h.card.dates t (is_none h.card.dates.destroy) refl (dead_number n (state h.card.dates t) past e))
  | false ↦ λ e. wants_state q t n is h e
]) refl
