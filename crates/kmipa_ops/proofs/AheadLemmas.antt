-- The next place of an object that may have all that lasts of what is asked for.
use Rattle.std.proofs.Common.{◌≡◌, ◌<◌, ◌≤◌, ◌+◌, ◌||◌, ◌⊎◌, ℕ, ℤ, Bool, true, false, not, drop, List, length, slice_get, Option, Some, None, option_map, refl, ap, sym, ◌∙◌, inl, inr, arith}
use Rattle.std.specs.List.{list_any, position_from}
use Rattle.kmipa_attrs.specs.Filters.{FilterOf}
use Rattle.kmipa_attrs.specs.Sets.{NameOf}
use Rattle.kmipa_object.specs.Life.{state}
use Rattle.kmipa_object.proofs.ListLemmas.{get_below}
use Rattle.kmipa_store.specs.Ledger.{Held}
use Rattle.kmipa_store.specs.Queries.{Lasting, Leaps, has_feature, has_name, lacks, lacks_feature, lacks_name, lasting}
use Rattle.kmipa_store.specs.declared.feature.Feature.TheVariants.{Kind, Algorithm, Length}
use Rattle.kmipa_ops.specs.GetAttributes.{has_stranger}
use Rattle.kmipa_ops.specs.Listing.{NextCandidate, NextHaving}
use Rattle.kmipa_ops.specs.Locate.{must_fit}
use Rattle.kmipa_ops.specs.Objects.{same_name}
use Rattle.kmipa_ops.proofs.CandidateLemmas.{wants_algorithm, wants_length, wants_type}
use Rattle.kmipa_ops.proofs.ListingLemmas.{any_at, dropped, lt_or_le, no_stranger, position_none, position_some}
use Rattle.kmipa_ops.proofs.NameLemmas.{same_both}
use Rattle.kmipa_ops.proofs.ScanLemmas.{any_same}

-- from one place on to a later one
pub having_on : (hs : List Held) (asked : Lasting) (from a : ℕ) (o : Option ℕ) → NextHaving hs asked from (Some a) → NextHaving hs asked a o → NextHaving hs asked from o
having_on hs asked from a None x y = λ to p h low high at. elim (lt_or_le p a) [ inl below ↦ x.1 p h low below at | inr above ↦ y to p h above high at ]
having_on hs asked from a (Some b) x y =
    let first : from ≤ a = x.0 in
    let second : a ≤ b = y.0 in
    (omega (arith, first, second), λ p h low high at. elim (lt_or_le p a) [ inl below ↦ x.1 p h low below at | inr above ↦ y.1 p h above high at ])

pub any_having : (hs : List Held) (asked : Lasting) (from : ℕ) → NextHaving hs asked from (Some from)
any_having hs asked from = (omega arith, λ p h low high at. absurd (omega (arith, low, high)))

-- to the next that passes a test, which each passes that lacks nothing
pub having_by : (hs : List Held) (asked : Lasting) (test : Held → Bool) (from : ℕ) (o : Option ℕ) → ((h : Held) → test h ≡ false → lacks asked h ≡ true) → o ≡ position_from test from (drop from hs) → NextHaving hs asked from o
having_by hs asked test from None wanted e = λ to p h low high at. let d = dropped hs from p h low at in wanted h (position_none test (drop from hs) from (sym e) d.0 h d.2)
having_by hs asked test from (Some to) wanted e =
    let r = position_some test (drop from hs) from to (sym e) in (
      r.0,
      λ p h low high at.
          let d = dropped hs from p h low at in
          let below : from + d.0 < to = let same : from + d.0 ≡ p = d.1 in omega (arith, same, high) in
          wanted h (r.1 d.0 h below d.2),
    )

-- where none is left
pub having_none : (hs : List Held) (asked : Lasting) (from to : ℕ) → NextHaving hs asked from None → from ≤ to → Leaps asked hs from to
having_none hs asked from to none le = (le, none to)

pub ahead_end : (hs : List Held) (asked : Lasting) (from place : ℕ) → Leaps asked hs from place → length hs ≤ place → NextHaving hs asked from None
ahead_end hs asked from place leaps past to p h low high at = let below = get_below hs p h at in leaps.1 p h low (omega (arith, below, past)) at

-- WHAT IS LACKING

first_of_four : (a b c d : Bool) → a ≡ true → (a || b || c || d) ≡ true
first_of_four true b c d e = refl
first_of_four false b c d e = cc

second_of_four : (a b c d : Bool) → b ≡ true → (a || b || c || d) ≡ true
second_of_four true b c d e = refl
second_of_four false true c d e = refl
second_of_four false false c d e = cc

third_of_four : (a b c d : Bool) → c ≡ true → (a || b || c || d) ≡ true
third_of_four true b c d e = refl
third_of_four false true c d e = refl
third_of_four false false true d e = refl
third_of_four false false false d e = cc

fourth_of_four : (a b c d : Bool) → d ≡ true → (a || b || c || d) ≡ true
fourth_of_four true b c d e = refl
fourth_of_four false true c d e = refl
fourth_of_four false false true d e = refl
fourth_of_four false false false d e = e

module _ (q : FilterOf) (h : Held) where
  abbrev names_lack : Bool
  names_lack = lacks_name q.names h

  abbrev type_lacks : Bool
  type_lacks = lacks_feature (option_map Kind q.object_type) h

  abbrev algorithm_lacks : Bool
  algorithm_lacks = lacks_feature (option_map Algorithm q.algorithm) h

  abbrev length_lacks : Bool
  length_lacks = lacks_feature (option_map Length q.length) h

  pub lacks_named : (n : NameOf) (i : ℕ) → slice_get q.names i ≡ Some n → has_name n.value n.kind h ≡ false → lacks (lasting q) h ≡ true
  lacks_named n i asked none =
      first_of_four names_lack type_lacks algorithm_lacks length_lacks (any_at (λ (m : NameOf). not (has_name m.value m.kind h)) q.names i n asked (ap not none))

  pub lacks_type : (n : ℕ) (t : ℤ) → q.object_type ≡ Some n → has_feature (Kind n) t h ≡ false → lacks (lasting q) h ≡ true
  lacks_type n t is none = second_of_four names_lack type_lacks algorithm_lacks length_lacks (ap (λ (o : Option ℕ). lacks_feature (option_map Kind o) h) is ∙ ap not none)

  pub lacks_algorithm : (n : ℕ) (t : ℤ) → q.algorithm ≡ Some n → has_feature (Algorithm n) t h ≡ false → lacks (lasting q) h ≡ true
  lacks_algorithm n t is none = third_of_four names_lack type_lacks algorithm_lacks length_lacks (ap (λ (o : Option ℕ). lacks_feature (option_map Algorithm o) h) is ∙ ap not none)

  pub lacks_length : (n : ℤ) (t : ℤ) → q.length ≡ Some n → has_feature (Length n) t h ≡ false → lacks (lasting q) h ≡ true
  lacks_length n t is none = fourth_of_four names_lack type_lacks algorithm_lacks length_lacks (ap (λ (o : Option ℤ). lacks_feature (option_map Length o) h) is ∙ ap not none)

-- WHAT LACKS SOMETHING NEED NOT BE LISTED

flipped : (b : Bool) → not b ≡ true → b ≡ false
flipped true e = cc
flipped false e = refl

one_of_four : (a b c d : Bool) → (a || b || c || d) ≡ true → (a ≡ true) ⊎ ((b ≡ true) ⊎ ((c ≡ true) ⊎ (d ≡ true)))
one_of_four true b c d e = inl refl
one_of_four false true c d e = inr (inl refl)
one_of_four false false true d e = inr (inr (inl refl))
one_of_four false false false d e = inr (inr (inr e))

module _ (q : FilterOf) (t : ℤ) (h : Held) where
  stranger_is : has_stranger h.card.given.names q.names ≡ lacks_name q.names h
  stranger_is =
      let own : List NameOf = h.card.given.names in
      any_same (λ (n : NameOf). not (list_any (λ (k : NameOf). same_name k n) own)) (λ (n : NameOf). not (has_name n.value n.kind h)) (λ n.
      ap not (any_same (λ (k : NameOf). same_name k n) (λ (k : NameOf). same_name n k) (λ k. same_both k n) own)) q.names

  type_not : (o : Option ℕ) → q.object_type ≡ o → lacks_feature (option_map Kind o) h ≡ true → must_fit q (state h.card.dates t) h.card ≡ false
  type_not None is e = cc
  type_not (Some n) is e = wants_type q t n is h (flipped (has_feature (Kind n) t h) e)

  algorithm_not : (o : Option ℕ) → q.algorithm ≡ o → lacks_feature (option_map Algorithm o) h ≡ true → must_fit q (state h.card.dates t) h.card ≡ false
  algorithm_not None is e = cc
  algorithm_not (Some n) is e = wants_algorithm q t n is h (flipped (has_feature (Algorithm n) t h) e)

  length_not : (o : Option ℤ) → q.length ≡ o → lacks_feature (option_map Length o) h ≡ true → must_fit q (state h.card.dates t) h.card ≡ false
  length_not None is e = cc
  length_not (Some n) is e = wants_length q t n is h (flipped (has_feature (Length n) t h) e)

  lack_by : (lacks_name q.names h ≡ true) ⊎ ((type_lacks q h ≡ true) ⊎ ((algorithm_lacks q h ≡ true) ⊎ (length_lacks q h ≡ true))) → must_fit q (state h.card.dates t) h.card ≡ false
  lack_by (inl a) = no_stranger q (state h.card.dates t) h.card (stranger_is ∙ a)
  lack_by (inr (inl b)) = type_not q.object_type refl b
  lack_by (inr (inr (inl c))) = algorithm_not q.algorithm refl c
  lack_by (inr (inr (inr d))) = length_not q.length refl d

  lack_not : lacks (lasting q) h ≡ true → must_fit q (state h.card.dates t) h.card ≡ false
  lack_not e = lack_by (one_of_four (lacks_name q.names h) (type_lacks q h) (algorithm_lacks q h) (length_lacks q h) e)

pub having_candidate : (hs : List Held) (t : ℤ) (q : FilterOf) (from : ℕ) (o : Option ℕ) → NextHaving hs (lasting q) from o → NextCandidate hs t q from o
having_candidate hs t q from None none = λ to p h low high at. lack_not q t h (none to p h low high at)
having_candidate hs t q from (Some to) leaps = (leaps.0, λ p h low high at. lack_not q t h (leaps.1 p h low high at))
