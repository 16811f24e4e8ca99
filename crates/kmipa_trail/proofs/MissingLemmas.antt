-- The calls that no turn names.
use Rattle.std.proofs.Common.{◌≡◌, ◌<◌, ℕ, zero, suc, ℤ, pos, ◌≤ℤ◌, All, List, [], ◌∷◌, map, length, Option, Some, None, slice_get, refl, sym, ap, ◌∙◌, subst, arith}
use Rattle.std.proofs.lemmas.List.{length-map}
use Rattle.std.proofs.lemmas.Option.{get_or_from_slice_get, slice_get_within}
use Rattle.kmipa_record.specs.declared.turn.Turn.{Turn}
use Rattle.kmipa_record.specs.Witnesses.{TurnOf, turn_of}
use Rattle.kmipa_check.specs.declared.numbers.FirstPlaces.{FirstPlaces}
use Rattle.kmipa_check.specs.declared.fault.WitnessKind.TheVariants.{LeftOut}
use Rattle.kmipa_check.specs.Grants.{GrantsOf}
use Rattle.kmipa_check.specs.Numbers.{place_in, StandsFirst, Indexes}
use Rattle.kmipa_check.specs.Ordering.{missing_or}
use Rattle.kmipa_check.specs.Orders.{IsNamed}
use Rattle.kmipa_turns.specs.declared.recorded.Recorded.{Recorded}
use Rattle.kmipa_turns.specs.Recorded.{RecordedOf, recorded_of}
use Rattle.kmipa_turns.specs.Steps.{StepOf}
use Rattle.kmipa_trail.specs.Ordering.{AreFormed, first_missing}
use Rattle.kmipa_trail.specs.Orders.{AreFormedBelow, IsOrder, WitnessFaultAt, left_out}
use Rattle.kmipa_check.proofs.PlaceLemmas.{mapped_from, at_contains, get_at}
use Rattle.kmipa_trail.proofs.OrderLemmas.{formed_below}

abbrev pub number_of : RecordedOf → ℤ
number_of = λ c. c.number

-- the first call that has ended and is without a place
record FirstMissing (named : FirstPlaces) (calls : List RecordedOf) (number : ℤ) : Type 0 where
  place : ℕ
  call : RecordedOf
  there : slice_get calls place ≡ Some call
  is : call.number ≡ number
  end : ℕ
  ended : call.end ≡ Some end
  none : place_in named call.number ≡ None
  earlier : (other : ℕ) (d : RecordedOf) (e : ℕ) → other < place → slice_get calls other ≡ Some d → d.end ≡ Some e → place_in named d.number ≡ None → ⊥

earlier_missing : (named : FirstPlaces) (c : RecordedOf) (calls : List RecordedOf) (number : ℤ) → ((e : ℕ) → c.end ≡ Some e → place_in named c.number ≡ None → ⊥) → (r : FirstMissing named calls number)
    → (other : ℕ) (d : RecordedOf) (e : ℕ) → other < suc r.place → slice_get (c ∷ calls) other ≡ Some d → d.end ≡ Some e → place_in named d.number ≡ None → ⊥
earlier_missing named c calls number never r zero d e below at ended none =
    let same : c ≡ d = cc in
    let P : RecordedOf → Type 0 = λ x. x.end ≡ Some e in
    let Q : RecordedOf → Type 0 = λ x. place_in named x.number ≡ None in
    never e (subst P (sym same) ended) (subst Q (sym same) none)
earlier_missing named c calls number never r (suc other) d e below at ended none = r.earlier other d e (omega (arith, below)) at ended none

missing_case : (named : FirstPlaces) (c : RecordedOf) (calls : List RecordedOf) (number : ℤ) (e v : Option ℕ) → c.end ≡ e → place_in named c.number ≡ v → missing_or e v c.number (first_missing named calls) ≡ Some number
    → (first_missing named calls ≡ Some number → FirstMissing named calls number) → FirstMissing named (c ∷ calls) number
missing_case named c calls number None v ends is h rest =
    let r = rest h in
    record { place = suc r.place; call = r.call; there = r.there; is = r.is; end = r.end; ended = r.ended; none = r.none; earlier = earlier_missing named c calls number (λ e ended none. absurd cc) r }
missing_case named c calls number (Some e) None ends is h rest =
    record { place = 0; call = c; there = refl; is = cc; end = e; ended = ends; none = is; earlier = λ other d e below at ended none. omega (arith, below) }
missing_case named c calls number (Some e) (Some q) ends is h rest =
    let r = rest h in
    record { place = suc r.place; call = r.call; there = r.there; is = r.is; end = r.end; ended = r.ended; none = r.none; earlier = earlier_missing named c calls number (λ e ended none. absurd cc) r }

missing_is : (named : FirstPlaces) (calls : List RecordedOf) (number : ℤ) → first_missing named calls ≡ Some number → FirstMissing named calls number
missing_is named [] number e = absurd cc
missing_is named (c ∷ calls) number e = missing_case named c calls number c.end (place_in named c.number) refl refl e (λ h. missing_is named calls number h)

-- its number is that of a call
pub missing_counted : (named : FirstPlaces) (calls : List Recorded) (number : ℤ) → first_missing named (map recorded_of calls) ≡ Some number → All (λ call. pos 1 ≤ℤ call.number) calls → pos 1 ≤ℤ number
missing_counted named calls number missing numbered =
    let r = missing_is named (map recorded_of calls) number missing in
    let m = mapped_from recorded_of calls r.place r.call r.there in
    let P : ℤ → Type 0 = λ z. pos 1 ≤ℤ z in
    let Q : Recorded → Type 0 = λ c. pos 1 ≤ℤ c.number in
    subst P (ap number_of m.2 ∙ r.is) (subst Q (get_or_from_slice_get calls r.place m.0 m.0 m.1) (numbered r.place m.0 (slice_get_within calls r.place m.0 m.1)))

-- no call that has ended is without one
placed_case : (named : FirstPlaces) (x : RecordedOf) (calls : List RecordedOf) (e v : Option ℕ) → x.end ≡ e → place_in named x.number ≡ v → missing_or e v x.number (first_missing named calls) ≡ None
    → ((place : ℕ) (c : RecordedOf) (end : ℕ) → first_missing named calls ≡ None → slice_get calls place ≡ Some c → c.end ≡ Some end → (q : ℕ) × (place_in named c.number ≡ Some q))
    → (place : ℕ) (c : RecordedOf) (end : ℕ) → slice_get (x ∷ calls) place ≡ Some c → c.end ≡ Some end → (q : ℕ) × (place_in named c.number ≡ Some q)
placed_case named x calls None v ends is h rest zero c end at ended =
    let same : x ≡ c = cc in
    let P : RecordedOf → Type 0 = λ d. d.end ≡ Some end in
    let its = subst P (sym same) ended in
    absurd cc
placed_case named x calls None v ends is h rest (suc place) c end at ended = rest place c end h at ended
placed_case named x calls (Some e) None ends is h rest place c end at ended = absurd cc
placed_case named x calls (Some e) (Some q) ends is h rest zero c end at ended =
    let same : x ≡ c = cc in
    let P : RecordedOf → Type 0 = λ d. (q : ℕ) × (place_in named d.number ≡ Some q) in
    subst P same (q, is)
placed_case named x calls (Some e) (Some q) ends is h rest (suc place) c end at ended = rest place c end h at ended

missing_none : (named : FirstPlaces) (calls : List RecordedOf) → first_missing named calls ≡ None → (place : ℕ) (c : RecordedOf) (end : ℕ) → slice_get calls place ≡ Some c → c.end ≡ Some end
    → (q : ℕ) × (place_in named c.number ≡ Some q)
missing_none named [] h place c end at ended = absurd cc
missing_none named (x ∷ calls) h place c end at ended =
    placed_case named x calls x.end (place_in named x.number) refl refl h (λ p d e f g k. missing_none named calls f p d e g k) place c end at ended

-- what the places say of turns
module _ (g : GrantsOf) (turns : List Turn) (named : FirstPlaces) (names : Indexes (map (λ (t : Turn). Some t.call) turns) named) where
  unnamed : (number : ℤ) → place_in named number ≡ None → IsNamed (map turn_of turns) number → ⊥
  unnamed number none (place, at) =
      let m = mapped_from turn_of turns place at.0 at.1 in
      let e : m.0.call ≡ number = ap (λ (t : TurnOf). t.call) m.2 ∙ at.2 in
      let here : slice_get (map (λ (t : Turn). Some t.call) turns) place ≡ Some (Some number) = get_at (λ (t : Turn). Some t.call) turns place m.0 m.1 ∙ ap (λ (z : ℤ). Some (Some z)) e in
      let P : Option ℕ → Type 0 = λ v. StandsFirst (map (λ (t : Turn). Some t.call) turns) (length (map (λ (t : Turn). Some t.call) turns)) number v in
      subst P none (names number) place (slice_get_within (map (λ (t : Turn). Some t.call) turns) place (Some number) here) here

  is_named : (number : ℤ) (q : ℕ) → place_in named number ≡ Some q → IsNamed (map turn_of turns) number
  is_named number q noted =
      let P : Option ℕ → Type 0 = λ v. StandsFirst (map (λ (t : Turn). Some t.call) turns) (length (map (λ (t : Turn). Some t.call) turns)) number v in
      let found = subst P noted (names number) in
      let m = mapped_from (λ (t : Turn). Some t.call) turns q (Some number) found.1.there in
      let e : m.0.call ≡ number = cc in
      (q, (turn_of m.0, get_at turn_of turns q m.0 m.1, e))

  not_left_out : (number : ℤ) (v : Option ℕ) → place_in named number ≡ v → (v ≡ None → ⊥) → (IsNamed (map turn_of turns) number → ⊥) → ⊥
  not_left_out number None is some out = some refl
  not_left_out number (Some q) is some out = out (is_named number q is)

  pub left_out_reported : (calls : List RecordedOf) (steps : List StepOf) (number : ℤ) (at : ℕ) → AreFormed g calls (map turn_of turns) (length turns) steps → first_missing named calls ≡ Some number
      → number ≡ pos at → WitnessFaultAt g calls (map turn_of turns) at LeftOut
  left_out_reported calls steps number at f missing is =
      let r = missing_is named calls number missing in
      let P : ℕ → Type 0 = λ n. AreFormedBelow g calls (map turn_of turns) n in
      left_out r.place r.call (subst P (sym (length-map turns turn_of)) (formed_below g calls (map turn_of turns) (length turns) steps f)) r.there
      (record { end = r.end; ended = r.ended; unnamed = unnamed r.call.number r.none })
      (λ other d below there out. not_left_out d.number (place_in named d.number) refl (r.earlier other d out.end below there out.ended) out.unnamed) (r.is ∙ is) refl

  -- where none is left out, the steps are those of the whole witness
  pub order_reported : (calls : List RecordedOf) (steps : List StepOf) → AreFormed g calls (map turn_of turns) (length turns) steps → first_missing named calls ≡ None → IsOrder g calls (map turn_of turns) steps
  order_reported calls steps f missing = record {
    counted = f.counted ∙ sym (length-map turns turn_of);
    formed = f.each;
    all = λ c end one ended. by c end ended (at_contains calls c one);
  }
    where
      by : (c : RecordedOf) (end : ℕ) → c.end ≡ Some end → (i : ℕ) × (slice_get calls i ≡ Some c) → IsNamed (map turn_of turns) c.number
      by c end ended p = let q = missing_none named calls missing p.0 c end p.1 ended in is_named c.number q.0 q.1
