-- Call numbers that are kept, each with the place of its segment.
use Rattle.std.proofs.Common.{◌≡◌, ◌≢◌, ◌<◌, ◌≤◌, ◌⊎◌, inl, inr, ℕ, ℤ, List, [], ◌∷◌, ◌++◌, length, get_or, Bool, true, false, Option, Some, None, refl, sym, ap, subst, ◌∙◌, arith}
use Rattle.std.specs.Prelude.{Contains}
use Rattle.std.specs.Ordering.{int_eq}
use Rattle.std.proofs.lemmas.Bool.{cases_lt}
use Rattle.std.proofs.lemmas.Bool.Decides.{Decides-int_eq}
use Rattle.std.proofs.lemmas.Grind.{common_steps}
use Rattle.std.proofs.lemmas.List.{get_or_past, get_or_push, length-append}
use Rattle.std.proofs.lemmas.List.Elements.{Contains-append_left, Contains-push, Contains-push_cases}
use Rattle.kmipa_record.specs.NumberMaps.{value_at, Gains, HasNone}
use Rattle.kmipa_record.specs.declared.number_map.NumberMap.{NumberMap}
use Rattle.kmipa_links.specs.Numbers.{IsClash, Know, first_of}
use Rattle.kmipa_links.specs.declared.numbers.Clash.{Clash}

-- ---- lists, and one behind them

pub nothing_in : {A : Type 0} (x : A) → ¬ (Contains [] x)
nothing_in x c = absurd (omega (arith, c.1))

-- a place is ahead of the one behind them, or its own, or behind it
data IsPlace (count place : ℕ) : Type 0 where
  ahead : place < count → IsPlace count place
  own : place ≡ count → IsPlace count place
  past : count < place → IsPlace count place

which : (count place : ℕ) → IsPlace count place
which count place = by (cases_lt place count) (cases_lt count place)
  where
    by : ((place < count) ⊎ (count ≤ place)) → ((count < place) ⊎ (place ≤ count)) → IsPlace count place
    by (inl less) more = ahead less
    by (inr most) (inl more) = past more
    by (inr most) (inr least) = own (omega (arith, most, least))

module _ (numbers : List (List ℤ)) where
  pub list_ahead : (last : List ℤ) (place : ℕ) → place < length numbers → get_or (numbers ++ (last ∷ [])) place [] ≡ get_or numbers place []
  list_ahead last place less = grind (arith, common_steps)

  pub list_own : (last : List ℤ) (place : ℕ) → place ≡ length numbers → get_or (numbers ++ (last ∷ [])) place [] ≡ last
  list_own last place is = get_or_push numbers last [] place (sym is)

  list_past : (last : List ℤ) (place : ℕ) → length numbers < place → get_or (numbers ++ (last ∷ [])) place [] ≡ []
  list_past last place more = get_or_past (numbers ++ (last ∷ [])) place [] (omega (arith, length-append numbers (last ∷ []), more))

  -- what stands in one of them stands there where the last is longer
  grown : (last : List ℤ) (call x : ℤ) (place : ℕ) → Contains (get_or (numbers ++ (last ∷ [])) place []) x → Contains (get_or (numbers ++ ((last ++ (call ∷ [])) ∷ [])) place []) x
  grown last call x place c = by (which (length numbers) place)
    where
      by : IsPlace (length numbers) place → Contains (get_or (numbers ++ ((last ++ (call ∷ [])) ∷ [])) place []) x
      by (ahead less) =
          subst (λ (l : List ℤ). Contains l x) (list_ahead last place less ∙ sym (list_ahead (last ++ (call ∷ [])) place less)) c
      by (own is) =
          let old = subst (λ (l : List ℤ). Contains l x) (list_own last place is) c in
          subst (λ (l : List ℤ). Contains l x) (sym (list_own (last ++ (call ∷ [])) place is)) (Contains-append_left last (call ∷ []) x old)
      by (past more) = absurd (nothing_in x (subst (λ (l : List ℤ). Contains l x) (list_past last place more) c))

  -- and what is another number stands there where the last is shorter
  shrunk : (last : List ℤ) (call x : ℤ) (place : ℕ) → call ≢ x → Contains (get_or (numbers ++ ((last ++ (call ∷ [])) ∷ [])) place []) x → Contains (get_or (numbers ++ (last ∷ [])) place []) x
  shrunk last call x place ne c = by (which (length numbers) place)
    where
      by : IsPlace (length numbers) place → Contains (get_or (numbers ++ (last ∷ [])) place []) x
      by (ahead less) =
          subst (λ (l : List ℤ). Contains l x) (list_ahead (last ++ (call ∷ [])) place less ∙ sym (list_ahead last place less)) c
      by (own is) =
          let longer = subst (λ (l : List ℤ). Contains l x) (list_own (last ++ (call ∷ [])) place is) c in
          subst (λ (l : List ℤ). Contains l x) (sym (list_own last place is)) (elim (Contains-push_cases last call x longer) [ inl h ↦ h | inr e ↦ absurd (ne e) ])
      by (past more) = absurd (nothing_in x (subst (λ (l : List ℤ). Contains l x) (list_past (last ++ (call ∷ [])) place more) c))

-- ---- what is known

pub know_none : (calls : NumberMap ℕ) → HasNone calls → Know [] calls
know_none calls none = record {
  there = λ call place is. let clash : None ≡ Some place = sym (none.each call) ∙ is in absurd cc;
  nowhere = λ call is place c. nothing_in call (subst (λ (l : List ℤ). Contains l call) (get_or_past [] place [] (omega arith)) c);
}

-- a segment begins, of which no call was taken
pub know_begin : (numbers : List (List ℤ)) (calls : NumberMap ℕ) → Know numbers calls → Know (numbers ++ ([] ∷ [])) calls
know_begin numbers calls k = record {
  there = λ call place is.
      let old = k.there call place is in (
        omega (arith, old.0, length-append numbers ([] ∷ [])),
        subst (λ (l : List ℤ). Contains l call) (sym (list_ahead numbers [] place old.0)) old.1,
      );
  nowhere = λ call is place c. k.nowhere call is place (back call place c (which (length numbers) place));
}
  where
    back : (call : ℤ) (place : ℕ) → Contains (get_or (numbers ++ ([] ∷ [])) place []) call → IsPlace (length numbers) place → Contains (get_or numbers place []) call
    back call place c (ahead less) = subst (λ (l : List ℤ). Contains l call) (list_ahead numbers [] place less) c
    back call place c (own is) = absurd (nothing_in call (subst (λ (l : List ℤ). Contains l call) (list_own numbers [] place is) c))
    back call place c (past more) = absurd (nothing_in call (subst (λ (l : List ℤ). Contains l call) (list_past numbers [] place more) c))

pub clash_none : (numbers : List (List ℤ)) → IsClash numbers [] None
clash_none numbers = λ call place c there. nothing_in call c

-- ---- a number is taken

module _ (numbers : List (List ℤ)) (last : List ℤ) (call : ℤ) where
  same_length : length (numbers ++ (last ∷ [])) ≡ length (numbers ++ ((last ++ (call ∷ [])) ∷ []))
  same_length = length-append numbers (last ∷ []) ∙ sym (length-append numbers ((last ++ (call ∷ [])) ∷ []))

  -- the number stands in one before it
  pub taken_again : (calls : NumberMap ℕ) (other : ℕ) → value_at calls call ≡ Some other → Know (numbers ++ (last ∷ [])) calls → Know (numbers ++ ((last ++ (call ∷ [])) ∷ [])) calls
  taken_again calls other has k = record {
    there = λ x place is.
        let old = k.there x place is in
        (omega (arith, old.0, same_length), grown numbers last call x place old.1);
    nowhere = λ x is place c.
        let ne : call ≢ x = λ same. (let clash : Some other ≡ None = sym has ∙ ap (value_at calls) same ∙ is in absurd cc) in
        k.nowhere x is place (shrunk numbers last call x place ne c);
  }

  -- it stands in none
  pub taken_first : (old new : NumberMap ℕ) (place : ℕ) → length numbers ≡ place → Gains old new call place → value_at old call ≡ None → Know (numbers ++ (last ∷ [])) old
      → Know (numbers ++ ((last ++ (call ∷ [])) ∷ [])) new
  taken_first old new place long gains none k = record {
    there = λ x at is. there x at is (int_eq call x) refl;
    nowhere = λ x is at c. k.nowhere x (sym (gains.sets.others x (λ e. differs x is (sym e))) ∙ is) at (shrunk numbers last call x at (differs x is) c);
  }
    where
      differs : (x : ℤ) → value_at new x ≡ None → call ≢ x
      differs x is same = let clash : Some place ≡ None = sym gains.sets.here ∙ ap (value_at new) same ∙ is in absurd cc

      own_place : (at : ℕ) → at ≡ place → (at < length (numbers ++ ((last ++ (call ∷ [])) ∷ []))) × Contains (get_or (numbers ++ ((last ++ (call ∷ [])) ∷ [])) at []) call
      own_place at is = (
        omega (arith, is, long, length-append numbers ((last ++ (call ∷ [])) ∷ [])),
        subst (λ (l : List ℤ). Contains l call) (sym (list_own numbers (last ++ (call ∷ [])) at (is ∙ sym long))) (Contains-push last call),
      )

      there : (x : ℤ) (at : ℕ) → value_at new x ≡ Some at → (b : Bool) → int_eq call x ≡ b
          → (at < length (numbers ++ ((last ++ (call ∷ [])) ∷ []))) × Contains (get_or (numbers ++ ((last ++ (call ∷ [])) ∷ [])) at []) x
      there x at is true e =
          let same : call ≡ x = (Decides-int_eq call x).0 e in
          let both : Some place ≡ Some at = sym gains.sets.here ∙ ap (value_at new) same ∙ is in
          let placed : at ≡ place = cc in
          let o = own_place at placed in
          (o.0, subst (λ (y : ℤ). Contains (get_or (numbers ++ ((last ++ (call ∷ [])) ∷ [])) at []) y) same o.1)
      there x at is false e =
          let ne : call ≢ x = λ same. absurd (let yes = (Decides-int_eq call x).1 same in cc) in
          let old_is = sym (gains.sets.others x (λ s. ne (sym s))) ∙ is in
          let was = k.there x at old_is in
          (omega (arith, was.0, same_length), grown numbers last call x at was.1)

  -- the first clash stays
  pub clash_kept : (clash : Clash) → IsClash numbers last (Some clash) → IsClash numbers (last ++ (call ∷ [])) (Some clash)
  clash_kept clash c = (c.0, c.1, Contains-append_left last (call ∷ []) clash.call c.2)

  -- none comes where the number stands in none before it
  pub clash_still_none : (calls : NumberMap ℕ) → value_at calls call ≡ None → Know (numbers ++ (last ∷ [])) calls → IsClash numbers last None → IsClash numbers (last ++ (call ∷ [])) None
  clash_still_none calls none k free = λ x place c there. by x place there (Contains-push_cases last call x c)
    where
      by : (x : ℤ) (place : ℕ) → Contains (get_or numbers place []) x → Contains last x ⊎ (call ≡ x) → ⊥
      by x place there (inl old) = free x place old there
      by x place there (inr same) =
          elim (cases_lt place (length numbers)) [
            | inl less ↦
                let here = subst (λ (l : List ℤ). Contains l x) (sym (list_ahead numbers last place less)) there in
                k.nowhere call none place (subst (λ (y : ℤ). Contains (get_or (numbers ++ (last ∷ [])) place []) y) (sym same) here)
            | inr most ↦ nothing_in x (subst (λ (l : List ℤ). Contains l x) (get_or_past numbers place [] most) there)
          ]

  -- and one comes where it does
  pub clash_first : (calls : NumberMap ℕ) (other : ℕ) → value_at calls call ≡ Some other → Know (numbers ++ (last ∷ [])) calls → ¬ (Contains last call)
      → IsClash numbers (last ++ (call ∷ [])) (Some (record { call = call; place = other }))
  clash_first calls other has k new = by (which (length numbers) other)
    where
      was : (other < length (numbers ++ (last ∷ []))) × Contains (get_or (numbers ++ (last ∷ [])) other []) call
      was = k.there call other has

      by : IsPlace (length numbers) other → IsClash numbers (last ++ (call ∷ [])) (Some (record { call = call; place = other }))
      by (ahead less) = (less, subst (λ (l : List ℤ). Contains l call) (list_ahead numbers last other less) was.1, Contains-push last call)
      by (own is) = absurd (new (subst (λ (l : List ℤ). Contains l call) (list_own numbers last other is) was.1))
      by (past more) = absurd (omega (arith, was.0, more, length-append numbers (last ∷ [])))

  -- of a number that stands in one before it
  pub clash_again : (calls : NumberMap ℕ) (other : ℕ) → value_at calls call ≡ Some other → Know (numbers ++ (last ∷ [])) calls → ¬ (Contains last call)
      → (clash : Option Clash) → IsClash numbers last clash → IsClash numbers (last ++ (call ∷ [])) (first_of clash (record { call = call; place = other }))
  clash_again calls other has k new None free = clash_first calls other has k new
  clash_again calls other has k new (Some first) c = clash_kept first c

  -- and of one that stands in none
  pub clash_stays : (calls : NumberMap ℕ) → value_at calls call ≡ None → Know (numbers ++ (last ∷ [])) calls → (clash : Option Clash) → IsClash numbers last clash
      → IsClash numbers (last ++ (call ∷ [])) clash
  clash_stays calls none k None free = clash_still_none calls none k free
  clash_stays calls none k (Some first) c = clash_kept first c
