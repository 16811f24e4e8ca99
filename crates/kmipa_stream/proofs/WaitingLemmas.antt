-- End marks that come, and pass.
use Rattle.std.proofs.Common.{◌≡◌, ◌<◌, ◌≤◌, ◌⊎◌, inl, inr, ℕ, ◌+◌, ℤ, Bool, true, false, List, [], ◌∷◌, ◌++◌, length, map, Option, Some, None, slice_get, refl, sym, ap, ◌∙◌, subst, arith}
use Rattle.std.specs.Prelude.{is_some}
use Rattle.std.proofs.lemmas.List.{length-append}
use Rattle.std.proofs.lemmas.Bool.Decides.{nat_tests}
use Rattle.std.proofs.lemmas.Option.{slice_get_within}
use Rattle.kmipa_record.specs.Marks.{MarkOf, ends}
use Rattle.kmipa_record.specs.Witnesses.{TurnOf, turn_of}
use Rattle.kmipa_record.specs.declared.turn.Turn.{Turn}
use Rattle.kmipa_check.specs.Calls.{HasEnd}
use Rattle.kmipa_check.specs.Numbers.{place_in, StandsFirst}
use Rattle.kmipa_check.specs.Late.{is_below}
use Rattle.kmipa_check.specs.Orders.{IsNamed}
use Rattle.kmipa_check.specs.Deciding.{Decided}
use Rattle.kmipa_check.specs.declared.numbers.FirstPlaces.{FirstPlaces}
use Rattle.kmipa_check.proofs.PlaceLemmas.{mapped_from, get_at, pushed_at, apart, below_suc}
use Rattle.kmipa_stream.specs.Waiting.{AreNamedAt, IsPassed, AreEnds, Wait, IsFirstWaiting}
use Rattle.kmipa_stream.specs.declared.ends.EndSeen.{EndSeen}
use Rattle.kmipa_stream.specs.declared.ends.Ends.{Ends}
use Rattle.kmipa_stream.proofs.ListLemmas.{grown_at, last_at}
use Rattle.kmipa_stream.proofs.SeeingLemmas.{end_back}

-- ---- what the turns name

module _ (turns : List Turn) (named : FirstPlaces) (names : AreNamedAt turns named) where
  first_of : (number : ℤ) (v : Option ℕ) → place_in named number ≡ v → StandsFirst (map (λ (turn : Turn). Some turn.call) turns) (length (map (λ (turn : Turn). Some turn.call) turns)) number v
  first_of number v is =
      let P : Option ℕ → Type 0 = λ w. StandsFirst (map (λ (turn : Turn). Some turn.call) turns) (length (map (λ (turn : Turn). Some turn.call) turns)) number w in
      subst P is (names number)

  -- the turn at the noted place names the number
  names_there : (number : ℤ) (place : ℕ) → place_in named number ≡ Some place → (turn : TurnOf) × (slice_get (map turn_of turns) place ≡ Some turn) × (turn.call ≡ number)
  names_there number place is =
      let found = first_of number (Some place) is in
      let m = mapped_from (λ (turn : Turn). Some turn.call) turns place (Some number) found.1.there in
      let e : m.0.call ≡ number = cc in
      (turn_of m.0, get_at turn_of turns place m.0 m.1, e)

  -- a turn that names it stands at the noted place or behind
  noted_first : (number : ℤ) (earlier : ℕ) (turn : TurnOf) → slice_get (map turn_of turns) earlier ≡ Some turn → turn.call ≡ number → (v : Option ℕ) → place_in named number ≡ v
      → (place : ℕ) × (v ≡ Some place) × (place ≤ earlier)
  noted_first number earlier turn at same v is = by v is
    where
      here : slice_get (map (λ (turn : Turn). Some turn.call) turns) earlier ≡ Some (Some number)
      here =
          let m = mapped_from turn_of turns earlier turn at in
          let e : m.0.call ≡ number = ap (λ (t : TurnOf). t.call) m.2 ∙ same in
          get_at (λ (turn : Turn). Some turn.call) turns earlier m.0 m.1 ∙ ap (λ (z : ℤ). Some (Some z)) e

      by : (v : Option ℕ) → place_in named number ≡ v → (place : ℕ) × (v ≡ Some place) × (place ≤ earlier)
      by None is = absurd (first_of number None is earlier (slice_get_within (map (λ (turn : Turn). Some turn.call) turns) earlier (Some number) here) here)
      by (Some place) is = elim (apart earlier place) [
        | inl h ↦ absurd ((first_of number (Some place) is).1.first earlier h here)
        | inr g ↦ elim g [ inl h ↦ (place, refl, omega (arith, h)) | inr e ↦ (place, refl, omega (arith, e)) ]
      ]

  pub passed_decided : (number : ℤ) (count : ℕ) (v : Option ℕ) → v ≡ place_in named number → Decided (is_below v count) (IsPassed turns count number)
  passed_decided number count None is = λ passed.
      let p = noted_first number passed.0 passed.2.0 passed.2.1 passed.2.2 None (sym is) in
      absurd (let e = p.1 in cc)
  passed_decided number count (Some place) is = by (is_below (Some place) count) refl
    where
      by : (b : Bool) → is_below (Some place) count ≡ b → Decided b (IsPassed turns count number)
      by true e = (place, grind (arith, nat_tests), names_there number place (sym is))
      by false e = λ passed.
          let p = noted_first number passed.0 passed.2.0 passed.2.1 passed.2.2 (Some place) (sym is) in
          let same : place ≡ p.0 = (let q = p.1 in cc) in
          let within : place < count = omega (arith, same, p.2, passed.1) in
          grind (arith, nat_tests)

  pub named_decided : (number : ℤ) (v : Option ℕ) → v ≡ place_in named number → Decided (is_some v) (IsNamed (map turn_of turns) number)
  named_decided number None is = λ named_at.
      let p = noted_first number named_at.0 named_at.1.0 named_at.1.1 named_at.1.2 None (sym is) in
      absurd (let e = p.1 in cc)
  named_decided number (Some place) is = (place, names_there number place (sym is))

-- ---- how they pass

pub passed_more : (turns : List Turn) (before count : ℕ) (number : ℤ) → before ≤ count → IsPassed turns before number → IsPassed turns count number
passed_more turns before count number h (earlier, below, at) = (earlier, omega (arith, h, below), at)

pub wait_more : (marks : List MarkOf) (turns : List Turn) (before count : ℕ) (e : Ends) → before ≤ count → Wait marks turns before e → Wait marks turns count e
wait_more marks turns before count e h w = record { are = w.are; within = w.within; passed = λ place x below at. passed_more turns before count x.number h (w.passed place x below at) }

-- the next has passed too
pub wait_pass : (marks : List MarkOf) (turns : List Turn) (count : ℕ) (old new : Ends) (x : EndSeen) → slice_get old.seen.items old.passed ≡ Some x → IsPassed turns count x.number
    → new.seen.items ≡ old.seen.items → new.passed ≡ old.passed + 1 → Wait marks turns count old → Wait marks turns count new
wait_pass marks turns count old new x at passed same more w =
    let P : List EndSeen → Type 0 = λ l. AreEnds marks l in
    let long : length new.seen.items ≡ length old.seen.items = ap length same in
    record {
      are = subst P (sym same) w.are;
      within = omega (arith, slice_get_within old.seen.items old.passed x at, more, long);
      passed = λ place y below there. let Q : List EndSeen → Type 0 = λ l. slice_get l place ≡ Some y in by place y (below_suc place old.passed (omega (arith, below, more))) (subst Q same there);
    }
  where
    by : (place : ℕ) (y : EndSeen) → (place < old.passed) ⊎ (place ≡ old.passed) → slice_get old.seen.items place ≡ Some y → IsPassed turns count y.number
    by place y (inl h) there = w.passed place y h there
    by place y (inr e) there =
        let Q : ℕ → Type 0 = λ p. slice_get old.seen.items p ≡ Some y in
        let there' = subst Q e there in
        let same : x ≡ y = (let a = at in cc) in
        let R : EndSeen → Type 0 = λ z. IsPassed turns count z.number in
        subst R same passed

-- one more comes
module _ (marks : List MarkOf) (turns : List Turn) (count : ℕ) (number : ℤ) (answered : List ℕ) (old new : Ends) (x : EndSeen) (w : Wait marks turns count old)
    (items : new.seen.items ≡ old.seen.items ++ x ∷ []) (same : new.passed ≡ old.passed) (number_is : x.number ≡ number) (place_is : x.place ≡ length marks) where
  cases : (place : ℕ) (e : EndSeen) → slice_get new.seen.items place ≡ Some e → (slice_get old.seen.items place ≡ Some e) ⊎ ((place ≡ length old.seen.items) × (x ≡ e))
  cases place e at = let P : List EndSeen → Type 0 = λ l. slice_get l place ≡ Some e in pushed_at old.seen.items x place e (subst P items at)

  there : (place : ℕ) (e : EndSeen) → slice_get (old.seen.items ++ x ∷ []) place ≡ Some e → slice_get new.seen.items place ≡ Some e
  there place e at = let P : List EndSeen → Type 0 = λ l. slice_get l place ≡ Some e in subst P (sym items) at

  below_marks : (place : ℕ) (e : EndSeen) → slice_get old.seen.items place ≡ Some e → e.place < length marks
  below_marks place e at = let h = w.are.each place e at in slice_get_within marks e.place (ends e.number h.0) h.1

  pub wait_push : Wait (marks ++ ends number answered ∷ []) turns count new
  wait_push = record {
    are = record {
      each = λ place e at. each place e (cases place e at);
      all = λ n end a h. all n end a (end_back marks (ends number answered) n end a h);
      ascend = λ i j a b h p q. ascend i j a b h (cases i a p) (cases j b q);
    };
    within = omega (arith, w.within, same, ap length items, length-append old.seen.items (x ∷ []));
    passed = λ place e below at. passed place e (omega (arith, below, same)) (cases place e at);
  }
    where
      each : (place : ℕ) (e : EndSeen) → (slice_get old.seen.items place ≡ Some e) ⊎ ((place ≡ length old.seen.items) × (x ≡ e)) → (a : List ℕ) × HasEnd (marks ++ ends number answered ∷ []) e.number e.place a
      each place e (inl at) = let h = w.are.each place e at in (h.0, grown_at marks (ends number answered ∷ []) e.place (ends e.number h.0) h.1)
      each place e (inr p) =
          let P : EndSeen → Type 0 = λ y. slice_get (marks ++ ends number answered ∷ []) y.place ≡ Some (ends y.number answered) in
          let Q : ℕ → Type 0 = λ n. slice_get (marks ++ ends number answered ∷ []) n ≡ Some (ends x.number answered) in
          let R : ℤ → Type 0 = λ n. slice_get (marks ++ ends number answered ∷ []) (length marks) ≡ Some (ends n answered) in
          (answered, subst P p.1 (subst Q (sym place_is) (subst R (sym number_is) (last_at marks (ends number answered)))))

      all : (n : ℤ) (end : ℕ) (a : List ℕ) → HasEnd marks n end a ⊎ ((end ≡ length marks) × (ends number answered ≡ ends n a))
          → (place : ℕ) × ((e : EndSeen) × (slice_get new.seen.items place ≡ Some e) × (e.number ≡ n) × (e.place ≡ end))
      all n end a (inl h) = let k = w.are.all n end a h in (k.0, (k.1.0, there k.0 k.1.0 (grown_at old.seen.items (x ∷ []) k.0 k.1.0 k.1.1), k.1.2, k.1.3))
      all n end a (inr p) =
          let m : number ≡ n = (let e = p.1 in cc) in
          (length old.seen.items, (x, there (length old.seen.items) x (last_at old.seen.items x), number_is ∙ m, place_is ∙ sym p.0))

      ascend : (i j : ℕ) (a b : EndSeen) → i < j → (slice_get old.seen.items i ≡ Some a) ⊎ ((i ≡ length old.seen.items) × (x ≡ a))
          → (slice_get old.seen.items j ≡ Some b) ⊎ ((j ≡ length old.seen.items) × (x ≡ b)) → a.place < b.place
      ascend i j a b h (inl p) (inl q) = w.are.ascend i j a b h p q
      ascend i j a b h (inl p) (inr q) = omega (arith, below_marks i a p, place_is, ap (λ (y : EndSeen). y.place) q.1)
      ascend i j a b h (inr p) (inl q) = absurd (omega (arith, h, p.0, slice_get_within old.seen.items j b q))
      ascend i j a b h (inr p) (inr q) = absurd (omega (arith, h, p.0, q.0))

      passed : (place : ℕ) (e : EndSeen) → place < old.passed → (slice_get old.seen.items place ≡ Some e) ⊎ ((place ≡ length old.seen.items) × (x ≡ e)) → IsPassed turns count e.number
      passed place e below (inl at) = w.passed place e below at
      passed place e below (inr p) = absurd (omega (arith, below, p.0, w.within))

-- ---- the first that waits

module _ (marks : List MarkOf) (turns : List Turn) (count : ℕ) (e : Ends) (w : Wait marks turns count e) where
  among_passed : (number : ℤ) (place : ℕ) (x : EndSeen) → place < e.passed → slice_get e.seen.items place ≡ Some x → x.number ≡ number → IsPassed turns count number
  among_passed number place x below at same = let P : ℤ → Type 0 = λ n. IsPassed turns count n in subst P same (w.passed place x below at)

  pub none_waits : length e.seen.items ≤ e.passed → IsFirstWaiting marks turns count None
  none_waits all place number end answered h below =
      let k = w.are.all number end answered h in
      among_passed number k.0 k.1.0 (omega (arith, all, slice_get_within e.seen.items k.0 k.1.0 k.1.1)) k.1.1 k.1.2

  pub first_waits : (x : EndSeen) → slice_get e.seen.items e.passed ≡ Some x → (IsPassed turns count x.number → ⊥) → IsFirstWaiting marks turns count (Some x.place)
  first_waits x at waits = (
    (λ number end answered h below.
        let k = w.are.all number end answered h in
        among_passed number k.0 k.1.0 (before k.0 k.1.0 k.1.1 (omega (arith, k.1.3, below))) k.1.1 k.1.2),
    (let h = w.are.each e.passed x at in (x.number, h.0, h.1, waits)),
  )
    where
      before : (place : ℕ) (y : EndSeen) → slice_get e.seen.items place ≡ Some y → y.place < x.place → place < e.passed
      before place y there less = elim (apart place e.passed) [
        | inl h ↦ h
        | inr g ↦ elim g [
          | inl h ↦ absurd (omega (arith, less, w.are.ascend e.passed place x y h at there))
          | inr p ↦
              let Q : ℕ → Type 0 = λ n. slice_get e.seen.items n ≡ Some y in
              let there' = subst Q p there in
              let same : y ≡ x = (let a = at in cc) in
              absurd (omega (arith, less, ap (λ (z : EndSeen). z.place) same))
        ]
      ]

pub wait_none : (turns : List Turn) (e : Ends) → e.seen.items ≡ [] → e.passed ≡ 0 → Wait [] turns 0 e
wait_none turns e none start = record {
  are = record {
    each = λ place x at. absurd (let P : List EndSeen → Type 0 = λ l. slice_get l place ≡ Some x in let at' = subst P none at in cc);
    all = λ n end a h. absurd cc;
    ascend = λ i j a b h p q. absurd (let P : List EndSeen → Type 0 = λ l. slice_get l i ≡ Some a in let at' = subst P none p in cc);
  };
  within = omega (arith, start);
  passed = λ place x below at. absurd (omega (arith, below, start));
}

-- some turn names a number, or none does
pub is_it_named : (turns : List Turn) (named : FirstPlaces) → AreNamedAt turns named → (number : ℤ) → IsNamed (map turn_of turns) number ⊎ (IsNamed (map turn_of turns) number → ⊥)
is_it_named turns named names number = by (place_in named number) refl
  where
    by : (v : Option ℕ) → place_in named number ≡ v → IsNamed (map turn_of turns) number ⊎ (IsNamed (map turn_of turns) number → ⊥)
    by None is = inr (named_decided turns named names number None (sym is))
    by (Some place) is = inl (named_decided turns named names number (Some place) (sym is))
