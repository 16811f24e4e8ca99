-- Moments: the last stamp of steps that rise, and what goes on from there.
use Rattle.std.proofs.Common.{◌≡◌, ◌<◌, ◌⊎◌, inl, inr, ◌+◌, ◌-◌, ℕ, zero, suc, ℤ, ◌≤ℤ◌, List, [], ◌∷◌, ◌++◌, map, length, Option, Some, None, option_map, slice_get, refl, sym, ap, subst, arith}
use Rattle.std.specs.Int.Signed.{≤ℤ_refl}
use Rattle.std.proofs.lemmas.Int.{by_lt_z}
use Rattle.std.proofs.lemmas.List.{length-map}
use Rattle.std.proofs.lemmas.Option.{slice_get_within}
use Rattle.kmipa_check.specs.Steps.{StepOf, step_of}
use Rattle.kmipa_check.specs.declared.step.Step.{Step}
use Rattle.kmipa_check.specs.Since.{AreSince, last_stamp}
use Rattle.kmipa_check.specs.SegmentReplays.{FirstTold}
use Rattle.kmipa_check.specs.Verdicts.{ArePlaced}
use Rattle.kmipa_check.proofs.PlaceLemmas.{below_suc, contains_at, at_contains, get_at, mapped_from}
use Rattle.kmipa_check.proofs.ReplayLemmas.{over, is_placed}
use Rattle.kmipa_check.proofs.JoinLemmas.{at_front, at_back, at_either, Ordered, ordered, step_moved}
use Rattle.kmipa_check.proofs.SplitLemmas.{step_back}

abbrev pub Rises : StepOf → StepOf → Type 0
Rises x y = x.response.stamp ≤ℤ y.response.stamp

-- ---- the last of some steps

pub last_at : (since : Option ℤ) (ss : List StepOf) (i : ℕ) (s : StepOf) → slice_get ss i ≡ Some s → suc i ≡ length ss → last_stamp since ss ≡ Some s.response.stamp
last_at since [] i s at e = absurd cc
last_at since (x ∷ []) zero s at e = ap (option_map (λ (y : StepOf). y.response.stamp)) at
last_at since (x ∷ []) (suc i) s at e = absurd cc
last_at since (x ∷ (y ∷ ss)) zero s at e = absurd (omega (arith, e))
last_at since (x ∷ (y ∷ ss)) (suc i) s at e = last_at (Some x.response.stamp) (y ∷ ss) i s at (omega (arith, e))

-- of steps that are there it is one's
record Last (since : Option ℤ) (ss : List StepOf) : Type 0 where
  place : ℕ
  step : StepOf
  there : slice_get ss place ≡ Some step
  ends : suc place ≡ length ss
  is : last_stamp since ss ≡ Some step.response.stamp

last_of : (since : Option ℤ) (x : StepOf) (xs : List StepOf) → Last since (x ∷ xs)
last_of since x [] = record { place = 0; step = x; there = refl; ends = refl; is = refl }
last_of since x (y ∷ ys) =
    let l = last_of (Some x.response.stamp) y ys in
    record { place = suc l.place; step = l.step; there = l.there; ends = ap suc l.ends; is = l.is }

pub last_join : (since : Option ℤ) (xs ys : List StepOf) → last_stamp since (xs ++ ys) ≡ last_stamp (last_stamp since xs) ys
last_join since [] ys = refl
last_join since (x ∷ xs) ys = last_join (Some x.response.stamp) xs ys

pub last_moved : (n : ℕ) (since : Option ℤ) (ss : List StepOf) → last_stamp since (map (step_moved n) ss) ≡ last_stamp since ss
last_moved n since [] = refl
last_moved n since (s ∷ ss) = last_moved n (Some s.response.stamp) ss

-- no stamp is above the last
below_last : (since : Option ℤ) (ss : List StepOf) (m : ℤ) (i : ℕ) (s : StepOf) → Ordered Rises ss → slice_get ss i ≡ Some s → last_stamp since ss ≡ Some m → s.response.stamp ≤ℤ m
below_last since [] m i s o at e = absurd cc
below_last since (x ∷ xs) m i s o at e =
    let l = last_of since x xs in
    let top : l.step.response.stamp ≡ m = let p = l.is in cc in
    let P : ℤ → Type 0 = λ z. s.response.stamp ≤ℤ z in
    subst P top (by l (below_suc i l.place (omega (arith, l.ends, slice_get_within (x ∷ xs) i s at))))
  where
    by : (l : Last since (x ∷ xs)) → (i < l.place) ⊎ (i ≡ l.place) → s.response.stamp ≤ℤ l.step.response.stamp
    by l (inl less) = o i l.place s l.step less at l.there
    by l (inr same) =
        let P : ℕ → Type 0 = λ k. slice_get (x ∷ xs) k ≡ Some s in
        let here = subst P same at in
        let there = l.there in
        let e : s ≡ l.step = cc in
        let Q : StepOf → Type 0 = λ y. s.response.stamp ≤ℤ y.response.stamp in
        subst Q e (≤ℤ_refl s.response.stamp)

-- where one is there, or a moment, so is a last
last_some : (since : Option ℤ) (ss : List StepOf) (i : ℕ) (s : StepOf) → slice_get ss i ≡ Some s → (m : ℤ) × (last_stamp since ss ≡ Some m)
last_some since [] i s at = absurd cc
last_some since (x ∷ xs) i s at = let l = last_of since x xs in (l.step.response.stamp, l.is)

last_from : (z : ℤ) (ss : List StepOf) → AreSince (Some z) ss → (m : ℤ) × (last_stamp (Some z) ss ≡ Some m) × (z ≤ℤ m)
last_from z [] h = (z, refl, ≤ℤ_refl z)
last_from z (x ∷ xs) h = let l = last_of (Some z) x xs in (l.step.response.stamp, l.is, h l.step (contains_at (x ∷ xs) l.place l.step l.there))

-- the last one of a slice has it
pub last_step : (since : Option ℤ) (steps : List Step) (last : Step) → slice_get steps (length steps - 1) ≡ Some last → last_stamp since (map step_of steps) ≡ Some (step_of last).response.stamp
last_step since steps last at =
    last_at since (map step_of steps) (length steps - 1) (step_of last) (get_at step_of steps (length steps - 1) last at)
    (omega (arith, slice_get_within steps (length steps - 1) last at, length-map steps step_of))

-- ---- steps behind others

-- what goes on from the last stamp of some goes on from where these did
pub since_join : (since : Option ℤ) (xs ys : List StepOf) → AreSince since xs → AreSince (last_stamp since xs) ys → AreSince since (xs ++ ys)
since_join None xs ys a b = tt
since_join (Some z) xs ys a b = λ s has. by s (at_contains (xs ++ ys) s has)
  where
    by : (s : StepOf) → (i : ℕ) × (slice_get (xs ++ ys) i ≡ Some s) → z ≤ℤ s.response.stamp
    by s (i, at) = elim (at_either xs ys i s at) [
      | inl p ↦ a s (contains_at xs i s p)
      | inr p ↦
          let l = last_from z xs a in
          let P : Option ℤ → Type 0 = λ o. AreSince o ys in
          let h : AreSince (Some l.0) ys = subst P l.1 b in
          over z l.0 s.response.stamp l.2 (h s (contains_at ys p.0 s p.2))
    ]

-- and no stamp of these is above one of those
pub rise_across : (since : Option ℤ) (xs ys : List StepOf) → Ordered Rises xs → AreSince (last_stamp since xs) ys → (i j : ℕ) (x y : StepOf) → slice_get xs i ≡ Some x → slice_get ys j ≡ Some y
    → x.response.stamp ≤ℤ y.response.stamp
rise_across since xs ys o b i j x y u v =
    let l = last_some since xs i x u in
    let P : Option ℤ → Type 0 = λ t. AreSince t ys in
    let h : AreSince (Some l.0) ys = subst P l.1 b in
    over x.response.stamp l.0 y.response.stamp (below_last since xs l.0 i x o u l.1) (h y (contains_at ys j y v))

-- steps that rise go on, behind some of them, from the last stamp of these
pub since_behind : (since : Option ℤ) (xs ys : List StepOf) → Ordered Rises (xs ++ ys) → AreSince since (xs ++ ys) → AreSince (last_stamp since xs) ys
since_behind since [] ys o h = h
since_behind since (x ∷ xs) ys o h =
    let l = last_of since x xs in
    let P : Option ℤ → Type 0 = λ t. AreSince t ys in
    let h : AreSince (Some l.step.response.stamp) ys = λ s has. by l s (at_contains ys s has) in
    subst P (sym l.is) h
  where
    by : (l : Last since (x ∷ xs)) (s : StepOf) → (j : ℕ) × (slice_get ys j ≡ Some s) → l.step.response.stamp ≤ℤ s.response.stamp
    by l s (j, at) =
        o l.place (length (x ∷ xs) + j) l.step s (omega (arith, l.ends)) (at_front (x ∷ xs) ys l.place l.step l.there) (at_back (x ∷ xs) ys j s at)

pub since_moved : (n : ℕ) (since : Option ℤ) (ss : List StepOf) → AreSince since ss → AreSince since (map (step_moved n) ss)
since_moved n None ss h = tt
since_moved n (Some z) ss h = λ s has.
    let q = at_contains (map (step_moved n) ss) s has in
    let m = mapped_from (step_moved n) ss q.0 s q.1 in
    let P : StepOf → Type 0 = λ x. z ≤ℤ x.response.stamp in
    subst P m.2 (h m.0 (contains_at ss q.0 m.0 m.1))

pub since_back : (n : ℕ) (since : Option ℤ) (ss : List StepOf) → AreSince since ss → AreSince since (map (step_back n) ss)
since_back n None ss h = tt
since_back n (Some z) ss h = λ s has.
    let q = at_contains (map (step_back n) ss) s has in
    let m = mapped_from (step_back n) ss q.0 s q.1 in
    let P : StepOf → Type 0 = λ x. z ≤ℤ x.response.stamp in
    subst P m.2 (h m.0 (contains_at ss q.0 m.0 m.1))

-- ---- a replay

-- where the first turn isn't refused for its stamp, none of placed turns is below the moment
pub placed_since : (since : Option ℤ) (order : List StepOf) → FirstTold since order None → ArePlaced order (length order) → AreSince since order
placed_since None order told placed = tt
placed_since (Some z) [] told placed = λ s has. let q = at_contains [] s has in let at : None ≡ Some s = q.1 in absurd cc
placed_since (Some z) (x ∷ xs) told placed = λ s has. by s (at_contains (x ∷ xs) s has)
  where
    first_since : z ≤ℤ x.response.stamp
    first_since =
        let p = placed 0 (omega arith) in
        let there = p.1.there in
        let e : p.0 ≡ x = cc in
        let P : StepOf → Type 0 = λ y. z ≤ℤ y.response.stamp in
        subst P e (by_lt_z p.0.response.stamp z (λ h. absurd (p.1.kept (told p.0 (record { moment = z; is = refl; there = there; below = h })))) (λ h. h))

    by : (s : StepOf) → (i : ℕ) × (slice_get (x ∷ xs) i ≡ Some s) → z ≤ℤ s.response.stamp
    by s (zero, at) =
        let e : x ≡ s = cc in
        let P : StepOf → Type 0 = λ y. z ≤ℤ y.response.stamp in
        subst P e first_since
    by s (suc i, at) =
        over z x.response.stamp s.response.stamp first_since (ordered Rises (x ∷ xs) (is_placed (x ∷ xs) placed).stamped 0 (suc i) x s (omega arith) refl at)
