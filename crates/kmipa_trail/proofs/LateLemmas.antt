-- The scan for late steps, one step more.
use Rattle.std.proofs.Common.{◌≡◌, ◌<◌, ◌≤◌, ◌⊎◌, inl, inr, ℕ, zero, suc, ◌-◌, Bool, true, false, nat_lt, if◌then◌else◌, List, length, map, get_or, Option, Some, None, slice_get, refl, sym, ap, subst, arith}
use Rattle.std.proofs.lemmas.Bool.Decides.{nat_tests}
use Rattle.std.proofs.lemmas.Option.{slice_get_within}
use Rattle.kmipa_turns.specs.declared.step.Step.{Step}
use Rattle.kmipa_turns.specs.Steps.{step_of, StepOf}
use Rattle.kmipa_check.specs.Runs.{EndsAhead}
use Rattle.kmipa_trail.specs.Placing.{ArePlaced, IsLate}
use Rattle.kmipa_check.specs.Late.{is_at, is_below, next_late, lesser, least_of}
use Rattle.kmipa_trail.specs.Late.{LeastEnd, LateFrom, FirstLate, ScannedFrom}
use Rattle.kmipa_check.proofs.PlaceLemmas.{apart, mapped_at}

-- a place from k on is k, or one from the next on
from_next : (k turn : ℕ) → k ≤ turn → (k ≡ turn) ⊎ (suc k ≤ turn)
from_next zero zero h = inl refl
from_next zero (suc turn) h = inr (omega arith)
from_next (suc k) zero h = absurd (omega (arith, h))
from_next (suc k) (suc turn) h = up (from_next k turn (omega (arith, h)))
  where
    up : (k ≡ turn) ⊎ (suc k ≤ turn) → (suc k ≡ suc turn) ⊎ (suc (suc k) ≤ suc turn)
    up (inl e) = inl (ap suc e)
    up (inr b) = inr (omega (arith, b))

pub scanned_none : (order : List StepOf) → ScannedFrom order (length order) None None
scanned_none order = record {
  ends = λ turn d end from at is. absurd (omega (arith, from, slice_get_within order turn d at));
  places = λ turn c from at late. absurd (omega (arith, from, slice_get_within order turn c at));
}

module _ (order : List StepOf) (k : ℕ) (c : StepOf) (at : slice_get order k ≡ Some c) where
  -- what is at a place is at that of the step, or after it
  at_or_behind : (turn : ℕ) (d : StepOf) → k ≤ turn → slice_get order turn ≡ Some d → (d ≡ c) ⊎ (suc k ≤ turn)
  at_or_behind turn d from there = by (from_next k turn from)
    where
      by : (k ≡ turn) ⊎ (suc k ≤ turn) → (d ≡ c) ⊎ (suc k ≤ turn)
      by (inl e) =
          let P : ℕ → Type 0 = λ t. slice_get order t ≡ Some d in
          let here = subst P (sym e) there in
          inl cc
      by (inr b) = inr b

  -- without an end of its own
  least_none : (least : Option ℕ) → c.end ≡ None → LeastEnd order (suc k) least → LeastEnd order k least
  least_none None none h = λ turn d end from there is. by turn d end there is (at_or_behind turn d from there)
    where
      by : (turn : ℕ) (d : StepOf) (end : ℕ) → slice_get order turn ≡ Some d → d.end ≡ Some end → (d ≡ c) ⊎ (suc k ≤ turn) → ⊥
      by turn d end there is (inl e) = let same : d.end ≡ c.end = ap (λ (x : StepOf). x.end) e in absurd cc
      by turn d end there is (inr b) = h turn d end b there is
  least_none (Some least) none h = ((λ turn d end from there is. by turn d end there is (at_or_behind turn d from there)), (h.1.0, h.1.1, omega (arith, h.1.2), h.1.3, h.1.4))
    where
      by : (turn : ℕ) (d : StepOf) (end : ℕ) → slice_get order turn ≡ Some d → d.end ≡ Some end → (d ≡ c) ⊎ (suc k ≤ turn) → least ≤ end
      by turn d end there is (inl e) = let same : d.end ≡ c.end = ap (λ (x : StepOf). x.end) e in absurd cc
      by turn d end there is (inr b) = h.0 turn d end b there is

  -- with one
  module _ (own : ℕ) (has : c.end ≡ Some own) where
    own_end : (d : StepOf) (end : ℕ) → d ≡ c → d.end ≡ Some end → own ≡ end
    own_end d end e is = let same : d.end ≡ c.end = ap (λ (x : StepOf). x.end) e in cc

    least_some : (least : Option ℕ) → LeastEnd order (suc k) least → LeastEnd order k (Some (lesser least own))
    least_some None h = ((λ turn d end from there is. by turn d end there is (at_or_behind turn d from there)), (k, c, omega arith, at, has))
      where
        by : (turn : ℕ) (d : StepOf) (end : ℕ) → slice_get order turn ≡ Some d → d.end ≡ Some end → (d ≡ c) ⊎ (suc k ≤ turn) → own ≤ end
        by turn d end there is (inl e) = omega (arith, own_end d end e is)
        by turn d end there is (inr b) = absurd (h turn d end b there is)
    least_some (Some least) h = by (nat_lt least own) refl
      where
        bound : (e : ℕ) → e ≤ least → e ≤ own → (turn : ℕ) (d : StepOf) (end : ℕ) → slice_get order turn ≡ Some d → d.end ≡ Some end → (d ≡ c) ⊎ (suc k ≤ turn) → e ≤ end
        bound e a b turn d end there is (inl same) = omega (arith, b, own_end d end same is)
        bound e a b turn d end there is (inr next) = omega (arith, a, h.0 turn d end next there is)

        by : (b : Bool) → nat_lt least own ≡ b → LeastEnd order k (Some (if b then least else own))
        by true e = (
          (λ turn d end from there is. bound least (omega arith) (grind (arith, nat_tests)) turn d end there is (at_or_behind turn d from there)),
          (h.1.0, h.1.1, omega (arith, h.1.2), h.1.3, h.1.4),
        )
        by false e = (
          (λ turn d end from there is. bound own (grind (arith, nat_tests)) (omega arith) turn d end there is (at_or_behind turn d from there)),
          (k, c, omega arith, at, has),
        )

  least_suc : (least : Option ℕ) → LeastEnd order (suc k) least → LeastEnd order k (least_of least c.end)
  least_suc least h = by c.end refl
    where
      by : (end : Option ℕ) → c.end ≡ end → LeastEnd order k (least_of least end)
      by None e = least_none least e h
      by (Some own) e = least_some own e least h

  late_yes : (least : Option ℕ) → LeastEnd order (suc k) least → is_below least c.begin ≡ true → IsLate order k c
  late_yes None h e = absurd cc
  late_yes (Some least) h e =
      let P : Option ℕ → Type 0 = λ end. EndsAhead end c.begin in
      (h.1.0, h.1.1, omega (arith, h.1.2), h.1.3, subst P (sym h.1.4) (grind (arith, nat_tests)))

  late_no : (least : Option ℕ) → LeastEnd order (suc k) least → is_below least c.begin ≡ false → IsLate order k c → ⊥
  late_no least h e late = by late.1.end refl late.4
    where
      clash : (least : Option ℕ) → LeastEnd order (suc k) least → is_below least c.begin ≡ false → (end : ℕ) → late.1.end ≡ Some end → end < c.begin → ⊥
      clash None h e end is below = h late.0 late.1 end (omega (arith, late.2)) late.3 is
      clash (Some least) h e end is below = under (h.0 late.0 late.1 end (omega (arith, late.2)) late.3 is)
        where
          under : least ≤ end → ⊥
          under a = grind (arith, nat_tests)

      by : (end : Option ℕ) → late.1.end ≡ end → EndsAhead end c.begin → ⊥
      by None is before = before
      by (Some end) is before = clash least h e end is before

  late_suc : (least late : Option ℕ) (b : Bool) → is_below least c.begin ≡ b → LeastEnd order (suc k) least → LateFrom order (suc k) late → LateFrom order k (next_late late b k)
  late_suc least late true e h l = (
    omega arith,
    (λ x there. (let is : c ≡ x = cc in let P : StepOf → Type 0 = λ y. IsLate order k y in subst P is (late_yes least h e))),
    (λ turn x from below there is. absurd (omega (arith, from, below))),
  )
  late_suc least None false e h l = λ turn x from there is. by turn x there is (from_next k turn from)
    where
      by : (turn : ℕ) (x : StepOf) → slice_get order turn ≡ Some x → IsLate order turn x → (k ≡ turn) ⊎ (suc k ≤ turn) → ⊥
      by turn x there is (inl same) =
          let P : ℕ → Type 0 = λ t. (slice_get order t ≡ Some x) × IsLate order t x in
          let q = subst P (sym same) (there, is) in
          let here = q.0 in
          let eq : x ≡ c = cc in
          let Q : StepOf → Type 0 = λ y. IsLate order k y in
          late_no least h e (subst Q eq q.1)
      by turn x there is (inr next) = l turn x next there is
  late_suc least (Some late) false e h l = (omega (arith, l.0), l.1, (λ turn x from below there is. by turn x below there is (from_next k turn from)))
    where
      by : (turn : ℕ) (x : StepOf) → turn < late → slice_get order turn ≡ Some x → IsLate order turn x → (k ≡ turn) ⊎ (suc k ≤ turn) → ⊥
      by turn x below there is (inl same) =
          let P : ℕ → Type 0 = λ t. (slice_get order t ≡ Some x) × IsLate order t x in
          let q = subst P (sym same) (there, is) in
          let here = q.0 in
          let eq : x ≡ c = cc in
          let Q : StepOf → Type 0 = λ y. IsLate order k y in
          late_no least h e (subst Q eq q.1)
      by turn x below there is (inr next) = l.2 turn x next below there is

-- one step more, before the others
pub scanned_more : (steps : List Step) (k : ℕ) (s : Step) (least late : Option ℕ) (below : Bool) (l v : Option ℕ) → 0 < k → k ≤ length steps
    → s ≡ get_or steps (k - 1) s → below ≡ is_below least s.begin → v ≡ next_late late below (k - 1) → l ≡ least_of least s.end
    → ScannedFrom (map step_of steps) k least late → ScannedFrom (map step_of steps) (k - 1) l v
scanned_more steps k s least late below l v some within is e f g scanned =
    let at = mapped_at step_of steps (k - 1) s (omega (arith, some, within)) is in
    let P : ℕ → Type 0 = λ n. ScannedFrom (map step_of steps) n least late in
    let step : k ≡ suc (k - 1) = omega (arith, some) in
    let t = subst P step scanned in
    let Q : Option ℕ → Type 0 = λ n. LeastEnd (map step_of steps) (k - 1) n in
    let R : Option ℕ → Type 0 = λ w. LateFrom (map step_of steps) (k - 1) w in
    record {
      ends = subst Q (sym g) (least_suc (map step_of steps) (k - 1) (step_of s) at least t.ends);
      places = subst R (sym f) (late_suc (map step_of steps) (k - 1) (step_of s) at least late below (sym e) t.ends t.places);
    }

-- what the scan says of a turn
pub late_here : (order : List StepOf) (late : Option ℕ) (turn : ℕ) (c : StepOf) → FirstLate order late → slice_get order turn ≡ Some c → is_at late turn ≡ true → IsLate order turn c
late_here order None turn c h at e = absurd cc
late_here order (Some late) turn c h at e =
    let same : late ≡ turn = grind (arith, nat_tests) in
    let P : ℕ → Type 0 = λ n. (x : StepOf) → slice_get order n ≡ Some x → IsLate order n x in
    subst P same h.1 c at

-- where the turns before are placed and the first late turn isn't this one, it isn't late
pub none_late : (order : List StepOf) (late : Option ℕ) (turn : ℕ) (c : StepOf) → FirstLate order late → ArePlaced order turn → slice_get order turn ≡ Some c → is_at late turn ≡ false
    → IsLate order turn c → ⊥
none_late order None turn c h placed at never is = h turn c (omega arith) at is
none_late order (Some late) turn c h placed at never is = by (apart turn late)
  where
    by : (turn < late) ⊎ ((late < turn) ⊎ (turn ≡ late)) → ⊥
    by (inl b) = h.2 turn c (omega arith) b at is
    by (inr (inl b)) = let p = placed late b in p.1.kept (h.1 p.0 p.1.there)
    by (inr (inr e)) = grind (arith, nat_tests)
