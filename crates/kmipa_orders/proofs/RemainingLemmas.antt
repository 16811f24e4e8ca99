-- The calls that wait, by the lines.
use Rattle.std.proofs.Common.{◌≡◌, ◌<◌, ◌≤◌, ℕ, Bool, true, false, cond, List, [], ◌∷◌, length, Contains, Some, None, sym, ap, ◌∙◌, subst, arith}
use Rattle.std.proofs.lemmas.Option.{slice_get_within}
use Rattle.kmipa_check.specs.Steps.{StepOf}
use Rattle.kmipa_orders.specs.Next.{IsNext}
use Rattle.kmipa_orders.specs.Progress.{AreBegun, IsNextFrom}
use Rattle.kmipa_orders.specs.Taken.{step_at}
use Rattle.kmipa_orders.specs.Links.{at, AreLinked, IsWithin, after_without, before_without}
use Rattle.kmipa_orders.specs.Ranks.{IsRanked, ByStamp, ByEnd, LeftRank, WereLinked, rank_from, allows, AreEnded}
use Rattle.kmipa_orders.specs.Remaining.{AreRemaining, IsCursor}
use Rattle.kmipa_orders.specs.declared.links.Links.{Links}
use Rattle.kmipa_orders.specs.declared.ranks.Ranks.{Ranks}
use Rattle.kmipa_orders.specs.declared.remaining.Remaining.{Remaining}
use Rattle.kmipa_orders.proofs.LinksLemmas.{links_same}
use Rattle.kmipa_orders.proofs.RankLemmas.{linked_now, linked_without, none_behind, next_reported, next_allowed, next_refused, here, h_here, s_here}

module _ (calls : List StepOf) (taken : List ℕ) (w : Remaining) (x : AreRemaining calls taken w) (ended : AreEnded calls) where
  stamps : AreLinked (length calls) (LeftRank (length calls) w.stamps.rank.items taken) w.by_stamp.after.items w.by_stamp.before.items
  stamps = linked_now (length calls) w.stamps.rank.items taken w.by_stamp.after.items w.by_stamp.before.items x.by_stamp

  closes : AreLinked (length calls) (LeftRank (length calls) w.ends.rank.items taken) w.by_end.after.items w.by_end.before.items
  closes = linked_now (length calls) w.ends.rank.items taken w.by_end.after.items w.by_end.before.items x.by_end

  module _ (from : ℕ) (cursor : IsCursor calls taken from) where
    pub remaining_none : (r : ℕ) → r ≡ at w.by_stamp.after.items (rank_from w.stamps.rank.items from) → length calls < r → IsNextFrom calls taken from None
    remaining_none r is past =
        none_behind calls taken w.stamps.order.items w.stamps.rank.items w.by_stamp.after.items w.by_stamp.before.items w.ends.order.items w.ends.rank.items w.by_end.after.items w.by_end.before.items
        x.stamps x.ends stamps closes ended from cursor (omega (arith, past, is))

    pub remaining_reported : (r p h s : ℕ) → r ≡ at w.by_stamp.after.items (rank_from w.stamps.rank.items from) → r ≤ length calls
        → p ≡ at w.stamps.order.items r → h ≡ at w.stamps.order.items (at w.by_stamp.after.items 0) → s ≡ at w.ends.order.items (at w.by_end.after.items 0) → AreBegun calls
        → (b : Bool) → (p < length calls → h < length calls → s < length calls → b ≡ allows (step_at calls p) (step_at calls h) (step_at calls s)) → IsNextFrom calls taken from (cond b (Some p) None)
    remaining_reported r p h s is within p_is h_is s_is begun b reported =
        let few : at w.by_stamp.after.items (rank_from w.stamps.rank.items from) ≤ length calls = omega (arith, is, within) in
        let O = w.stamps.order.items in
        let K = w.stamps.rank.items in
        let A = w.by_stamp.after.items in
        let B = w.by_stamp.before.items in
        let E = w.ends.order.items in
        let F = w.ends.rank.items in
        let C = w.by_end.after.items in
        let D = w.by_end.before.items in
        let p_same : p ≡ at O (at A (rank_from K from)) = p_is ∙ ap (at O) is in
        let own = here calls taken O K A B E F C D x.stamps x.ends stamps closes ended from cursor few in
        let p_in : p < length calls = omega (arith, p_same, own.0) in
        let h_in : h < length calls = omega (arith, h_is, (h_here calls taken O K A B E F C D x.stamps x.ends stamps closes ended (at O (at A (rank_from K from))) own.0 own.2).0) in
        let s_in : s < length calls = omega (arith, s_is, (s_here calls taken O K A B E F C D x.stamps x.ends stamps closes ended (at O (at A (rank_from K from))) own.0 own.2).0) in
        let P : ℕ → Type 0 = λ k. IsNextFrom calls taken from (cond b (Some k) None) in
        subst P (sym p_same)
        (next_reported calls taken O K A B E F C D x.stamps x.ends stamps closes ended from cursor few begun b
        (ap (λ (k : ℕ). allows (step_at calls k) (step_at calls (at O (at A 0))) (step_at calls (at E (at C 0)))) (sym p_same)
        ∙ ap (λ (k : ℕ). allows (step_at calls p) (step_at calls k) (step_at calls (at E (at C 0)))) (sym h_is)
        ∙ ap (λ (k : ℕ). allows (step_at calls p) (step_at calls h) (step_at calls k)) (sym s_is)
        ∙ sym (reported p_in h_in s_in)))

  -- a call that is left is next, or is not, by the test
  module _ (p h s : ℕ) (h_is : h ≡ at w.stamps.order.items (at w.by_stamp.after.items 0)) (s_is : s ≡ at w.ends.order.items (at w.by_end.after.items 0)) (inside : p < length calls) (free : Contains taken p → ⊥) where
    least_in : h < length calls
    least_in = omega (
      arith,
      h_is,
      (h_here calls taken w.stamps.order.items w.stamps.rank.items w.by_stamp.after.items w.by_stamp.before.items w.ends.order.items w.ends.rank.items w.by_end.after.items w.by_end.before.items
          x.stamps x.ends stamps closes ended p inside free).0,
    )

    soonest_in : s < length calls
    soonest_in = omega (
      arith,
      s_is,
      (s_here calls taken w.stamps.order.items w.stamps.rank.items w.by_stamp.after.items w.by_stamp.before.items w.ends.order.items w.ends.rank.items w.by_end.after.items w.by_end.before.items
          x.stamps x.ends stamps closes ended p inside free).0,
    )

    same_test : allows (step_at calls p) (step_at calls h) (step_at calls s)
        ≡ allows (step_at calls p) (step_at calls (at w.stamps.order.items (at w.by_stamp.after.items 0))) (step_at calls (at w.ends.order.items (at w.by_end.after.items 0)))
    same_test =
        ap (λ (k : ℕ). allows (step_at calls p) (step_at calls k) (step_at calls s)) h_is
        ∙ ap (λ (k : ℕ). allows (step_at calls p) (step_at calls (at w.stamps.order.items (at w.by_stamp.after.items 0))) (step_at calls k)) s_is

    pub remaining_next : (h < length calls → s < length calls → allows (step_at calls p) (step_at calls h) (step_at calls s) ≡ true) → IsNext calls taken p
    remaining_next is =
        next_allowed calls taken w.stamps.order.items w.stamps.rank.items w.by_stamp.after.items w.by_stamp.before.items w.ends.order.items w.ends.rank.items w.by_end.after.items w.by_end.before.items
        x.stamps x.ends stamps closes ended p inside free (sym same_test ∙ is least_in soonest_in)

    pub remaining_other : (h < length calls → s < length calls → allows (step_at calls p) (step_at calls h) (step_at calls s) ≡ false) → IsNext calls taken p → ⊥
    remaining_other is =
        next_refused calls taken w.stamps.order.items w.stamps.rank.items w.by_stamp.after.items w.by_stamp.before.items w.ends.order.items w.ends.rank.items w.by_end.after.items w.by_end.before.items
        x.stamps x.ends stamps closes ended p inside free (sym same_test ∙ is least_in soonest_in)

  -- a next call is taken
  pub remaining_taken : (p r e : ℕ) (l m : Links) → IsNext calls taken p → r ≡ at w.stamps.rank.items p → e ≡ at w.ends.rank.items p
      → l.after.items ≡ after_without w.by_stamp.after.items w.by_stamp.before.items r → l.before.items ≡ before_without w.by_stamp.after.items w.by_stamp.before.items r
      → m.after.items ≡ after_without w.by_end.after.items w.by_end.before.items e → m.before.items ≡ before_without w.by_end.after.items w.by_end.before.items e
      → AreRemaining calls (p ∷ taken) (record { stamps = w.stamps; by_stamp = l; ends = w.ends; by_end = m })
  remaining_taken p r e l m n r_is e_is la lb ma mb =
      let below = slice_get_within calls p n.call n.there in
      let A = w.by_stamp.after.items in
      let B = w.by_stamp.before.items in
      let C = w.by_end.after.items in
      let D = w.by_end.before.items in
      let P : List ℕ → Type 0 = λ a. WereLinked (length calls) w.stamps.rank.items (p ∷ taken) a l.before.items in
      let Q : List ℕ → Type 0 = λ b. WereLinked (length calls) w.stamps.rank.items (p ∷ taken) (after_without A B (at w.stamps.rank.items p)) b in
      let R : List ℕ → Type 0 = λ a. WereLinked (length calls) w.ends.rank.items (p ∷ taken) a m.before.items in
      let S : List ℕ → Type 0 = λ b. WereLinked (length calls) w.ends.rank.items (p ∷ taken) (after_without C D (at w.ends.rank.items p)) b in
      record {
        stamps = x.stamps;
        ends = x.ends;
        by_stamp =
            subst P (sym (la ∙ ap (after_without A B) r_is))
            (subst Q (sym (lb ∙ ap (before_without A B) r_is)) (linked_without (length calls) w.stamps.rank.items (ByStamp calls) w.stamps.order.items x.stamps p taken A B below n.left x.by_stamp));
        by_end =
            subst R (sym (ma ∙ ap (after_without C D) e_is))
            (subst S (sym (mb ∙ ap (before_without C D) e_is)) (linked_without (length calls) w.ends.rank.items (ByEnd calls) w.ends.order.items x.ends p taken C D below n.left x.by_end));
        next = (n, x.next);
      }

-- all wait
pub remaining_all : (calls : List StepOf) (count : ℕ) (a e : Ranks) (l m : Links) → count ≡ length calls → IsRanked count (ByStamp calls) a.order.items a.rank.items → IsRanked count (ByEnd calls) e.order.items e.rank.items
    → ((r : ℕ) → IsWithin count r → (p : ℕ) × (p < count) × (at a.rank.items p ≡ r)) → ((r : ℕ) → IsWithin count r → (p : ℕ) × (p < count) × (at e.rank.items p ≡ r))
    → AreLinked count (IsWithin count) l.after.items l.before.items → AreLinked count (IsWithin count) m.after.items m.before.items
    → AreRemaining calls [] (record { stamps = a; by_stamp = l; ends = e; by_end = m })
remaining_all calls count a e l m is s t onto_a onto_e x y =
    let P : ℕ → Type 0 = λ n. IsRanked n (ByStamp calls) a.order.items a.rank.items in
    let Q : ℕ → Type 0 = λ n. IsRanked n (ByEnd calls) e.order.items e.rank.items in
    let R : ℕ → Type 0 = λ n. WereLinked n a.rank.items [] l.after.items l.before.items in
    let S : ℕ → Type 0 = λ n. WereLinked n e.rank.items [] m.after.items m.before.items in
    record {
      stamps = subst P is s;
      ends = subst Q is t;
      by_stamp = subst R is (links_same count (IsWithin count) (LeftRank count a.rank.items []) l.after.items l.before.items
          (λ k h. let q = onto_a k h in (q.0, q.1, q.2, λ c. omega (arith, c.1)))
          (λ k h. let q = s.placed h.0 h.1 in (omega (arith, q.0, h.2), omega (arith, q.1, h.2))) x);
      by_end = subst S is (links_same count (IsWithin count) (LeftRank count e.rank.items []) m.after.items m.before.items
          (λ k h. let q = onto_e k h in (q.0, q.1, q.2, λ c. omega (arith, c.1)))
          (λ k h. let q = t.placed h.0 h.1 in (omega (arith, q.0, h.2), omega (arith, q.1, h.2))) y);
      next = tt;
    }
