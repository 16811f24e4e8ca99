-- The calls that are left, along the line of the wishes.
use Rattle.std.proofs.Common.{◌≡◌, ◌<◌, ◌≤◌, ◌⊎◌, inl, inr, ℕ, List, [], ◌∷◌, length, Some, None, Contains, refl, sym, ap, ◌∙◌, subst, arith}
use Rattle.std.proofs.lemmas.Option.{slice_get_within}
use Rattle.kmipa_check.specs.Steps.{StepOf}
use Rattle.kmipa_orders.specs.Next.{IsNext}
use Rattle.kmipa_orders.specs.Links.{at, AreLinked, IsWithin, after_without, before_without, after_with, before_with}
use Rattle.kmipa_orders.specs.Ranks.{IsRanked, InAnyOrder, HasRank, LeftRank, WereLinked}
use Rattle.kmipa_orders.specs.Tries.{IsOpenCall}
use Rattle.kmipa_orders.specs.Wished.{IsMostWished, IsAlong}
use Rattle.kmipa_orders.specs.declared.links.Links.{Links}
use Rattle.kmipa_orders.specs.declared.ranks.Ranks.{Ranks}
use Rattle.kmipa_orders.specs.declared.tried.Tried.{Tried}
use Rattle.kmipa_orders.proofs.LinksLemmas.{which, links_same}
use Rattle.kmipa_orders.proofs.RankLemmas.{linked_now, linked_without, not_between}

-- all are left
pub wished_all : (count : ℕ) (order rank A B : List ℕ) → IsRanked count InAnyOrder order rank → HasRank count rank → AreLinked count (IsWithin count) A B → WereLinked count rank [] A B
wished_all count order rank A B ranked onto line =
    links_same count (IsWithin count) (LeftRank count rank []) A B
    (λ k h. let q = onto k h.0 h.1 in (q.0, q.1, q.2, λ c. omega (arith, c.1)))
    (λ k h. let q = ranked.placed h.0 h.1 in (omega (arith, q.0, h.2), omega (arith, q.1, h.2)))
    line

module _ (calls : List StepOf) (taken order wishes A B : List ℕ) (ranked : IsRanked (length calls) InAnyOrder order wishes) (line : WereLinked (length calls) wishes taken A B) (t : Tried) where
  now : AreLinked (length calls) (LeftRank (length calls) wishes taken) A B
  now = linked_now (length calls) wishes taken A B line

  inside : (q : ℕ) → IsNext calls taken q → q < length calls
  inside q n = slice_get_within calls q n.call n.there

  -- from a rank on the line to the next one
  module _ (i : ℕ) (stands : LeftRank (length calls) wishes taken i ⊎ (i ≡ 0)) (above : (q : ℕ) → IsOpenCall calls taken wishes t q → i < at wishes q) where
    along_next : IsAlong calls taken wishes t (at A i)
    along_next = record {
      stands = elim (now.afters i stands).stands [ inl l ↦ inl l | inr e ↦ inr (omega (arith, e)) ];
      least = λ q c. not_between (length calls) wishes InAnyOrder order ranked taken A B now i stands q (inside q c.next) c.next.left (above q c);
    }

  pub along_begins : IsAlong calls taken wishes t (at A 0)
  along_begins = along_next 0 (inr refl) (λ q c. (ranked.placed q (inside q c.next)).0)

  -- behind the call tried last, where it is left
  pub along_behind : LeftRank (length calls) wishes taken t.done → IsAlong calls taken wishes t (at A t.done)
  along_behind left = along_next t.done (inl left) (λ q c. c.rank)

  -- past the end there is none
  pub along_past : (rank : ℕ) → IsAlong calls taken wishes t rank → length calls < rank → IsMostWished calls taken wishes t None
  along_past rank a past q c = omega (arith, past, a.least q c, (ranked.placed q (inside q c.next)).1)

  module _ (rank : ℕ) (a : IsAlong calls taken wishes t rank) (within : rank ≤ length calls) where
    here : LeftRank (length calls) wishes taken rank
    here = elim a.stands [ inl l ↦ l | inr past ↦ absurd (omega (arith, past, within)) ]

    -- the place of the rank is one that is left
    pub along_place : (at order rank < length calls) × (at wishes (at order rank) ≡ rank) × (Contains taken (at order rank) → ⊥)
    along_place =
        let e : here.0 ≡ at order rank = sym (ranked.placed here.0 here.1).2 ∙ ap (at order) here.2 in
        let P : ℕ → Type 0 = λ p. (p < length calls) × (at wishes p ≡ rank) × (Contains taken p → ⊥) in
        subst P e (here.1, here.2, here.3)

    -- the call there is not one of these, and so each of them stands behind
    behind : (IsOpenCall calls taken wishes t (at order rank) → ⊥) → (q : ℕ) → IsOpenCall calls taken wishes t q → rank < at wishes q
    behind closed q c = elim (which rank (at wishes q)) [
      | inl less ↦ less
      | inr g ↦ elim g [
        | inl e ↦
            let same : at order rank ≡ q = ap (at order) e ∙ (ranked.placed q (inside q c.next)).2 in
            let P : ℕ → Type 0 = λ p. IsOpenCall calls taken wishes t p in
            absurd (closed (subst P (sym same) c))
        | inr more ↦ absurd (omega (arith, more, a.least q c))
      ]
    ]

    pub along_on : (IsOpenCall calls taken wishes t (at order rank) → ⊥) → IsAlong calls taken wishes t (at A rank)
    along_on closed = along_next rank (inl here) (behind closed)

    pub along_onward : rank < at A rank
    along_onward = (now.afters rank (inl here)).onward

    pub along_found : (p : ℕ) → p ≡ at order rank → IsNext calls taken p → t.from ≤ p → t.done < rank → IsMostWished calls taken wishes t (Some p)
    along_found p is next from done =
        let e : at wishes p ≡ rank = ap (at wishes) is ∙ along_place.1 in (
          record { next = next; from = from; rank = omega (arith, e, done) },
          λ q c. omega (arith, e, a.least q c),
        )

    -- what is not open by its test is not open
    pub along_closed : (p : ℕ) → p ≡ at order rank → (t.done < rank → t.from ≤ p → IsNext calls taken p → ⊥) → IsOpenCall calls taken wishes t (at order rank) → ⊥
    along_closed p is none c =
        let P : ℕ → Type 0 = λ k. IsOpenCall calls taken wishes t k in
        let o = subst P (sym is) c in
        let e : at wishes p ≡ rank = ap (at wishes) is ∙ along_place.1 in
        let high = o.rank in
        none (omega (arith, high, e)) o.from o.next

-- a call goes out of the line, and comes back
module _ (count : ℕ) (w : Ranks) (taken : List ℕ) (l m : Links) (p r : ℕ) (is : r ≡ at w.rank.items p) where
  pub wished_without : IsRanked count InAnyOrder w.order.items w.rank.items → p < count → (Contains taken p → ⊥) → WereLinked count w.rank.items taken l.after.items l.before.items
      → m.after.items ≡ after_without l.after.items l.before.items r → m.before.items ≡ before_without l.after.items l.before.items r → WereLinked count w.rank.items (p ∷ taken) m.after.items m.before.items
  wished_without ranked below left line after before =
      let A = l.after.items in
      let B = l.before.items in
      let P : List ℕ → Type 0 = λ a. WereLinked count w.rank.items (p ∷ taken) a m.before.items in
      let Q : List ℕ → Type 0 = λ b. WereLinked count w.rank.items (p ∷ taken) (after_without A B (at w.rank.items p)) b in
      subst P (sym (after ∙ ap (after_without A B) is))
      (subst Q (sym (before ∙ ap (before_without A B) is)) (linked_without count w.rank.items InAnyOrder w.order.items ranked p taken A B below left line))

  pub wished_with : WereLinked count w.rank.items (p ∷ taken) l.after.items l.before.items → m.after.items ≡ after_with l.after.items l.before.items r → m.before.items ≡ before_with l.after.items l.before.items r
      → WereLinked count w.rank.items taken m.after.items m.before.items
  wished_with line after before =
      let A = l.after.items in
      let B = l.before.items in
      let P : List ℕ → Type 0 = λ a. WereLinked count w.rank.items taken a m.before.items in
      let Q : List ℕ → Type 0 = λ b. WereLinked count w.rank.items taken (after_with A B (at w.rank.items p)) b in
      subst P (sym (after ∙ ap (after_with A B) is)) (subst Q (sym (before ∙ ap (before_with A B) is)) line.1)
