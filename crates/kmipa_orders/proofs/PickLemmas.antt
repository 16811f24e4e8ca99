-- Which call is tried next.
use Rattle.std.proofs.Common.{◌≡◌, ◌<◌, ◌≤◌, ◌⊎◌, inl, inr, ℕ, zero, suc, ◌+◌, false, true, List, length, Some, None, sym, ap, ◌∙◌, subst, arith, add-one}
use Rattle.std.proofs.lemmas.Option.{slice_get_within}
use Rattle.kmipa_check.specs.Steps.{StepOf}
use Rattle.kmipa_orders.specs.Next.{IsNext}
use Rattle.kmipa_orders.specs.Progress.{IsNextFrom}
use Rattle.kmipa_orders.specs.Links.{at}
use Rattle.kmipa_orders.specs.Ranks.{IsRanked, InAnyOrder}
use Rattle.kmipa_orders.specs.Remaining.{IsCursor}
use Rattle.kmipa_orders.specs.Tries.{IsTried, closed, ahead, wished, IsPick, IsPicked, IsPreferred, IsOpenCall, IsFirst, IsBest, IsBetter, IsPassed, IsBestTill}
use Rattle.kmipa_orders.specs.declared.ranks.Ranks.{Ranks}
use Rattle.kmipa_orders.specs.declared.tried.Tried.{Tried}

pub lower : (a b : ℕ) → (b < a) ⊎ (a ≤ b)
lower zero b = inr (omega arith)
lower (suc a) zero = inl (omega arith)
lower (suc a) (suc b) = elim (lower a b) [ inl l ↦ inl (omega (arith, l)) | inr r ↦ inr (omega (arith, r)) ]

-- all were tried up to a call that begins there, or is wished so much
abbrev pub begun_behind : Tried → ℕ → Tried
begun_behind t p = record { from = p + 1; done = t.done; closed = false }

abbrev pub wished_to : Tried → ℕ → Tried
wished_to t rank = record { from = t.from; done = rank; closed = false }

module _ (calls : List StepOf) (taken wishes : List ℕ) (t : Tried) where
  next_within : (p : ℕ) → IsNext calls taken p → p < length calls
  next_within p n = slice_get_within calls p n.call n.there

  -- what stands after the calls that were tried is open
  opened : t.closed ≡ false → (q : ℕ) → IsNext calls taken q → IsTried wishes t q ⊎ IsOpenCall calls taken wishes t q
  opened o q n = elim (lower t.from q) [
    | inl l ↦ inl (ahead l)
    | inr f ↦ elim (lower (at wishes q) t.done) [ inl l ↦ inr (record { next = n; from = f; rank = l }) | inr r ↦ inl (wished r) ]
  ]

  not_tried : t.closed ≡ false → (q : ℕ) → IsOpenCall calls taken wishes t q → IsTried wishes t q → ⊥
  not_tried o q c (closed is) = let clash : true ≡ false = sym is ∙ o in absurd cc
  not_tried o q c (ahead less) = omega (arith, less, c.from)
  not_tried o q c (wished less) = omega (arith, less, c.rank)

  -- none is left
  pub picked_none : t.closed ≡ false → IsFirst calls taken wishes t None → IsPicked calls taken wishes t None
  picked_none o none q n = elim (opened o q n) [ inl h ↦ h | inr c ↦ absurd (none q c) ]

  -- the first one
  pub picked_first : t.closed ≡ false → (p : ℕ) → IsFirst calls taken wishes t (Some p) → IsPick calls taken wishes t p (begun_behind t p)
  picked_first o p f = record {
    next = f.0.next;
    fresh = not_tried o p f.0;
    tried = ahead (omega arith);
    more = λ q h. more q h;
    only = λ q n h. only q n h;
    cursor = inr (p, add-one p, f.0.next);
  }
    where
      more : (q : ℕ) → IsTried wishes t q → IsTried wishes (begun_behind t p) q
      more q (closed is) = let clash : true ≡ false = sym is ∙ o in absurd cc
      more q (ahead less) = ahead (let low = f.0.from in omega (arith, less, low))
      more q (wished less) = wished less

      only : (q : ℕ) → IsNext calls taken q → IsTried wishes (begun_behind t p) q → IsTried wishes t q ⊎ (q ≡ p)
      only q n (closed is) = absurd cc
      only q n (wished less) = inl (wished less)
      only q n (ahead less) = elim (opened o q n) [
        | inl h ↦ inl h
        | inr c ↦ elim (lower p q) [ inl l ↦ absurd (f.1 q c l) | inr r ↦ inr (omega (arith, r, less)) ]
      ]

  -- the one that is wished most
  pub picked_best : (w : Ranks) → w.rank.items ≡ wishes → IsPreferred (length calls) w → t.closed ≡ false → IsCursor calls taken t.from → (p : ℕ) → p < length calls → IsBest calls taken wishes t p
      → IsPick calls taken wishes t p (wished_to t (at wishes p))
  picked_best w same preferred o cursor p below best =
      let b = best below in
      record {
        next = b.0.next;
        fresh = not_tried o p b.0;
        tried = wished (omega arith);
        more = λ q h. more q h;
        only = λ q n h. only q n h;
        cursor = cursor;
      }
    where
      more : (q : ℕ) → IsTried wishes t q → IsTried wishes (wished_to t (at wishes p)) q
      more q (closed is) = let clash : true ≡ false = sym is ∙ o in absurd cc
      more q (ahead less) = ahead less
      more q (wished less) = wished (let high = (best below).0.rank in omega (arith, less, high))

      one : (q : ℕ) → q < length calls → at wishes q ≡ at wishes p → q ≡ p
      one q inside e =
          let P : List ℕ → Type 0 = λ ws. at ws q ≡ at ws p in
          let r : at w.rank.items q ≡ at w.rank.items p = subst P (sym same) e in
          sym (preferred q inside).1 ∙ ap (at w.order.items) r ∙ (preferred p below).1

      only : (q : ℕ) → IsNext calls taken q → IsTried wishes (wished_to t (at wishes p)) q → IsTried wishes t q ⊎ (q ≡ p)
      only q n (closed is) = absurd cc
      only q n (ahead less) = inl (ahead less)
      only q n (wished less) = elim (opened o q n) [
        | inl h ↦ inl h
        | inr c ↦ let least = (best below).1 q c in inr (one q (next_within q n) (omega (arith, less, least)))
      ]

  -- ---- one call after the other

  pub passed_begins : IsCursor calls taken t.from → IsPassed calls taken wishes t t.from
  passed_begins cursor = record { cursor = cursor; onward = omega arith; none = λ q c less. let low = c.from in omega (arith, less, low) }

  module _ (from : ℕ) (h : IsPassed calls taken wishes t from) where
    pub passed_end : IsNextFrom calls taken from None → IsFirst calls taken wishes t None
    passed_end none q c = elim (lower from q) [ inl l ↦ h.none q c l | inr r ↦ none q r c.next ]

    pub passed_all : length calls ≤ from → IsFirst calls taken wishes t None
    passed_all all q c = h.none q c (let inside = next_within q c.next in omega (arith, inside, all))

    pub passed_found : (p : ℕ) → IsNextFrom calls taken from (Some p) → t.done < at wishes p → IsFirst calls taken wishes t (Some p)
    passed_found p f high = (
      record { next = f.1; from = (let a = h.onward in let b = f.0 in omega (arith, a, b)); rank = high },
      λ q c less. elim (lower from q) [ inl l ↦ h.none q c l | inr r ↦ f.2 q r less c.next ],
    )

    pub passed_on : (p : ℕ) → IsNextFrom calls taken from (Some p) → at wishes p ≤ t.done → IsPassed calls taken wishes t (p + 1)
    passed_on p f low = record {
      cursor = inr (p, add-one p, f.1);
      onward = (let a = h.onward in let b = f.0 in omega (arith, a, b));
      none = λ q c less. elim (lower from q) [
        | inl l ↦ h.none q c l
        | inr r ↦ elim (lower p q) [
          | inl l ↦ f.2 q r l c.next
          | inr high ↦
              let e : q ≡ p = omega (arith, high, less) in
              let P : ℕ → Type 0 = λ k. t.done < at wishes k in
              let over : t.done < at wishes p = subst P e c.rank in
              omega (arith, over, low)
        ]
      ];
    }

  pub best_begins : IsCursor calls taken t.from → IsBestTill calls taken wishes t t.from (length calls)
  best_begins cursor = record {
    cursor = cursor;
    onward = omega arith;
    stands = λ less. absurd (omega (arith, less));
    least = λ q c less. absurd (let low = c.from in omega (arith, less, low));
  }

  module _ (from best : ℕ) (h : IsBestTill calls taken wishes t from best) where
    pub best_end : IsNextFrom calls taken from None → IsBest calls taken wishes t best
    best_end none below = (h.stands below, λ q c. elim (lower from q) [ inl l ↦ (h.least q c l).1 | inr r ↦ absurd (none q r c.next) ])

    pub best_all : length calls ≤ from → IsBest calls taken wishes t best
    best_all all below = (h.stands below, λ q c. (h.least q c (let inside = next_within q c.next in omega (arith, inside, all))).1)

    pub best_on : (p b : ℕ) → IsNextFrom calls taken from (Some p) → IsBetter wishes (length calls) t.done best p b → IsBestTill calls taken wishes t (p + 1) b
    best_on p b f (inl (is, high, less)) =
        let P : ℕ → Type 0 = λ k. IsBestTill calls taken wishes t (p + 1) k in
        subst P (sym is) (record {
          cursor = inr (p, add-one p, f.1);
          onward = (let a = h.onward in let c = f.0 in omega (arith, a, c));
          stands = λ inside. record { next = f.1; from = (let a = h.onward in let c = f.0 in omega (arith, a, c)); rank = high };
          least = λ q c within. (
            next_within p f.1,
            elim (lower from q) [
              | inl l ↦ let k = h.least q c l in let under = less k.0 in let over = k.1 in omega (arith, under, over)
              | inr r ↦ elim (lower p q) [
                | inl l ↦ absurd (f.2 q r l c.next)
                | inr top ↦ let e : q ≡ p = omega (arith, top, within) in let P2 : ℕ → Type 0 = λ k. at wishes p ≤ at wishes k in subst P2 (sym e) (omega arith)
              ]
            ],
          );
        })
    best_on p b f (inr (is, cases)) =
        let P : ℕ → Type 0 = λ k. IsBestTill calls taken wishes t (p + 1) k in
        subst P (sym is) (record {
          cursor = inr (p, add-one p, f.1);
          onward = (let a = h.onward in let c = f.0 in omega (arith, a, c));
          stands = h.stands;
          least = λ q c within. elim (lower from q) [
            | inl l ↦ h.least q c l
            | inr r ↦ elim (lower p q) [
              | inl l ↦ absurd (f.2 q r l c.next)
              | inr top ↦
                  let e : q ≡ p = omega (arith, top, within) in
                  let Q : ℕ → Type 0 = λ k. t.done < at wishes k in
                  let R : ℕ → Type 0 = λ k. (best < length calls) × (at wishes best ≤ at wishes k) in
                  elim cases [ inl low ↦ absurd (let over : t.done < at wishes p = subst Q e c.rank in omega (arith, over, low)) | inr both ↦ subst R (sym e) both ]
            ]
          ];
        })

-- ---- the ranks

pub preferred : (count : ℕ) (w : Ranks) → IsRanked count InAnyOrder w.order.items w.rank.items → IsPreferred count w
preferred count w r p below = let q = r.placed p below in (q.0, q.2)

pub wishes_above : (count long : ℕ) (w : Ranks) → long ≡ count → IsRanked count InAnyOrder w.order.items w.rank.items → (p : ℕ) → p < long → 0 < at w.rank.items p
wishes_above count long w same r p below = (r.placed p (omega (arith, below, same))).0
