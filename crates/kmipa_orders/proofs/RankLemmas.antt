-- Which call is next, by the lines.
use Rattle.std.proofs.Common.{◌≡◌, ◌≢◌, ◌<◌, ◌≤◌, ◌<ℤ◌, ◌≤ℤ◌, ◌⊎◌, inl, inr, ℕ, ℤ, pos, negsuc, Bool, true, false, not, cond, ◌&&◌, nat_lt, List, [], ◌∷◌, length, Option, Some, None, slice_get, Contains, refl, sym, ap, ◌∙◌, subst, arith}
use Rattle.std.specs.Prelude.{int_le}
use Rattle.std.specs.Int.Signed.{clash_ℤ, <ℤ-≤ℤ_trans, ≤ℤ_refl, le_z_yes}
use Rattle.std.proofs.lemmas.Int.{by_lt_z}
use Rattle.std.proofs.Math.Facts.{yes_leb, ltb_yes}
use Rattle.std.proofs.lemmas.Option.{slice_get_within, slice_get-get_or, get_or_from_slice_get}
use Rattle.std.proofs.lemmas.Float.{T_from_true}
use Rattle.std.proofs.lemmas.Bool.{lt-ltb, ltb-true}
use Rattle.kmipa_check.specs.Steps.{StepOf}
use Rattle.kmipa_orders.specs.Taken.{no_step, step_at}
use Rattle.kmipa_check.specs.Runs.{Before, EndsAhead}
use Rattle.kmipa_orders.specs.Next.{IsNext}
use Rattle.kmipa_orders.specs.Progress.{AreBegun, IsNextFrom}
use Rattle.kmipa_orders.specs.Remaining.{IsCursor}
use Rattle.kmipa_orders.specs.Links.{at, IsAfter, AreLinked, before_with, after_without, before_without}
use Rattle.kmipa_orders.specs.Ranks.{IsRanked, ByStamp, ByEnd, LeftRank, WereLinked, rank_from, allows, end_of, AreEnded}
use Rattle.kmipa_orders.proofs.NextLemmas.{call_of_next}
use Rattle.kmipa_orders.proofs.LinksLemmas.{which, links_same, links_without, after_again, before_again}
use Rattle.kmipa_orders.proofs.PlaceLemmas.{one_cases, has_head}
use Rattle.kmipa_orders.proofs.NextTestLemmas.{both_true, true_of}
use Rattle.std.proofs.lemmas.List.Elements.{Contains-append_right}

pub over : {x y z : ℤ} → x ≤ℤ y → y ≤ℤ z → x ≤ℤ z
over {x} {y} {z} p q = by_lt_z z x (λ h. clash_ℤ (<ℤ-≤ℤ_trans h p) q) (λ h. h)

one_false : (a b : Bool) → (a && b) ≡ false → (a ≡ false) ⊎ (b ≡ false)
one_false true b h = inr h
one_false false b h = inl refl

true_from_not : (a : Bool) → not a ≡ false → a ≡ true
true_from_not true h = refl
true_from_not false h = absurd cc

less_least : (x y : ℤ) → x <ℤ y → x ≤ℤ y
less_least (pos m) (pos n) p = le_z_yes (yes_leb (omega (arith, ltb_yes p.lt)))
less_least (pos m) (negsuc n) p = absurd p.lt
less_least (negsuc m) (pos n) p = le_z_yes tt
less_least (negsuc m) (negsuc n) p = le_z_yes (yes_leb (omega (arith, ltb_yes p.lt)))

pub by_stamp_least : (calls : List StepOf) (p q : ℕ) → (p ≡ q) ⊎ ByStamp calls p q → (step_at calls p).response.stamp ≤ℤ (step_at calls q).response.stamp
by_stamp_least calls p q (inl e) = let P : ℕ → Type 0 = λ k. (step_at calls p).response.stamp ≤ℤ (step_at calls k).response.stamp in subst P e (≤ℤ_refl (step_at calls p).response.stamp)
by_stamp_least calls p q (inr g) = elim g [
  | inl less ↦ less_least (step_at calls p).response.stamp (step_at calls q).response.stamp less
  | inr same ↦ let P : ℤ → Type 0 = λ z. (step_at calls p).response.stamp ≤ℤ z in subst P same.0 (≤ℤ_refl (step_at calls p).response.stamp)
]

-- ---- one line

module _ (count : ℕ) (rank : List ℕ) where
  pub linked_now : (taken A B : List ℕ) → WereLinked count rank taken A B → AreLinked count (LeftRank count rank taken) A B
  linked_now [] A B l = l
  linked_now (p ∷ taken) A B l = l.0

  module _ (Le : ℕ → ℕ → Type 0) (order : List ℕ) (ranked : IsRanked count Le order rank) where
    pub same_place : (p q : ℕ) → p < count → q < count → at rank p ≡ at rank q → p ≡ q
    same_place p q a b e = sym (ranked.placed p a).2 ∙ ap (at order) e ∙ (ranked.placed q b).2

    -- a place that is left goes out
    pub linked_without : (p : ℕ) (taken A B : List ℕ) → p < count → (Contains taken p → ⊥) → WereLinked count rank taken A B
        → WereLinked count rank (p ∷ taken) (after_without A B (at rank p)) (before_without A B (at rank p))
    linked_without p taken A B below left l =
        let line = linked_now taken A B l in
        let x = at rank p in
        let there : LeftRank count rank taken x = (p, below, refl, left) in
        let P : List ℕ → Type 0 = λ a. WereLinked count rank taken a (before_with (after_without A B x) (before_without A B x) x) in
        let Q : List ℕ → Type 0 = λ b. WereLinked count rank taken A b in (
          links_same count (λ k. LeftRank count rank taken k × (k ≢ x)) (LeftRank count rank (p ∷ taken)) (after_without A B x) (before_without A B x)
              (λ k h. (h.0.0, h.0.1, h.0.2, λ c. elim (one_cases p h.0.0 taken c) [ inl e ↦ h.1 (sym h.0.2 ∙ ap (at rank) (sym e)) | inr t ↦ h.0.3 t ]))
              (λ k h. (
                (h.0, h.1, h.2, λ c. h.3 (Contains-append_right (p ∷ []) taken h.0 c)),
                λ e.
                    let P2 : ℕ → Type 0 = λ n. Contains (p ∷ taken) n in
                    h.3 (subst P2 (same_place p h.0 below h.1 (sym e ∙ sym h.2)) (has_head p taken)),
              ))
              (links_without count (LeftRank count rank taken) A B line x there),
          subst P (sym (after_again count (LeftRank count rank taken) A B line x there)) (subst Q (sym (before_again count (LeftRank count rank taken) A B line x there)) l),
        )

    -- the next rank of the line after one
    module _ (taken A B : List ℕ) (line : AreLinked count (LeftRank count rank taken) A B) (i : ℕ) (stands : LeftRank count rank taken i ⊎ (i ≡ 0)) where
      after : IsAfter count (LeftRank count rank taken) i (at A i)
      after = line.afters i stands

      -- none that is left stands between
      pub not_between : (q : ℕ) → q < count → (Contains taken q → ⊥) → i < at rank q → at A i ≤ at rank q
      not_between q below left more = elim (which (at rank q) (at A i)) [
        | inl less ↦ absurd (after.none (at rank q) (q, below, refl, left) more less)
        | inr g ↦ elim g [ inl e ↦ omega (arith, e) | inr h ↦ omega (arith, h) ]
      ]

      -- and it is one that is left
      pub left_place : at A i ≤ count → (at order (at A i) < count) × (at rank (at order (at A i)) ≡ at A i) × (Contains taken (at order (at A i)) → ⊥)
      left_place within = elim after.stands [
        | inl l ↦
            let e : l.0 ≡ at order (at A i) = sym (ranked.placed l.0 l.1).2 ∙ ap (at order) l.2 in
            let P : ℕ → Type 0 = λ p. (p < count) × (at rank p ≡ at A i) × (Contains taken p → ⊥) in
            subst P e (l.1, l.2, l.3)
        | inr z ↦ absurd (omega (arith, z, within))
      ]

    -- a place that stands there or before
    pub ranked_from : (p q : ℕ) → p < count → q < count → at rank p ≤ at rank q → (p ≡ q) ⊎ Le p q
    ranked_from p q a b h = elim (which (at rank p) (at rank q)) [
      | inl less ↦ inr (ranked.sorted p q a b less)
      | inr g ↦ elim g [ inl e ↦ inl (same_place p q a b e) | inr more ↦ absurd (omega (arith, h, more)) ]
    ]

-- ---- ends

pub before_less : (a b : StepOf) → a.end ≡ Some (end_of a) → Before a b → end_of a < b.begin
before_less a b is before = let P : Option ℕ → Type 0 = λ e. EndsAhead e b.begin in subst P is before

pub less_before : (a b : StepOf) → a.end ≡ Some (end_of a) → end_of a < b.begin → Before a b
less_before a b is less = let P : Option ℕ → Type 0 = λ e. EndsAhead e b.begin in subst P (sym is) less

-- ---- both lists

module _ (calls : List StepOf) (taken order rank A B ends place C D : List ℕ)
    (by_stamp : IsRanked (length calls) (ByStamp calls) order rank) (by_end : IsRanked (length calls) (ByEnd calls) ends place)
    (stamps : AreLinked (length calls) (LeftRank (length calls) rank taken) A B) (closes : AreLinked (length calls) (LeftRank (length calls) place taken) C D) (ended : AreEnded calls) where
  here_at : (p : ℕ) → p < length calls → slice_get calls p ≡ Some (step_at calls p)
  here_at p below = slice_get-get_or calls p no_step below

  -- a next call has the least stamp, and none ended before it
  below_next : (q : ℕ) → IsNext calls taken q → q < length calls
  below_next q n = slice_get_within calls q n.call n.there

  next_least : (q p : ℕ) → IsNext calls taken q → p < length calls → (Contains taken p → ⊥) → (step_at calls q).response.stamp ≤ℤ (step_at calls p).response.stamp
  next_least q p n below left =
      let P : StepOf → Type 0 = λ c. c.response.stamp ≤ℤ (step_at calls p).response.stamp in
      subst P (sym (call_of_next calls taken q n)) (n.least p (step_at calls p) (here_at p below) left)

  next_first : (q p : ℕ) → IsNext calls taken q → p < length calls → (Contains taken p → ⊥) → Before (step_at calls p) (step_at calls q) → ⊥
  next_first q p n below left before =
      let P : StepOf → Type 0 = λ c. Before (step_at calls p) c in
      n.first p (step_at calls p) (here_at p below) left (subst P (call_of_next calls taken q n) before)

  -- where a next call stands before another of its stamp, so does its rank
  next_rank : (p q : ℕ) → IsNext calls taken p → IsNext calls taken q → p < q → at rank p < at rank q
  next_rank p q m n less = elim (which (at rank p) (at rank q)) [
    | inl h ↦ h
    | inr g ↦ elim g [
      | inl e ↦ absurd (omega (arith, less, same_place (length calls) rank (ByStamp calls) order by_stamp p q (below_next p m) (below_next q n) e))
      | inr h ↦ elim (by_stamp.sorted q p (below_next q n) (below_next p m) h) [
        | inl below ↦ absurd (clash_ℤ below (next_least p q m (below_next q n) n.left))
        | inr s ↦ absurd (omega (arith, s.1, less))
      ]
    ]
  ]

  -- the least stamp, and the least end
  abbrev pub h : ℕ
  h = at order (at A 0)

  abbrev pub s : ℕ
  s = at ends (at C 0)

  h_first : (q : ℕ) → q < length calls → (Contains taken q → ⊥) → at A 0 ≤ at rank q
  h_first q below left = not_between (length calls) rank (ByStamp calls) order by_stamp taken A B stamps 0 (inr refl) q below left (by_stamp.placed q below).0

  s_first : (q : ℕ) → q < length calls → (Contains taken q → ⊥) → at C 0 ≤ at place q
  s_first q below left = not_between (length calls) place (ByEnd calls) ends by_end taken C D closes 0 (inr refl) q below left (by_end.placed q below).0

  -- where a call is left, these are those of calls that are left
  module _ (p : ℕ) (inside : p < length calls) (free : Contains taken p → ⊥) where
    pub h_here : (h < length calls) × (at rank h ≡ at A 0) × (Contains taken h → ⊥)
    h_here = left_place (length calls) rank (ByStamp calls) order by_stamp taken A B stamps 0 (inr refl) (omega (arith, h_first p inside free, (by_stamp.placed p inside).1))

    pub s_here : (s < length calls) × (at place s ≡ at C 0) × (Contains taken s → ⊥)
    s_here = left_place (length calls) place (ByEnd calls) ends by_end taken C D closes 0 (inr refl) (omega (arith, s_first p inside free, (by_end.placed p inside).1))

    h_least : (q : ℕ) → q < length calls → (Contains taken q → ⊥) → (step_at calls h).response.stamp ≤ℤ (step_at calls q).response.stamp
    h_least q below left =
        by_stamp_least calls h q (ranked_from (length calls) rank (ByStamp calls) order by_stamp h q h_here.0 below (omega (arith, h_here.1, h_first q below left)))

    s_least : (q : ℕ) → q < length calls → (Contains taken q → ⊥) → end_of (step_at calls s) ≤ end_of (step_at calls q)
    s_least q below left =
        elim (ranked_from (length calls) place (ByEnd calls) ends by_end s q s_here.0 below (omega (arith, s_here.1, s_first q below left))) [
          | inl e ↦ omega (arith, ap (λ (k : ℕ). end_of (step_at calls k)) e)
          | inr l ↦ l
        ]

    -- it is next, where it has this stamp, and none of the others ended before it
    pub is_next_here : (step_at calls p).response.stamp ≤ℤ (step_at calls h).response.stamp → (end_of (step_at calls s) < (step_at calls p).begin → ⊥) → IsNext calls taken p
    is_next_here least none_ended = record {
      call = step_at calls p;
      there = here_at p inside;
      left = free;
      least = λ other d there left.
          let P : StepOf → Type 0 = λ x. (step_at calls p).response.stamp ≤ℤ x.response.stamp in
          subst P (get_or_from_slice_get calls other d no_step there) (over least (h_least other (slice_get_within calls other d there) left));
      first = λ other d there left before.
          let P : StepOf → Type 0 = λ x. Before x (step_at calls p) in
          let within = slice_get_within calls other d there in
          let b = before_less (step_at calls other) (step_at calls p) (ended other within) (subst P (sym (get_or_from_slice_get calls other d no_step there)) before) in
          none_ended (omega (arith, b, s_least other within left));
    }

    -- so says the test
    pub next_allowed : allows (step_at calls p) (step_at calls h) (step_at calls s) ≡ true → IsNext calls taken p
    next_allowed is =
        let t = both_true (int_le (step_at calls p).response.stamp (step_at calls h).response.stamp) (not (nat_lt (end_of (step_at calls s)) (step_at calls p).begin)) is in
        let n = t.1 in
        is_next_here (le_z_yes (T_from_true _ t.0)) (λ b. let e : nat_lt (end_of (step_at calls s)) (step_at calls p).begin ≡ true = lt-ltb (end_of (step_at calls s)) (step_at calls p).begin b in cc)

    pub next_refused : allows (step_at calls p) (step_at calls h) (step_at calls s) ≡ false → IsNext calls taken p → ⊥
    next_refused is n =
        elim (one_false (int_le (step_at calls p).response.stamp (step_at calls h).response.stamp) (not (nat_lt (end_of (step_at calls s)) (step_at calls p).begin)) is) [
          | inl a ↦
              let le = next_least p h n h_here.0 h_here.2 in
              let yes_is : int_le (step_at calls p).response.stamp (step_at calls h).response.stamp ≡ true = true_of _ le.le in
              let clash : true ≡ false = sym yes_is ∙ a in absurd cc
          | inr b ↦
              let past = ltb-true (end_of (step_at calls s)) (step_at calls p).begin (true_from_not (nat_lt (end_of (step_at calls s)) (step_at calls p).begin) b) in
              next_first p s n s_here.0 s_here.2 (less_before (step_at calls s) (step_at calls p) (ended s s_here.0) past)
        ]

  module _ (from : ℕ) (cursor : IsCursor calls taken from) where
    behind : LeftRank (length calls) rank taken (rank_from rank from) ⊎ (rank_from rank from ≡ 0)
    behind = elim cursor [
      | inl z ↦ inr (ap (rank_from rank) z)
      | inr q ↦
          let P : ℕ → Type 0 = λ k. LeftRank (length calls) rank taken (rank_from rank k) in
          inl (subst P (sym q.1) (q.0, below_next q.0 q.2, refl, q.2.left))
    ]

    -- each next call from there on stands after
    rank_behind : (q : ℕ) → from ≤ q → IsNext calls taken q → rank_from rank from < at rank q
    rank_behind q low n = elim cursor [
      | inl z ↦ let P : ℕ → Type 0 = λ k. rank_from rank k < at rank q in subst P (sym z) (by_stamp.placed q (below_next q n)).0
      | inr c ↦ let P : ℕ → Type 0 = λ k. rank_from rank k < at rank q in subst P (sym c.1) (next_rank c.0 q c.2 n (omega (arith, low, c.1)))
    ]

    abbrev pub j : ℕ
    j = at A (rank_from rank from)

    rank_least : (q : ℕ) → from ≤ q → IsNext calls taken q → j ≤ at rank q
    rank_least q low n = not_between (length calls) rank (ByStamp calls) order by_stamp taken A B stamps (rank_from rank from) behind q (below_next q n) n.left (rank_behind q low n)

    -- the line is at its end
    pub none_behind : length calls < j → IsNextFrom calls taken from None
    none_behind past q low n = omega (arith, past, rank_least q low n, (by_stamp.placed q (below_next q n)).1)

    module _ (within : j ≤ length calls) where
      abbrev pub p : ℕ
      p = at order j

      pub here : (p < length calls) × (at rank p ≡ j) × (Contains taken p → ⊥)
      here = left_place (length calls) rank (ByStamp calls) order by_stamp taken A B stamps (rank_from rank from) behind within

      -- each next call from there on is this one, or stands after it
      at_or_behind : (q : ℕ) → from ≤ q → IsNext calls taken q → (p ≡ q) ⊎ ByStamp calls p q
      at_or_behind q low n = ranked_from (length calls) rank (ByStamp calls) order by_stamp p q here.0 (below_next q n) (omega (arith, here.1, rank_least q low n))

      -- and has the same stamp
      not_less : (q : ℕ) → IsNext calls taken q → ByStamp calls p q → p < q
      not_less q n (inl less) = absurd (clash_ℤ less (next_least q p n here.0 here.2))
      not_less q n (inr same) = same.1

      module _ (least : (step_at calls p).response.stamp ≤ℤ (step_at calls h).response.stamp) (none_ended : end_of (step_at calls s) < (step_at calls p).begin → ⊥) where
        from_below : from ≤ p
        from_below = elim cursor [
          | inl z ↦ omega (arith, z)
          | inr q ↦
              let P : ℕ → Type 0 = λ k. rank_from rank k < j in
              let onward : at rank q.0 < j = subst P q.1 (stamps.afters (rank_from rank from) behind).onward in
              elim (by_stamp.sorted q.0 p (below_next q.0 q.2) here.0 (omega (arith, onward, here.1))) [
                | inl less ↦ absurd (clash_ℤ less (over least (h_least p here.0 here.2 q.0 (below_next q.0 q.2) q.2.left)))
                | inr same ↦ omega (arith, same.1, q.1)
              ]
        ]

        next_here : IsNextFrom calls taken from (Some p)
        next_here = (
          from_below,
          is_next_here p here.0 here.2 least none_ended,
          λ q low less n. elim (at_or_behind q low n) [
            | inl e ↦ omega (arith, e, less)
            | inr b ↦ omega (arith, not_less q n b, less)
          ],
        )

      not_least : int_le (step_at calls p).response.stamp (step_at calls h).response.stamp ≡ false → IsNextFrom calls taken from None
      not_least is q low n =
          let le = over (by_stamp_least calls p q (at_or_behind q low n)) (next_least q h n (h_here p here.0 here.2).0 (h_here p here.0 here.2).2) in
          let yes_is : int_le (step_at calls p).response.stamp (step_at calls h).response.stamp ≡ true = true_of _ le.le in
          cc

      not_open : AreBegun calls → end_of (step_at calls s) < (step_at calls p).begin → IsNextFrom calls taken from None
      not_open begun past q low n = elim (at_or_behind q low n) [
        | inl e ↦ next_first q s n (s_here p here.0 here.2).0 (s_here p here.0 here.2).2 (less_before (step_at calls s) (step_at calls q) (ended s (s_here p here.0 here.2).0) (omega (arith, past, ap (λ (k : ℕ). (step_at calls k).begin) e)))
        | inr b ↦ next_first q s n (s_here p here.0 here.2).0 (s_here p here.0 here.2).2 (less_before (step_at calls s) (step_at calls q) (ended s (s_here p here.0 here.2).0) (omega (arith, past, begun p q (not_less q n b) (below_next q n))))
      ]

      pub next_reported : AreBegun calls → (b : Bool) → allows (step_at calls p) (step_at calls h) (step_at calls s) ≡ b → IsNextFrom calls taken from (cond b (Some p) None)
      next_reported begun true is =
          let t = both_true (int_le (step_at calls p).response.stamp (step_at calls h).response.stamp) (not (nat_lt (end_of (step_at calls s)) (step_at calls p).begin)) is in
          let n = t.1 in
          next_here (le_z_yes (T_from_true _ t.0)) (λ b. let e : nat_lt (end_of (step_at calls s)) (step_at calls p).begin ≡ true = lt-ltb (end_of (step_at calls s)) (step_at calls p).begin b in cc)
      next_reported begun false is =
          elim (one_false (int_le (step_at calls p).response.stamp (step_at calls h).response.stamp) (not (nat_lt (end_of (step_at calls s)) (step_at calls p).begin)) is) [
            | inl a ↦ not_least a
            | inr b ↦ not_open begun (ltb-true (end_of (step_at calls s)) (step_at calls p).begin (true_from_not (nat_lt (end_of (step_at calls s)) (step_at calls p).begin) b))
          ]
