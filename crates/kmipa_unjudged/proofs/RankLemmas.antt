-- Operations by how often they were passed: each once, in order.
use Rattle.std.proofs.Common.{◌≡◌, ◌<◌, ◌≤◌, ◌+◌, ◌⊎◌, inl, inr, ◌∙◌, ◌==◌, ◌||◌, ◌&&◌, nat_lt, ℕ, Bool, true, false, if◌then◌else◌, refl, sym, ap, subst, List, [], ◌∷◌, arith}
use Rattle.std.proofs.lemmas.Bool.{eq-eqb, eqb-true, lt-ltb, ltb-true, ltb-false}
use Rattle.kmipa_unjudged.specs.Laws.{AreCounted, AreOrdered, IsAheadOfAll, RanksAreRight}
use Rattle.kmipa_unjudged.specs.Ranking.{has_operation, is_ahead, put, ranks_from, times, with_rank}
use Rattle.kmipa_unjudged.specs.declared.rank.Rank.{Rank}

-- ---- what is ahead

abbrev Ahead : Rank → Rank → Type 0
Ahead r s = (s.count < r.count) ⊎ ((r.count ≡ s.count) × (r.operation < s.operation))

ahead_is : (r s : Rank) → is_ahead r s ≡ true → Ahead r s
ahead_is r s e = by (nat_lt s.count r.count) (r.count == s.count) (nat_lt r.operation s.operation) refl refl refl e
  where
    by : (a b c : Bool) → nat_lt s.count r.count ≡ a → r.count == s.count ≡ b → nat_lt r.operation s.operation ≡ c → (a || (b && c)) ≡ true → Ahead r s
    by true b c ea eb ec h = inl (ltb-true s.count r.count ea)
    by false true true ea eb ec h = inr (eqb-true r.count s.count eb, ltb-true r.operation s.operation ec)
    by false true false ea eb ec h = let clash : false ≡ true = h in absurd cc
    by false false c ea eb ec h = let clash : false ≡ true = h in absurd cc

or_one : (a b : Bool) → a ≡ true → (a || b) ≡ true
or_one a b e = ap (λ (x : Bool). x || b) e

or_other : (a b : Bool) → b ≡ true → (a || b) ≡ true
or_other true b e = refl
or_other false b e = e

and_both : (a b : Bool) → a ≡ true → b ≡ true → (a && b) ≡ true
and_both a b e f = ap (λ (x : Bool). x && b) e ∙ f

is_ahead_by : (r s : Rank) → Ahead r s → is_ahead r s ≡ true
is_ahead_by r s (inl h) = or_one (nat_lt s.count r.count) ((r.count == s.count) && nat_lt r.operation s.operation) (lt-ltb s.count r.count h)
is_ahead_by r s (inr h) =
    or_other (nat_lt s.count r.count) ((r.count == s.count) && nat_lt r.operation s.operation)
    (and_both (r.count == s.count) (nat_lt r.operation s.operation) (eq-eqb r.count s.count h.0) (lt-ltb r.operation s.operation h.1))

ahead_on : (r s t : Rank) → Ahead r s → Ahead s t → Ahead r t
ahead_on r s t (inl h) (inl k) = inl (omega (arith, h, k))
ahead_on r s t (inl h) (inr k) = inl (let e = k.0 in omega (arith, h, e))
ahead_on r s t (inr h) (inl k) = inl (let e = h.0 in omega (arith, e, k))
ahead_on r s t (inr h) (inr k) = inr (h.0 ∙ k.0, let a = h.1 in let b = k.1 in omega (arith, a, b))

strictly : (a b : ℕ) → a ≤ b → a == b ≡ false → a < b
strictly a b le ne = by (nat_lt a b) refl
  where
    by : (c : Bool) → nat_lt a b ≡ c → a < b
    by true e = ltb-true a b e
    by false e =
        let ge = ltb-false a b e in
        let same : a ≡ b = omega (arith, le, ge) in
        let clash : false ≡ true = sym ne ∙ eq-eqb a b same in
        absurd cc

turned : (x y : ℕ) → y == x ≡ false → x == y ≡ false
turned x y e = by (x == y) refl
  where
    by : (c : Bool) → x == y ≡ c → c ≡ false
    by true f = sym (eq-eqb y x (sym (eqb-true x y f))) ∙ e
    by false f = refl

-- of two operations one is ahead
or_behind : (r s : Rank) → is_ahead r s ≡ false → s.operation == r.operation ≡ false → Ahead s r
or_behind r s e f = by (nat_lt s.count r.count) (r.count == s.count) (nat_lt r.operation s.operation) refl refl refl e
  where
    by : (a b c : Bool) → nat_lt s.count r.count ≡ a → r.count == s.count ≡ b → nat_lt r.operation s.operation ≡ c → (a || (b && c)) ≡ false → Ahead s r
    by true b c ea eb ec h = let clash : true ≡ false = h in absurd cc
    by false true true ea eb ec h = let clash : true ≡ false = h in absurd cc
    by false true false ea eb ec h = inr (sym (eqb-true r.count s.count eb), strictly s.operation r.operation (ltb-false r.operation s.operation ec) f)
    by false false c ea eb ec h = inl (strictly r.count s.count (ltb-false s.count r.count ea) eb)

ahead_of_all : (r s : Rank) (ss : List Rank) → is_ahead r s ≡ true → IsAheadOfAll s ss → IsAheadOfAll r ss
ahead_of_all r s [] e h = tt
ahead_of_all r s (t ∷ ss) e h = (is_ahead_by r t (ahead_on r s t (ahead_is r s e) (ahead_is s t h.0)), ahead_of_all r s ss e h.1)

-- ---- one more

ahead_put : (s r : Rank) (ss : List Rank) → is_ahead s r ≡ true → IsAheadOfAll s ss → IsAheadOfAll s (put r ss)
ahead_put s r [] e h = (e, tt)
ahead_put s r (t ∷ ss) e h = elim (is_ahead r t) as (λ b. IsAheadOfAll s (if b then r ∷ t ∷ ss else t ∷ put r ss)) [
  | true ↦ (e, h)
  | false ↦ (h.0, ahead_put s r ss e h.1)
]

put_ordered : (r : Rank) (ss : List Rank) → has_operation ss r.operation ≡ false → AreOrdered ss → AreOrdered (put r ss)
put_ordered r [] new o = (tt, tt)
put_ordered r (s ∷ ss) new o = by (is_ahead r s) (s.operation == r.operation) refl refl new (λ h. put_ordered r ss h o.1)
  where
    by : (a b : Bool) → is_ahead r s ≡ a → s.operation == r.operation ≡ b → (b || has_operation ss r.operation) ≡ false
        → (has_operation ss r.operation ≡ false → AreOrdered (put r ss)) → AreOrdered (if a then r ∷ s ∷ ss else s ∷ put r ss)
    by a true ea eb h rest = let clash : true ≡ false = h in absurd cc
    by true false ea eb h rest = ((ea, ahead_of_all r s ss ea o.0), o)
    by false false ea eb h rest = (ahead_put s r ss (is_ahead_by s r (or_behind r s ea eb)) o.0, rest h)

put_counted : (ns : List ℕ) (r : Rank) (ss : List Rank) → r.count ≡ times r.operation ns → AreCounted ns ss → AreCounted ns (put r ss)
put_counted ns r [] e h = (e, tt)
put_counted ns r (s ∷ ss) e h = elim (is_ahead r s) as (λ b. AreCounted ns (if b then r ∷ s ∷ ss else s ∷ put r ss)) [
  | true ↦ (e, h)
  | false ↦ (h.0, put_counted ns r ss e h.1)
]

put_has : (r : Rank) (ss : List Rank) (n : ℕ) → has_operation ss n ≡ true → has_operation (put r ss) n ≡ true
put_has r [] n h = let clash : false ≡ true = h in absurd cc
put_has r (s ∷ ss) n h = elim (is_ahead r s) as (λ b. has_operation (if b then r ∷ s ∷ ss else s ∷ put r ss) n ≡ true) [
  | true ↦ or_other (r.operation == n) (has_operation (s ∷ ss) n) h
  | false ↦ by (s.operation == n) h (λ k. put_has r ss n k)
]
  where
    by : (a : Bool) → (a || has_operation ss n) ≡ true → (has_operation ss n ≡ true → has_operation (put r ss) n ≡ true) → (a || has_operation (put r ss) n) ≡ true
    by true e rest = refl
    by false e rest = rest e

put_here : (r : Rank) (ss : List Rank) → has_operation (put r ss) r.operation ≡ true
put_here r [] = or_one (r.operation == r.operation) false (eq-eqb r.operation r.operation refl)
put_here r (s ∷ ss) = elim (is_ahead r s) as (λ b. has_operation (if b then r ∷ s ∷ ss else s ∷ put r ss) r.operation ≡ true) [
  | true ↦ or_one (r.operation == r.operation) (has_operation (s ∷ ss) r.operation) (eq-eqb r.operation r.operation refl)
  | false ↦ or_other (s.operation == r.operation) (has_operation (put r ss) r.operation) (put_here r ss)
]

-- ---- all

-- those of some of these numbers
record Ranked (all : List ℕ) (rs : List Rank) : Type 0 where
  counted : AreCounted all rs
  ordered : AreOrdered rs

rank_more : (all : List ℕ) (rs : List Rank) (n : ℕ) → Ranked all rs → Ranked all (with_rank all rs n)
rank_more all rs n h = by (has_operation rs n) refl
  where
    by : (b : Bool) → has_operation rs n ≡ b → Ranked all (if b then rs else put (record { operation = n; count = times n all }) rs)
    by true e = h
    by false e =
        let one : Rank = record { operation = n; count = times n all } in
        record { counted = put_counted all one rs refl h.counted; ordered = put_ordered one rs e h.ordered }

rank_keeps : (all : List ℕ) (rs : List Rank) (n m : ℕ) → has_operation rs m ≡ true → has_operation (with_rank all rs n) m ≡ true
rank_keeps all rs n m h = elim (has_operation rs n) as (λ b. has_operation (if b then rs else put (record { operation = n; count = times n all }) rs) m ≡ true) [
  | true ↦ h
  | false ↦ put_has (record { operation = n; count = times n all }) rs m h
]

rank_here : (all : List ℕ) (rs : List Rank) (n : ℕ) → has_operation (with_rank all rs n) n ≡ true
rank_here all rs n = by (has_operation rs n) refl
  where
    by : (b : Bool) → has_operation rs n ≡ b → has_operation (if b then rs else put (record { operation = n; count = times n all }) rs) n ≡ true
    by true e = e
    by false e = put_here (record { operation = n; count = times n all }) rs

all_ranked : (all ns : List ℕ) (rs : List Rank) → Ranked all rs → Ranked all (ranks_from all rs ns)
all_ranked all [] rs h = h
all_ranked all (n ∷ ns) rs h = all_ranked all ns (with_rank all rs n) (rank_more all rs n h)

all_keep : (all ns : List ℕ) (rs : List Rank) (m : ℕ) → has_operation rs m ≡ true → has_operation (ranks_from all rs ns) m ≡ true
all_keep all [] rs m h = h
all_keep all (n ∷ ns) rs m h = all_keep all ns (with_rank all rs n) m (rank_keeps all rs n m h)

-- each that stands among them
all_there : (all ns : List ℕ) (rs : List Rank) (n : ℕ) → 0 < times n ns → has_operation (ranks_from all rs ns) n ≡ true
all_there all [] rs n h = absurd (omega (arith, h))
all_there all (m ∷ ms) rs n h = by (m == n) refl h (λ k. all_there all ms (with_rank all rs m) n k)
  where
    by : (b : Bool) → m == n ≡ b → 0 < (if b then times n ms + 1 else times n ms)
        → (0 < times n ms → has_operation (ranks_from all (with_rank all rs m) ms) n ≡ true) → has_operation (ranks_from all (with_rank all rs m) ms) n ≡ true
    by true e k rest =
        let P : ℕ → Type 0 = λ x. has_operation (with_rank all rs m) x ≡ true in
        all_keep all ms (with_rank all rs m) n (subst P (eqb-true m n e) (rank_here all rs m))
    by false e k rest = rest k

pub ranks_right : RanksAreRight
ranks_right ns =
    let r = all_ranked ns ns [] (record { counted = tt; ordered = tt }) in
    record { counted = r.counted; all = all_there ns ns []; ordered = r.ordered }
