-- Calls that begin, end, and are let go.
use Rattle.std.proofs.Common.{◌≡◌, ◌≢◌, ◌<◌, ◌⊎◌, inl, inr, ℕ, zero, suc, ◌+◌, ℤ, Bool, true, false, List, [], ◌∷◌, ◌++◌, length, map, take, drop, Option, Some, None, slice_get, refl, sym, ap, ◌∙◌, subst, arith}
use Rattle.std.proofs.Math.ListN.{set}
use Rattle.std.proofs.lemmas.List.{append-nil, map-append, length-append}
use Rattle.std.proofs.lemmas.Bool.Decides.{Decides-int_eq}
use Rattle.std.specs.Ordering.{int_eq}
use Rattle.kmipa_record.specs.Marks.{MarkOf, begins, ends, begun, AreRecorded}
use Rattle.kmipa_record.specs.NumberMaps.{value_at, Sets, HasNone}
use Rattle.kmipa_record.proofs.MarkLemmas.{begun-append}
use Rattle.kmipa_check.specs.Calls.{HasBegin, HasEnd}
use Rattle.kmipa_check.proofs.PlaceLemmas.{at_contains, at_within, pushed_at}
use Rattle.kmipa_check.proofs.RecordedLemmas.{cut}
use Rattle.kmipa_stream.specs.Ahead.{IsAhead}
use Rattle.kmipa_stream.specs.Seeing.{EndsSo, HoldsBegin, HoldsEnd, HoldsSo, IsSeen, IsAt, IsNotedAt, AreSeen, released, AreHeld, HasCome, KeepReleased}
use Rattle.kmipa_stream.specs.declared.seen.SeenCall.{SeenCall}
use Rattle.kmipa_stream.specs.declared.seen.Held.{Held}
use Rattle.kmipa_stream.specs.declared.seen.Held.TheVariants.{Released, Open, Whole}
use Rattle.kmipa_stream.specs.declared.seen.Seen.{Seen}
use Rattle.kmipa_stream.proofs.ListLemmas.{grown_at, last_at, set_cases, set_here, set_other, set_mapped}
use Rattle.kmipa_stream.proofs.AheadLemmas.{begin_grows, end_grows, begin_ahead, end_ahead, closed_as}

-- ---- marks

begun_from : (marks : List MarkOf) (i : ℕ) (n : ℤ) → slice_get (begun marks) i ≡ Some n → (place : ℕ) × (client : List ℕ) × (asked : List ℕ) × (slice_get marks place ≡ Some (begins n client asked))
begun_from [] i n at = absurd cc
begun_from (begins m client asked ∷ marks) zero n at = let e : m ≡ n = cc in (0, client, asked, ap (λ (x : ℤ). Some (begins x client asked)) e)
begun_from (begins m client asked ∷ marks) (suc i) n at = let b = begun_from marks i n at in (suc b.0, b.1, b.2, b.3)
begun_from (ends m answered ∷ marks) i n at = let b = begun_from marks i n at in (suc b.0, b.1, b.2, b.3)

among : {X : Type 0} (xs : List X) (i j : ℕ) (x : X) → slice_get (take j xs) i ≡ Some x → (i < j) × (slice_get xs i ≡ Some x)
among [] i zero x at = absurd cc
among [] i (suc j) x at = absurd cc
among (y ∷ xs) i zero x at = absurd cc
among (y ∷ xs) zero (suc j) x at = (omega arith, at)
among (y ∷ xs) (suc i) (suc j) x at = let p = among xs i j x at in (omega (arith, p.0), p.1)

-- a call that ends has begun
pub has_begun : (marks : List MarkOf) (n : ℤ) (end : ℕ) (answered : List ℕ) → AreRecorded marks → HasEnd marks n end answered
    → (begin : ℕ) × (asked : List ℕ) × HasBegin marks n begin asked × (begin < end)
has_begun marks n end answered r h =
    let there = r.answered (take end marks) (drop (suc end) marks) n answered (cut marks end (ends n answered) h) in
    let at = at_contains (begun (take end marks)) n there.0 in
    let b = begun_from (take end marks) at.0 n at.1 in
    let q = among marks b.0 end (begins n b.1 b.2) b.3 in
    (b.0, b.2, record { client = b.1; there = q.1 }, q.0)

-- the last mark is the one that came
module _ (marks : List MarkOf) (mark : MarkOf) where
  pub begin_back : (n : ℤ) (begin : ℕ) (asked : List ℕ) → HasBegin (marks ++ mark ∷ []) n begin asked
      → HasBegin marks n begin asked ⊎ ((begin ≡ length marks) × ((client : List ℕ) × (mark ≡ begins n client asked)))
  begin_back n begin asked h = by (pushed_at marks mark begin (begins n h.client asked) h.there)
    where
      by : (slice_get marks begin ≡ Some (begins n h.client asked)) ⊎ ((begin ≡ length marks) × (mark ≡ begins n h.client asked))
          → HasBegin marks n begin asked ⊎ ((begin ≡ length marks) × ((client : List ℕ) × (mark ≡ begins n client asked)))
      by (inl at) = inl (record { client = h.client; there = at })
      by (inr p) = inr (p.0, (h.client, p.1))

  pub end_back : (n : ℤ) (end : ℕ) (answered : List ℕ) → HasEnd (marks ++ mark ∷ []) n end answered → HasEnd marks n end answered ⊎ ((end ≡ length marks) × (mark ≡ ends n answered))
  end_back n end answered h = pushed_at marks mark end (ends n answered) h

-- ---- one call

module _ (marks all : List MarkOf) (s : SeenCall) (begins_so : (asked : List ℕ) → HasBegin marks s.number s.begin asked → HasBegin all s.number s.begin asked)
    (ends_so : (end : ℕ) (answered : List ℕ) → HasEnd marks s.number end answered → HasEnd all s.number end answered) where
  held_on : (held : Held) → HoldsSo marks s held → HoldsSo all s held
  held_on Released h = tt
  held_on (Open asked) h = (record { at = begins_so asked.items h.0.at }, h.1)
  held_on (Whole asked answered) h = (record { at = begins_so asked.items h.0.at }, record { place = h.1.place; noted = h.1.noted; at = ends_so h.1.place answered.items h.1.at })

  ended_on : (end : Option ℕ) → (end ≡ None → EndsSo all s.number None) → EndsSo marks s.number end → EndsSo all s.number end
  ended_on None none h = none refl
  ended_on (Some end) none h = (h.0, ends_so end h.0 h.1)

  -- a call stays as it is noted, where it has not ended since
  pub seen_on : (s.end ≡ None → EndsSo all s.number None) → IsSeen marks s → IsSeen all s
  seen_on none i = record { asked = i.asked; begun = begins_so i.asked i.begun; ended = ended_on s.end none i.ended; held = held_on s.held i.held }

-- in each transcript ahead it is noted right, where all of it has come
whole_end : (marks : List MarkOf) (s : SeenCall) (held : Held) → HoldsSo marks s held → AreHeld held → (end : ℕ) × (s.end ≡ Some end)
whole_end marks s Released h are = absurd are
whole_end marks s (Open asked) h are = absurd are
whole_end marks s (Whole asked answered) h are = (h.1.place, h.1.noted)

pub seen_ahead : (closed : Bool) (marks all : List MarkOf) (s : SeenCall) → IsAhead closed marks all → HasCome closed s.held → IsSeen marks s → IsSeen all s
seen_ahead closed marks all s a (inl e) i =
    let P : List MarkOf → Type 0 = λ ms. IsSeen ms s in
    subst P (sym (closed_as closed marks all e a)) i
seen_ahead closed marks all s a (inr are) i =
    let w = whole_end marks s s.held i.held are in
    seen_on marks all s (λ asked h. begin_ahead closed marks all a s.number s.begin asked h) (λ end answered h. end_ahead closed marks all a s.number end answered h)
    (λ none. absurd (let e = w.1 in cc)) i

-- what is let go stays noted
pub seen_released : (marks : List MarkOf) (s : SeenCall) → IsSeen marks s → IsSeen marks (released s)
seen_released marks s i = record { asked = i.asked; begun = i.begun; ended = i.ended; held = tt }

-- ---- none

pub seen_none : (seen : Seen) → seen.calls.items ≡ [] → HasNone seen.places → seen.count ≡ 0 → AreSeen [] seen
seen_none seen e none zero_is = record {
  count = zero_is;
  numbers = ap (λ (calls : List SeenCall). map (λ (s : SeenCall). s.number) calls) e;
  each = λ place s at. absurd (let P : List SeenCall → Type 0 = λ l. slice_get l place ≡ Some s in let at' = subst P e at in cc);
  all = λ number begin asked h. absurd (let at = h.there in cc);
  known = λ number place is. absurd (let n = none.each number in cc);
  noted = λ place s at. absurd (let P : List SeenCall → Type 0 = λ l. slice_get l place ≡ Some s in let at' = subst P e at in cc);
}

-- ---- a call begins

module _ (marks : List MarkOf) (old new : Seen) (number : ℤ) (client asked : List ℕ) (s : SeenCall) (are : AreSeen marks old)
    (r : AreRecorded (marks ++ begins number client asked ∷ [])) (calls : new.calls.items ≡ old.calls.items ++ s ∷ []) (count : new.count ≡ old.count + 1)
    (free : value_at old.places number ≡ None) (sets : Sets old.places new.places number (length old.calls.items)) (number_is : s.number ≡ number)
    (begin_is : s.begin ≡ length marks) (end_is : s.end ≡ None) where
  no_begin : (begin : ℕ) (a : List ℕ) → HasBegin marks number begin a → ⊥
  no_begin begin a h =
      let n = are.all number begin a h in
      let v = are.noted n.0 n.1.0 n.1.1 in
      let P : ℤ → Type 0 = λ z. value_at old.places z ≡ Some n.0 in
      let w = subst P n.1.2 v in
      cc

  no_end : (end : ℕ) (answered : List ℕ) → HasEnd (marks ++ begins number client asked ∷ []) number end answered → ⊥
  no_end end answered h =
      let b = has_begun (marks ++ begins number client asked ∷ []) number end answered r h in
      let within = at_within (marks ++ begins number client asked ∷ []) end (ends number answered) h in
      let long = length-append marks (begins number client asked ∷ []) in
      elim (begin_back marks (begins number client asked) number b.0 b.1 b.2) [
        | inl x ↦ no_begin b.0 b.1 x
        | inr x ↦ omega (arith, x.0, b.3, within, long)
      ]

  others_end : (t : SeenCall) → EndsSo marks t.number None → EndsSo (marks ++ begins number client asked ∷ []) t.number None
  others_end t none end answered h = elim (end_back marks (begins number client asked) t.number end answered h) [ inl x ↦ none end answered x | inr x ↦ (let e = x.1 in absurd cc) ]

  grown : (t : SeenCall) → IsSeen marks t → IsSeen (marks ++ begins number client asked ∷ []) t
  grown t i =
      seen_on marks (marks ++ begins number client asked ∷ []) t (λ a h. begin_grows marks (begins number client asked ∷ []) t.number t.begin a h)
      (λ end answered h. end_grows marks (begins number client asked ∷ []) t.number end answered h)
      (λ e. let P : Option ℕ → Type 0 = λ o. EndsSo marks t.number o in others_end t (subst P e i.ended)) i

  here : HasBegin (marks ++ begins number client asked ∷ []) s.number s.begin asked
  here =
      let P : ℤ → Type 0 = λ z. slice_get (marks ++ begins number client asked ∷ []) (length marks) ≡ Some (begins z client asked) in
      let Q : ℕ → Type 0 = λ n. slice_get (marks ++ begins number client asked ∷ []) n ≡ Some (begins s.number client asked) in
      record { client = client; there = subst Q (sym begin_is) (subst P (sym number_is) (last_at marks (begins number client asked))) }

  pub begun_here : HoldsSo (marks ++ begins number client asked ∷ []) s s.held → IsSeen (marks ++ begins number client asked ∷ []) s
  begun_here held =
      let P : Option ℕ → Type 0 = λ o. EndsSo (marks ++ begins number client asked ∷ []) s.number o in
      let Q : ℤ → Type 0 = λ z. EndsSo (marks ++ begins number client asked ∷ []) z None in
      record { asked = asked; begun = here; ended = subst P (sym end_is) (subst Q (sym number_is) no_end); held = held }

  pub held_here : HoldsBegin (marks ++ begins number client asked ∷ []) s asked
  held_here = record { at = here }

  at_new : (place : ℕ) (t : SeenCall) → slice_get (old.calls.items ++ s ∷ []) place ≡ Some t → slice_get new.calls.items place ≡ Some t
  at_new place t at = let P : List SeenCall → Type 0 = λ l. slice_get l place ≡ Some t in subst P (sym calls) at

  at_old : (place : ℕ) (t : SeenCall) → slice_get new.calls.items place ≡ Some t → (slice_get old.calls.items place ≡ Some t) ⊎ ((place ≡ length old.calls.items) × (s ≡ t))
  at_old place t at = let P : List SeenCall → Type 0 = λ l. slice_get l place ≡ Some t in pushed_at old.calls.items s place t (subst P calls at)

  known_new : (n : ℤ) (place : ℕ) (b : Bool) → int_eq number n ≡ b → value_at new.places n ≡ Some place → IsAt new.calls.items place n
  known_new n place true e is =
      let same : number ≡ n = (Decides-int_eq number n).0 e in
      let P : ℤ → Type 0 = λ z. value_at new.places z ≡ Some place in
      let v = subst P (sym same) is in
      let w = sets.here in
      let at : place ≡ length old.calls.items = cc in
      let Q : ℕ → Type 0 = λ p. slice_get new.calls.items p ≡ Some s in
      (s, subst Q (sym at) (at_new (length old.calls.items) s (last_at old.calls.items s)), number_is ∙ same)
  known_new n place false e is =
      let differs : n ≢ number = λ same. absurd (let yes = (Decides-int_eq number n).1 (sym same) in cc) in
      let k = are.known n place (sym (sets.others n differs) ∙ is) in
      (k.0, at_new place k.0 (grown_at old.calls.items (s ∷ []) place k.0 k.1), k.2)

  noted_new : (place : ℕ) (t : SeenCall) → (slice_get old.calls.items place ≡ Some t) ⊎ ((place ≡ length old.calls.items) × (s ≡ t)) → value_at new.places t.number ≡ Some place
  noted_new place t (inl at) =
      let v = are.noted place t at in
      let differs : t.number ≢ number = λ same. absurd (let P : ℤ → Type 0 = λ z. value_at old.places z ≡ Some place in let w = subst P same v in cc) in
      sets.others t.number differs ∙ v
  noted_new place t (inr p) =
      let e : t.number ≡ number = ap (λ (x : SeenCall). x.number) (sym p.1) ∙ number_is in
      let P : ℤ → Type 0 = λ z. value_at new.places z ≡ Some place in
      subst P (sym e) (sets.here ∙ ap Some (sym p.0))

  pub seen_begin : IsSeen (marks ++ begins number client asked ∷ []) s → AreSeen (marks ++ begins number client asked ∷ []) new
  seen_begin i = record {
    count = count ∙ (let c = are.count in let l = length-append marks (begins number client asked ∷ []) in omega arith);
    numbers =
        ap (λ (l : List SeenCall). map (λ (t : SeenCall). t.number) l) calls ∙ map-append (λ (t : SeenCall). t.number) old.calls.items (s ∷ [])
        ∙ ap (λ (l : List ℤ). l ++ s.number ∷ []) are.numbers ∙ ap (λ (z : ℤ). begun marks ++ z ∷ []) number_is ∙ sym (begun-append marks (begins number client asked ∷ []));
    each = λ place t at. each place t (at_old place t at);
    all = λ n begin a h. noted n begin a (begin_back marks (begins number client asked) n begin a h);
    known = λ n place is. known_new n place (int_eq number n) refl is;
    noted = λ place t at. noted_new place t (at_old place t at);
  }
    where
      each : (place : ℕ) (t : SeenCall) → (slice_get old.calls.items place ≡ Some t) ⊎ ((place ≡ length old.calls.items) × (s ≡ t)) → IsSeen (marks ++ begins number client asked ∷ []) t
      each place t (inl at) = grown t (are.each place t at)
      each place t (inr p) = let P : SeenCall → Type 0 = λ x. IsSeen (marks ++ begins number client asked ∷ []) x in subst P p.1 i

      noted : (n : ℤ) (begin : ℕ) (a : List ℕ) → HasBegin marks n begin a ⊎ ((begin ≡ length marks) × ((c : List ℕ) × (begins number client asked ≡ begins n c a))) → IsNotedAt new.calls.items n begin
      noted n begin a (inl h) =
          let k = are.all n begin a h in
          (k.0, (k.1.0, at_new k.0 k.1.0 (grown_at old.calls.items (s ∷ []) k.0 k.1.0 k.1.1), k.1.2, k.1.3))
      noted n begin a (inr p) =
          let e = p.1.1 in
          let same : number ≡ n = cc in
          (length old.calls.items, (s, at_new (length old.calls.items) s (last_at old.calls.items s), number_is ∙ same, begin_is ∙ sym p.0))

-- ---- a call is noted anew

module _ (marks all : List MarkOf) (old new : Seen) (place : ℕ) (z s : SeenCall) (are : AreSeen marks old) (there : slice_get old.calls.items place ≡ Some z)
    (calls : new.calls.items ≡ set old.calls.items place s) (places : new.places ≡ old.places) (number_is : s.number ≡ z.number) (begin_is : s.begin ≡ z.begin) where
  put_here : slice_get new.calls.items place ≡ Some s
  put_here = let P : List SeenCall → Type 0 = λ l. slice_get l place ≡ Some s in subst P (sym calls) (set_here old.calls.items place s z there)

  put_cases : (other : ℕ) (t : SeenCall) → slice_get new.calls.items other ≡ Some t → ((other ≡ place) × (s ≡ t)) ⊎ ((other ≢ place) × (slice_get old.calls.items other ≡ Some t))
  put_cases other t at = let P : List SeenCall → Type 0 = λ l. slice_get l other ≡ Some t in set_cases old.calls.items place other s t (subst P calls at)

  -- what stood at a place has the same number and begin there still
  put_at : (other : ℕ) (t : SeenCall) → slice_get old.calls.items other ≡ Some t → (x : SeenCall) × (slice_get new.calls.items other ≡ Some x) × (x.number ≡ t.number) × (x.begin ≡ t.begin)
  put_at other t at = elim (Rattle.kmipa_check.proofs.PlaceLemmas.apart other place) [
    | inl h ↦ kept (λ e. omega (arith, e, h))
    | inr g ↦ elim g [
      | inl h ↦ kept (λ e. omega (arith, e, h))
      | inr e ↦ here e
    ]
  ]
    where
      kept : other ≢ place → (x : SeenCall) × (slice_get new.calls.items other ≡ Some x) × (x.number ≡ t.number) × (x.begin ≡ t.begin)
      kept differs = let P : List SeenCall → Type 0 = λ l. slice_get l other ≡ Some t in (t, subst P (sym calls) (set_other old.calls.items place other s t differs at), refl, refl)

      here : other ≡ place → (x : SeenCall) × (slice_get new.calls.items other ≡ Some x) × (x.number ≡ t.number) × (x.begin ≡ t.begin)
      here e =
          let P : ℕ → Type 0 = λ p. slice_get old.calls.items p ≡ Some t in
          let at' = subst P e at in
          let th = there in
          let same : z ≡ t = cc in
          let Q : ℕ → Type 0 = λ p. slice_get new.calls.items p ≡ Some s in
          (s, subst Q (sym e) put_here, number_is ∙ ap (λ (x : SeenCall). x.number) same, begin_is ∙ ap (λ (x : SeenCall). x.begin) same)

  pub seen_put : new.count ≡ length all → begun all ≡ begun marks → ((n : ℤ) (begin : ℕ) (asked : List ℕ) → HasBegin all n begin asked → HasBegin marks n begin asked)
      → ((other : ℕ) (t : SeenCall) → other ≢ place → slice_get old.calls.items other ≡ Some t → IsSeen all t) → IsSeen all s → AreSeen all new
  seen_put count same back others i = record {
    count = count;
    numbers = ap (λ (l : List SeenCall). map (λ (t : SeenCall). t.number) l) calls ∙ set_mapped (λ (t : SeenCall). t.number) old.calls.items place s z there number_is ∙ are.numbers ∙ sym same;
    each = λ other t at. each other t (put_cases other t at);
    all = λ n begin asked h. noted n begin (are.all n begin asked (back n begin asked h));
    known = λ n other is. known n other (let P : _ → Type 0 = λ m. value_at m n ≡ Some other in are.known n other (subst P places is));
    noted = λ other t at. let P : _ → Type 0 = λ m. value_at m t.number ≡ Some other in subst P (sym places) (value other t (put_cases other t at));
  }
    where
      each : (other : ℕ) (t : SeenCall) → ((other ≡ place) × (s ≡ t)) ⊎ ((other ≢ place) × (slice_get old.calls.items other ≡ Some t)) → IsSeen all t
      each other t (inl p) = let P : SeenCall → Type 0 = λ x. IsSeen all x in subst P p.1 i
      each other t (inr p) = others other t p.0 p.1

      noted : (n : ℤ) (begin : ℕ) → IsNotedAt old.calls.items n begin → IsNotedAt new.calls.items n begin
      noted n begin k = let x = put_at k.0 k.1.0 k.1.1 in (k.0, (x.0, x.1, x.2 ∙ k.1.2, x.3 ∙ k.1.3))

      known : (n : ℤ) (other : ℕ) → IsAt old.calls.items other n → IsAt new.calls.items other n
      known n other k = let x = put_at other k.0 k.1 in (x.0, x.1, x.2 ∙ k.2)

      value : (other : ℕ) (t : SeenCall) → ((other ≡ place) × (s ≡ t)) ⊎ ((other ≢ place) × (slice_get old.calls.items other ≡ Some t)) → value_at old.places t.number ≡ Some other
      value other t (inl p) =
          let e : t.number ≡ z.number = ap (λ (x : SeenCall). x.number) (sym p.1) ∙ number_is in
          let P : ℤ → Type 0 = λ n. value_at old.places n ≡ Some other in
          let Q : ℕ → Type 0 = λ o. value_at old.places z.number ≡ Some o in
          subst P (sym e) (subst Q (sym p.0) (are.noted place z there))
      value other t (inr p) = are.noted other t p.1

-- it is let go
pub seen_let_go : (marks : List MarkOf) (old new : Seen) (place : ℕ) (z : SeenCall) → slice_get old.calls.items place ≡ Some z → new.calls.items ≡ set old.calls.items place (released z)
    → new.places ≡ old.places → new.count ≡ old.count → AreSeen marks old → AreSeen marks new
seen_let_go marks old new place z there calls places count are =
    seen_put marks marks old new place z (released z) are there calls places refl refl (count ∙ are.count) refl (λ n begin asked h. h) (λ other t differs at. are.each other t at)
    (seen_released marks z (are.each place z there))

-- it ends
module _ (marks : List MarkOf) (old new : Seen) (place : ℕ) (z s : SeenCall) (number : ℤ) (answered : List ℕ) (are : AreSeen marks old) (there : slice_get old.calls.items place ≡ Some z)
    (known : value_at old.places number ≡ Some place) where
  end_alone : (other : ℕ) (t : SeenCall) → other ≢ place → slice_get old.calls.items other ≡ Some t → t.number ≢ number
  end_alone other t differs at same =
      let v = are.noted other t at in
      let P : ℤ → Type 0 = λ n. value_at old.places n ≡ Some other in
      let w = subst P same v in
      let k = known in
      differs cc

  others_on : (other : ℕ) (t : SeenCall) → other ≢ place → slice_get old.calls.items other ≡ Some t → IsSeen (marks ++ ends number answered ∷ []) t
  others_on other t differs at =
      let i = are.each other t at in
      let none : EndsSo marks t.number None → EndsSo (marks ++ ends number answered ∷ []) t.number None =
      λ none end a h. elim (end_back marks (ends number answered) t.number end a h) [ inl x ↦ none end a x | inr x ↦ end_alone other t differs at (let e = x.1 in cc) ] in
      seen_on marks (marks ++ ends number answered ∷ []) t (λ asked h. begin_grows marks (ends number answered ∷ []) t.number t.begin asked h)
      (λ end a h. end_grows marks (ends number answered ∷ []) t.number end a h) (λ e. let P : Option ℕ → Type 0 = λ o. EndsSo marks t.number o in none (subst P e i.ended)) i

  ends_back : (n : ℤ) (begin : ℕ) (asked : List ℕ) → HasBegin (marks ++ ends number answered ∷ []) n begin asked → HasBegin marks n begin asked
  ends_back n begin asked h = elim (begin_back marks (ends number answered) n begin asked h) [ inl x ↦ x | inr x ↦ (let e = x.1.1 in absurd cc) ]

  pub seen_end : new.calls.items ≡ set old.calls.items place s → new.places ≡ old.places → new.count ≡ old.count + 1 → s.number ≡ z.number → s.begin ≡ z.begin
      → IsSeen (marks ++ ends number answered ∷ []) s → AreSeen (marks ++ ends number answered ∷ []) new
  seen_end calls places count number_is begin_is i =
      seen_put marks (marks ++ ends number answered ∷ []) old new place z s are there calls places number_is begin_is
      (count ∙ (let c = are.count in let l = length-append marks (ends number answered ∷ []) in omega arith)) (begun-append marks (ends number answered ∷ []) ∙ append-nil (begun marks))
      ends_back others_on i

-- where the message of its begin mark is held, and the end mark comes
pub ended_here : (marks : List MarkOf) (z s : SeenCall) (number : ℤ) (asked answered : List ℕ) → HoldsBegin marks z asked → z.number ≡ number → s.number ≡ z.number → s.begin ≡ z.begin
    → s.end ≡ Some (length marks)
    → HoldsBegin (marks ++ ends number answered ∷ []) s asked × HoldsEnd (marks ++ ends number answered ∷ []) s answered
ended_here marks z s number asked answered h z_is number_is begin_is end_is =
    let P : ℤ → Type 0 = λ n. HasBegin (marks ++ ends number answered ∷ []) n s.begin asked in
    let Q : ℕ → Type 0 = λ p. HasBegin (marks ++ ends number answered ∷ []) z.number p asked in
    let R : ℤ → Type 0 = λ n. slice_get (marks ++ ends number answered ∷ []) (length marks) ≡ Some (ends n answered) in
    let begun : HasBegin (marks ++ ends number answered ∷ []) s.number s.begin asked =
    subst P (sym number_is) (subst Q (sym begin_is) (begin_grows marks (ends number answered ∷ []) z.number z.begin asked h.at)) in
    let here = subst R (sym (number_is ∙ z_is)) (last_at marks (ends number answered)) in
    (record { at = begun }, record { place = length marks; noted = end_is; at = here })

pub seen_whole : (all : List MarkOf) (s : SeenCall) (asked answered : List ℕ) → HoldsBegin all s asked → HoldsEnd all s answered → HoldsSo all s s.held → IsSeen all s
seen_whole all s asked answered hb he held =
    let P : Option ℕ → Type 0 = λ o. EndsSo all s.number o in
    record { asked = asked; begun = hb.at; ended = subst P (sym he.noted) (answered, he.at); held = held }

-- ---- of which calls nothing is held

pub keep_push : (old new : List SeenCall) (s : SeenCall) → new ≡ old ++ s ∷ [] → (s.held ≡ Released → ⊥) → KeepReleased old new
keep_push old new s e some = λ place t at is.
    let P : List SeenCall → Type 0 = λ l. slice_get l place ≡ Some t in
    by place t is (pushed_at old s place t (subst P e at))
  where
    by : (place : ℕ) (t : SeenCall) → t.held ≡ Released → (slice_get old place ≡ Some t) ⊎ ((place ≡ length old) × (s ≡ t)) → (u : SeenCall) × (slice_get old place ≡ Some u) × (u.held ≡ Released) × (u.begin ≡ t.begin)
    by place t is (inl at) = (t, at, is, refl)
    by place t is (inr p) = absurd (some (ap (λ (x : SeenCall). x.held) p.1 ∙ is))

pub keep_put : (old middle new : List SeenCall) (at : ℕ) (r s : SeenCall) → middle ≡ set old at r → new ≡ set middle at s → (s.held ≡ Released → ⊥) → KeepReleased old new
keep_put old middle new at r s first second some = λ place t there is.
    let P : List SeenCall → Type 0 = λ l. slice_get l place ≡ Some t in
    by place t is (set_cases middle at place s t (subst P second there))
  where
    on : (place : ℕ) (t : SeenCall) → t.held ≡ Released → place ≢ at → ((place ≡ at) × (r ≡ t)) ⊎ ((place ≢ at) × (slice_get old place ≡ Some t))
        → (u : SeenCall) × (slice_get old place ≡ Some u) × (u.held ≡ Released) × (u.begin ≡ t.begin)
    on place t is differs (inl p) = absurd (differs p.0)
    on place t is differs (inr p) = (t, p.1, is, refl)

    by : (place : ℕ) (t : SeenCall) → t.held ≡ Released → ((place ≡ at) × (s ≡ t)) ⊎ ((place ≢ at) × (slice_get middle place ≡ Some t))
        → (u : SeenCall) × (slice_get old place ≡ Some u) × (u.held ≡ Released) × (u.begin ≡ t.begin)
    by place t is (inl p) = absurd (some (ap (λ (x : SeenCall). x.held) p.1 ∙ is))
    by place t is (inr p) = let P : List SeenCall → Type 0 = λ l. slice_get l place ≡ Some t in on place t is p.0 (set_cases old at place r t (subst P first p.1))

-- what is let go stays at its place
pub let_go_there : (old new : Seen) (place : ℕ) (z : SeenCall) → slice_get old.calls.items place ≡ Some z → new.calls.items ≡ set old.calls.items place (released z) → slice_get new.calls.items place ≡ Some (released z)
let_go_there old new place z there e =
    let P : List SeenCall → Type 0 = λ l. slice_get l place ≡ Some (released z) in
    subst P (sym e) (set_here old.calls.items place (released z) z there)

-- the number of the call at the place of a number
pub known_number : (marks : List MarkOf) (seen : Seen) (place : ℕ) (s : SeenCall) (number : ℤ) → AreSeen marks seen → value_at seen.places number ≡ Some place → slice_get seen.calls.items place ≡ Some s → s.number ≡ number
known_number marks seen place s number are is at =
    let k = are.known number place is in
    let there = k.1 in
    let same : s ≡ k.0 = cc in
    ap (λ (x : SeenCall). x.number) same ∙ k.2
