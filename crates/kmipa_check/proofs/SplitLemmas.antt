-- What is accepted together is accepted segment by segment.
use Rattle.std.proofs.Common.{◌≡◌, inl, inr, ◌+◌, ◌-◌, ℕ, ℤ, ◌≤ℤ◌, List, [], ◌∷◌, ◌++◌, map, length, take, drop, Contains, Option, Some, None, option_map, slice_get, refl, sym, ap, ◌∙◌, subst, arith, take-append-drop, length-take}
use Rattle.std.proofs.lemmas.List.{length-map, length-append}
use Rattle.std.proofs.lemmas.Option.{slice_get_within}
use Rattle.kmipa_object.specs.Inventory.{Thing}
use Rattle.kmipa_record.specs.Marks.{MarkOf, begins, ends, begun, AreRecorded}
use Rattle.kmipa_record.specs.Declarations.{DeclarationOf}
use Rattle.kmipa_record.specs.Witnesses.{TurnOf}
use Rattle.kmipa_record.proofs.MarkLemmas.{begun-append}
use Rattle.kmipa_msgs.specs.Messages.{RulesOf, ResponseOf}
use Rattle.kmipa_check.specs.Calls.{CallOf, AreCalls, IsEnded, has_ended, is_open, IsRecorded}
use Rattle.kmipa_check.specs.Grants.{GrantsOf, grants_declared}
use Rattle.kmipa_check.specs.Steps.{StepOf, IsAnswered, recorded, given, IsStep}
use Rattle.kmipa_check.specs.Orders.{IsNamed, IsFormed, IsOrder}
use Rattle.kmipa_check.specs.Runs.{EndsAhead, Before, IsPlaced, Linked, IsAccepted, rules_declared}
use Rattle.kmipa_check.specs.Left.{LeavesDeclaration}
use Rattle.kmipa_check.specs.Segments.{AreApart, NameOnly}
use Rattle.kmipa_check.proofs.PlaceLemmas.{contains_at, at_contains, get_at, mapped_from, some_at, same_elements}
use Rattle.kmipa_check.proofs.RecordedLemmas.{recorded_at, same_recorded}
use Rattle.kmipa_check.proofs.RunLemmas.{linked_split}
use Rattle.kmipa_check.proofs.WholeOrderLemmas.{number_of, order_takes, one_step_lem}
use Rattle.kmipa_check.proofs.JoinLemmas.{at_front, at_back, at_either, same_place, all_at, Ordered, ordered, pairs, ordered_map, begin_begun, end_begun, call_begun, named_begun}

-- ---- lists that are cut

module _ {X : Type 0} where
  at_behind : (xs ys : List X) (i : ℕ) (x : X) → slice_get (xs ++ ys) (length xs + i) ≡ Some x → slice_get ys i ≡ Some x
  at_behind xs ys i x at = elim (at_either xs ys (length xs + i) x at) [
    | inl p ↦ absurd (omega (arith, slice_get_within xs (length xs + i) x p))
    | inr p ↦ same_place ys p.0 i x (omega (arith, p.1)) p.2
  ]

  ordered_behind : (R : X → X → Type 0) (xs ys : List X) → Ordered R (xs ++ ys) → Ordered R ys
  ordered_behind R xs ys h i j x y less a b = h (length xs + i) (length xs + j) x y (omega (arith, less)) (at_back xs ys i x a) (at_back xs ys j y b)

-- a list whose numbers are those of two lists
record CutList {X Y : Type 0} (f : X → Y) (xs : List X) (ys zs : List Y) : Type 0 where
  front : List X
  back : List X
  is : xs ≡ front ++ back
  fronts : map f front ≡ ys
  backs : map f back ≡ zs

cut_list : {X Y : Type 0} (f : X → Y) (xs : List X) (ys zs : List Y) → map f xs ≡ ys ++ zs → CutList f xs ys zs
cut_list f xs [] zs e = record { front = []; back = xs; is = refl; fronts = refl; backs = e }
cut_list f [] (y ∷ ys) zs e = let bad : ⊥ = cc in absurd bad
cut_list f (x ∷ xs) (y ∷ ys) zs e =
    let first : f x ≡ y = cc in
    let rest : map f xs ≡ ys ++ zs = cc in
    let c = cut_list f xs ys zs rest in
    record {
      front = x ∷ c.front;
      back = c.back;
      is = ap (λ (l : List _). x ∷ l) c.is;
      fronts = ap (λ (v : _). v ∷ map f c.front) first ∙ ap (λ (l : List _). y ∷ l) c.fronts;
      backs = c.backs;
    }

-- ---- calls and steps without the marks ahead of them

abbrev back : ℕ → CallOf → CallOf
back n c = record { number = c.number; begin = c.begin - n; end = option_map (λ (e : ℕ). e - n) c.end; request = c.request; response = c.response }

abbrev pub step_back : ℕ → StepOf → StepOf
step_back n s = record { number = s.number; begin = s.begin - n; end = option_map (λ (e : ℕ). e - n) s.end; request = s.request; response = s.response; stamp = s.stamp; places = s.places }

end_back : (n : ℕ) (o : Option ℕ) (e : ℕ) → option_map (λ (x : ℕ). x - n) o ≡ Some e → (x : ℕ) × (o ≡ Some x)
end_back n None e is = absurd cc
end_back n (Some x) e is = (x, refl)

step_backs : (g : GrantsOf) (n : ℕ) (c : CallOf) (t : TurnOf) (s : StepOf) → IsStep g c t s → IsStep g (back n c) t (step_back n s)
step_backs g n c t s i = record {
  named = i.named;
  response = i.response;
  answered = by i.response i.answered;
  moment = i.moment;
  timed = i.timed;
  places = i.places;
  ordered = i.ordered;
  taken = i.taken;
  full = i.full;
  filled = i.filled;
  asked = i.asked;
  born = i.born;
  no_aside = i.no_aside;
  is = ap (step_back n) i.is;
}
  where
    by : (response : ResponseOf) → IsAnswered c t response → IsAnswered (back n c) t response
    by response (recorded had none) = recorded had none
    by response (given bytes unended some says) = given bytes unended some says

linked_cut : (rules : RulesOf) (n : ℕ) (V : List Thing) (ss : List StepOf) (W : List Thing) → Linked rules V ss W → Linked rules V (map (step_back n) ss) W
linked_cut rules n V [] W l = l
linked_cut rules n V (s ∷ ss) W l = (l.0, l.1, linked_cut rules n l.0 ss W l.2)

before_back : (n : ℕ) (end : Option ℕ) (begin : ℕ) → EndsAhead (option_map (λ (e : ℕ). e - n) end) (begin - n) → EndsAhead end begin
before_back n None begin h = h
before_back n (Some e) begin h = omega (arith, h)

numbers_back : (n : ℕ) (cs : List CallOf) → map number_of (map (back n) cs) ≡ map number_of cs
numbers_back n [] = refl
numbers_back n (c ∷ cs) = ap (λ (l : List ℤ). c.number ∷ l) (numbers_back n cs)

-- ---- marks

module _ (first second : List MarkOf) (rf : AreRecorded first) (rs : AreRecorded second) (apart : AreApart first second) where
  abbrev n : ℕ
  n = length first

  its_first : (c : CallOf) → Contains (begun first) c.number → IsRecorded (first ++ second) c → IsRecorded first c
  its_first c has x = elim (at_either first second c.begin (begins c.number x.carried.client x.asked) x.carried.there) [
    | inl p ↦ record { asked = x.asked; carried = record { client = x.carried.client; there = p }; request = x.request; ended = by x.ended }
    | inr p ↦ absurd (apart c.number has (begin_begun second c.number p.0 x.asked (record { client = x.carried.client; there = p.2 })))
  ]
    where
      by : IsEnded (first ++ second) c → IsEnded first c
      by (has_ended e a response h says close is) = elim (at_either first second e (ends c.number a) h) [
        | inl p ↦ has_ended e a response p says close is
        | inr p ↦ absurd (apart c.number has (end_begun second c.number p.0 a rs p.2))
      ]
      by (is_open none close is) = is_open (λ e a h. none e a (at_front first second e (ends c.number a) h)) close is

  its_second : (c : CallOf) → Contains (begun second) c.number → IsRecorded (first ++ second) c → IsRecorded second (back n c)
  its_second c has x = elim (at_either first second c.begin (begins c.number x.carried.client x.asked) x.carried.there) [
    | inl p ↦ absurd (apart c.number (begin_begun first c.number c.begin x.asked (record { client = x.carried.client; there = p })) has)
    | inr p ↦ record {
      asked = x.asked;
      carried = record { client = x.carried.client; there = same_place second p.0 (c.begin - n) (begins c.number x.carried.client x.asked) (omega (arith, p.1)) p.2 };
      request = x.request;
      ended = by x.ended;
    }
  ]
    where
      by : IsEnded (first ++ second) c → IsEnded second (back n c)
      by (has_ended e a response h says close is) = elim (at_either first second e (ends c.number a) h) [
        | inl p ↦ absurd (apart c.number (end_begun first c.number e a rf p) has)
        | inr p ↦ let k : e - n ≡ p.0 = omega (arith, p.1) in has_ended p.0 a response p.2 says (ap (option_map (λ (x : ℕ). x - n)) close ∙ ap Some k) is
      ]
      by (is_open none close is) = is_open (λ e a h. none (n + e) a (at_back first second e (ends c.number a) h)) (ap (option_map (λ (x : ℕ). x - n)) close) is

  module _ (turns more : List TurnOf) (declared between : DeclarationOf) (l : LeavesDeclaration first declared turns between) (a : IsAccepted (first ++ second) declared (turns ++ more)) (only : NameOnly second more) where
    abbrev g : GrantsOf
    g = grants_declared declared

    -- the calls of both, cut
    abbrev cut_calls : CutList number_of a.calls (begun first) (begun second)
    cut_calls = cut_list number_of a.calls (begun first) (begun second) (a.are.numbers ∙ begun-append first second)

    abbrev calls : List CallOf
    calls = map (back n) cut_calls.back

    in_all : (i : ℕ) (c : CallOf) → slice_get cut_calls.back i ≡ Some c → Contains a.calls c × IsRecorded (first ++ second) c
    in_all i c at =
        let P : List CallOf → Type 0 = λ cs. slice_get cs (length cut_calls.front + i) ≡ Some c in
        let here = subst P (sym cut_calls.is) (at_back cut_calls.front cut_calls.back i c at) in
        (contains_at a.calls (length cut_calls.front + i) c here, recorded_at (first ++ second) a.calls (length cut_calls.front + i) c a.are here)

    back_begun : (i : ℕ) (c : CallOf) → slice_get cut_calls.back i ≡ Some c → Contains (begun second) c.number
    back_begun i c at =
        let P : List ℤ → Type 0 = λ ns. slice_get ns i ≡ Some c.number in
        contains_at (begun second) i c.number (subst P cut_calls.backs (get_at number_of cut_calls.back i c at))

    front_begun : (i : ℕ) (c : CallOf) → slice_get cut_calls.front i ≡ Some c → Contains (begun first) c.number
    front_begun i c at =
        let P : List ℤ → Type 0 = λ ns. slice_get ns i ≡ Some c.number in
        contains_at (begun first) i c.number (subst P cut_calls.fronts (get_at number_of cut_calls.front i c at))

    calls_cut : AreCalls second calls
    calls_cut = record {
      numbers = numbers_back n cut_calls.back ∙ cut_calls.backs;
      recorded = all_at (λ (c : CallOf). IsRecorded second c) calls (λ i c at.
          let p = mapped_from (back n) cut_calls.back i c at in
          let P : CallOf → Type 0 = λ x. IsRecorded second x in
          subst P p.2 (its_second p.0 (back_begun i p.0 p.1) (in_all i p.0 p.1).1));
    }

    -- a call of the second segment's number is one of the second's
    call_behind : (c : CallOf) → Contains a.calls c → Contains (begun second) c.number → Contains calls (back n c)
    call_behind c has begun_there =
        let q = at_contains a.calls c has in
        let P : List CallOf → Type 0 = λ cs. slice_get cs q.0 ≡ Some c in
        elim (at_either cut_calls.front cut_calls.back q.0 c (subst P cut_calls.is q.1)) [
          | inl p ↦ absurd (apart c.number (front_begun q.0 c p) begun_there)
          | inr p ↦ contains_at calls p.0 (back n c) (get_at (back n) cut_calls.back p.0 c p.2)
        ]

    -- the steps of both, cut
    abbrev pub before : List StepOf
    before = take (length turns) a.steps

    abbrev pub behind : List StepOf
    behind = drop (length turns) a.steps

    abbrev pub steps : List StepOf
    steps = map (step_back n) behind

    pub whole : before ++ behind ≡ a.steps
    whole = take-append-drop (length turns) a.steps

    counts : length a.steps ≡ length turns + length more
    counts = a.order.counted ∙ length-append turns more

    before_long : length before ≡ length turns
    before_long = omega (arith, length-take (length turns) a.steps, counts)

    behind_long : length behind ≡ length more
    behind_long = omega (arith, before_long, counts, ap length whole, length-append before behind)

    step_in : (i : ℕ) (s : StepOf) → slice_get behind i ≡ Some s → slice_get a.steps (length turns + i) ≡ Some s
    step_in i s at =
        let P : List StepOf → Type 0 = λ ss. slice_get ss (length before + i) ≡ Some s in
        same_place a.steps (length before + i) (length turns + i) s (omega (arith, before_long)) (subst P whole (at_back before behind i s at))

    -- the first of them are those of the first segment
    pub before_same : before ≡ l.steps
    before_same = same_elements before l.steps (before_long ∙ sym l.order.counted) (λ i s at. by i s at)
      where
        by : (i : ℕ) (s : StepOf) → slice_get before i ≡ Some s → slice_get l.steps i ≡ Some s
        by i s at =
            let P : List StepOf → Type 0 = λ ss. slice_get ss i ≡ Some s in
            let here = subst P whole (at_front before behind i s at) in
            let f = a.order.formed i s here in
            let u = some_at l.steps i (omega (arith, slice_get_within before i s at, before_long, l.order.counted)) in
            let h = l.order.formed i u.0 u.1 in
            let there = at_front turns more i h.turn h.there in
            let other = f.there in
            let turn : f.turn ≡ h.turn = cc in
            let number : f.call.number ≡ h.call.number = sym f.step.named ∙ ap (λ (t : TurnOf). t.call) turn ∙ h.step.named in
            let Q : ℤ → Type 0 = λ z. Contains (begun first) z in
            let p = at_contains a.calls f.call f.known in
            let q = at_contains l.calls h.call h.known in
            let x = its_first f.call (subst Q (sym number) (call_begun first l.calls h.call l.are h.known)) (recorded_at (first ++ second) a.calls p.0 f.call a.are p.1) in
            let call = same_recorded first f.call h.call rf x (recorded_at first l.calls q.0 h.call l.are q.1) number in
            let S : CallOf → Type 0 = λ c. IsStep g c f.turn s in
            let T : TurnOf → Type 0 = λ t. IsStep g h.call t s in
            u.1 ∙ ap Some (one_step_lem g h.call h.turn u.0 s h.step (subst T turn (subst S call f.step)))

    formed_behind : (place : ℕ) (s : StepOf) → slice_get behind place ≡ Some s → IsFormed g calls more place (step_back n s)
    formed_behind place s at =
        let f = a.order.formed (length turns + place) s (step_in place s at) in
        let there = at_behind turns more place f.turn f.there in
        let P : ℤ → Type 0 = λ z. Contains (begun second) z in
        record {
          turn = f.turn;
          there = there;
          first = λ (earlier, below, (t, here, same)). f.first (length turns + earlier, omega (arith, below), (t, at_back turns more earlier t here, same));
          call = back n f.call;
          known = call_behind f.call f.known (subst P f.step.named (only f.turn (contains_at more place f.turn there)));
          step = step_backs g n f.call f.turn s f.step;
        }

    order_cut : IsOrder g calls more steps
    order_cut = record { counted = length-map behind (step_back n) ∙ behind_long; formed = formed; all = λ c end has is. by c end is (at_contains calls c has) }
      where
        formed : (place : ℕ) (s : StepOf) → slice_get steps place ≡ Some s → IsFormed g calls more place s
        formed place s at =
            let m = mapped_from (step_back n) behind place s at in
            let P : StepOf → Type 0 = λ x. IsFormed g calls more place x in
            subst P m.2 (formed_behind place m.0 m.1)

        by : (c : CallOf) (end : ℕ) → c.end ≡ Some end → (i : ℕ) × (slice_get calls i ≡ Some c) → IsNamed more c.number
        by c end is (i, at) =
            let m = mapped_from (back n) cut_calls.back i c at in
            let ended : option_map (λ (k : ℕ). k - n) m.0.end ≡ Some end = ap (λ (x : CallOf). x.end) m.2 ∙ is in
            let e = end_back n m.0.end end ended in
            let f = a.order.all m.0 e.0 (in_all i m.0 m.1).0 e.1 in
            elim (at_either turns more f.0 f.1.0 f.1.1) [
              | inl p ↦ absurd (apart m.0.number (named_begun g first l.calls turns l.steps f.0 m.0.number l.are l.order (f.1.0, p, f.1.2)) (back_begun i m.0 m.1))
              | inr p ↦ (p.0, (f.1.0, p.2, f.1.2 ∙ ap number_of m.2))
            ]

    placed_cut : IsPlaced steps
    placed_cut = record {
      kept = pairs Kept steps (ordered_map Kept (step_back n) behind (λ x y h ends. h (before_back n y.end x.begin ends)) (cut_of Kept (ordered Kept a.steps a.run.placed.kept)));
      stamped = pairs Rises steps (ordered_map Rises (step_back n) behind (λ x y h. h) (cut_of Rises (ordered Rises a.steps a.run.placed.stamped)));
    }
      where
        Kept : StepOf → StepOf → Type 0
        Kept x y = ¬ (Before y x)

        Rises : StepOf → StepOf → Type 0
        Rises x y = x.response.stamp ≤ℤ y.response.stamp

        cut_of : (R : StepOf → StepOf → Type 0) → Ordered R a.steps → Ordered R behind
        cut_of R h = let P : List StepOf → Type 0 = λ ss. Ordered R ss in ordered_behind R before behind (subst P (sym whole) h)

    -- the second is accepted by the steps behind
    pub together_lem : (own : IsAccepted second between more) × (own.steps ≡ steps)
    together_lem =
        let P : List StepOf → Type 0 = λ ss. Linked (rules_declared declared) a.start ss a.run.last in
        let p = linked_split (rules_declared declared) a.start before behind a.run.last (subst P (sym whole) a.run.linked) in
        let Q : List StepOf → Type 0 = λ ss. Linked (rules_declared declared) a.start ss p.0 in
        let R : RulesOf → Type 0 = λ r. Linked r p.0 behind a.run.last in
        let G : GrantsOf → Type 0 = λ x. IsOrder x calls more steps in
        let order : IsOrder (grants_declared between) calls more steps = subst G (sym l.leaves.grants) order_cut in (
          record {
            calls = calls;
            are = calls_cut;
            steps = steps;
            order = order;
            start = p.0;
            described = (l.leaves.exactly p.0).1 (a.start, a.described, subst Q before_same p.1);
            run = record {
              once = order_takes (grants_declared between) calls more steps order;
              placed = placed_cut;
              last = a.run.last;
              linked = linked_cut (rules_declared between) n p.0 behind a.run.last (subst R (sym l.leaves.rules) p.2);
            };
          },
          refl,
        )
