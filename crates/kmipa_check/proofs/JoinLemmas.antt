-- Marks, calls and steps of two segments, one behind the other.
use Rattle.std.proofs.Common.{◌≡◌, ◌<◌, ◌⊎◌, inl, inr, ◌+◌, ℕ, zero, suc, ℤ, ◌≤ℤ◌, List, [], ◌∷◌, ◌++◌, map, length, take, drop, get_or, Contains, All, AllPairs, Option, Some, None, option_map, slice_get, refl, sym, ap, ◌∙◌, subst, arith}
use Rattle.std.proofs.lemmas.List.{length-map, length-append, map-append}
use Rattle.std.proofs.lemmas.List.Elements.{Contains-append_left, Contains-append_right}
use Rattle.std.proofs.lemmas.Option.{get_or_from_slice_get, slice_get_within, slice_get-get_or}
use Rattle.kmipa_object.specs.Inventory.{Thing}
use Rattle.kmipa_record.specs.Marks.{MarkOf, begins, ends, begun, AreRecorded}
use Rattle.kmipa_record.specs.Declarations.{DeclarationOf}
use Rattle.kmipa_record.specs.Witnesses.{TurnOf}
use Rattle.kmipa_record.proofs.MarkLemmas.{begun-append}
use Rattle.kmipa_msgs.specs.Messages.{RulesOf, ResponseOf}
use Rattle.kmipa_check.specs.Calls.{CallOf, AreCalls, HasBegin, HasEnd, IsEnded, has_ended, is_open, IsRecorded}
use Rattle.kmipa_check.specs.Steps.{StepOf, IsAnswered, recorded, given, IsStep}
use Rattle.kmipa_check.specs.Described.{Describes}
use Rattle.kmipa_check.specs.Grants.{GrantsOf}
use Rattle.kmipa_check.specs.Orders.{NamesAt, IsNamed, IsFormed, IsOrder}
use Rattle.kmipa_check.specs.Runs.{EndsAhead, Before, IsPlaced, Linked, rules_declared}
use Rattle.kmipa_check.specs.Left.{CanEnd, IsLeft}
use Rattle.kmipa_check.specs.Segments.{AreApart, HaveBegun}
use Rattle.kmipa_check.proofs.PlaceLemmas.{contains_at, at_contains, get_at, mapped_from, some_at}
use Rattle.kmipa_check.proofs.RecordedLemmas.{begun_has, cut, recorded_at}
use Rattle.kmipa_check.proofs.RunLemmas.{linked_join, linked_split}
use Rattle.kmipa_check.proofs.WholeOrderLemmas.{number_of}

-- ---- elements of two lists, one behind the other

module _ {X : Type 0} where
  pub at_front : (xs ys : List X) (i : ℕ) (x : X) → slice_get xs i ≡ Some x → slice_get (xs ++ ys) i ≡ Some x
  at_front [] ys i x at = absurd cc
  at_front (z ∷ xs) ys zero x at = at
  at_front (z ∷ xs) ys (suc i) x at = at_front xs ys i x at

  pub same_place : (ys : List X) (i j : ℕ) (x : X) → i ≡ j → slice_get ys i ≡ Some x → slice_get ys j ≡ Some x
  same_place ys i j x e at = let P : ℕ → Type 0 = λ k. slice_get ys k ≡ Some x in subst P e at

  pub at_back : (xs ys : List X) (i : ℕ) (x : X) → slice_get ys i ≡ Some x → slice_get (xs ++ ys) (length xs + i) ≡ Some x
  at_back [] ys i x at = same_place ys i (0 + i) x (omega arith) at
  at_back (z ∷ xs) ys i x at = same_place (z ∷ (xs ++ ys)) (suc (length xs + i)) (length (z ∷ xs) + i) x (omega arith) (at_back xs ys i x at)

  pub at_either : (xs ys : List X) (i : ℕ) (x : X) → slice_get (xs ++ ys) i ≡ Some x → (slice_get xs i ≡ Some x) ⊎ ((k : ℕ) × (i ≡ length xs + k) × (slice_get ys k ≡ Some x))
  at_either [] ys i x at = inr (i, omega arith, at)
  at_either (z ∷ xs) ys zero x at = inl at
  at_either (z ∷ xs) ys (suc i) x at = elim (at_either xs ys i x at) [ inl a ↦ inl a | inr p ↦ inr (p.0, omega (arith, p.1), p.2) ]

  pub all_join : (P : X → Type 0) (xs ys : List X) → ((i : ℕ) (x : X) → slice_get xs i ≡ Some x → P x) → ((i : ℕ) (x : X) → slice_get ys i ≡ Some x → P x) → All P (xs ++ ys)
  all_join P xs ys f g k d below = elim (at_either xs ys k (get_or (xs ++ ys) k d) (slice_get-get_or (xs ++ ys) k d below)) [
    | inl a ↦ f k (get_or (xs ++ ys) k d) a
    | inr p ↦ g p.0 (get_or (xs ++ ys) k d) p.2
  ]

  pub all_at : (P : X → Type 0) (xs : List X) → ((i : ℕ) (x : X) → slice_get xs i ≡ Some x → P x) → All P xs
  all_at P xs f k d below = f k (get_or xs k d) (slice_get-get_or xs k d below)

  -- of two elements the earlier with the later
  abbrev pub Ordered : (X → X → Type 0) → List X → Type 0
  Ordered R xs = (i j : ℕ) (x y : X) → i < j → slice_get xs i ≡ Some x → slice_get xs j ≡ Some y → R x y

  pub ordered : (R : X → X → Type 0) (xs : List X) → AllPairs R xs → Ordered R xs
  ordered R xs h i j x y less a b =
      let p = get_or_from_slice_get xs i x x a in
      let q = get_or_from_slice_get xs j y x b in
      subst (λ (z : X). R x z) q (subst (λ (z : X). R z (get_or xs j x)) p (h i j x less (slice_get_within xs j y b)))

  pub pairs : (R : X → X → Type 0) (xs : List X) → Ordered R xs → AllPairs R xs
  pairs R xs h i j d less within =
      h i j (get_or xs i d) (get_or xs j d) less (slice_get-get_or xs i d (omega (arith, less, within))) (slice_get-get_or xs j d within)

  ordered_join : (R : X → X → Type 0) (xs ys : List X) → Ordered R xs → Ordered R ys → ((i j : ℕ) (x y : X) → slice_get xs i ≡ Some x → slice_get ys j ≡ Some y → R x y) → Ordered R (xs ++ ys)
  ordered_join R xs ys f g cross i j x y less a b = by (at_either xs ys i x a) (at_either xs ys j y b)
    where
      by : (slice_get xs i ≡ Some x) ⊎ ((k : ℕ) × (i ≡ length xs + k) × (slice_get ys k ≡ Some x)) → (slice_get xs j ≡ Some y) ⊎ ((k : ℕ) × (j ≡ length xs + k) × (slice_get ys k ≡ Some y)) → R x y
      by (inl p) (inl q) = f i j x y less p q
      by (inl p) (inr q) = cross i q.0 x y p q.2
      by (inr p) (inl q) = absurd (omega (arith, less, p.1, slice_get_within xs j y q))
      by (inr p) (inr q) = g p.0 q.0 x y (omega (arith, less, p.1, q.1)) p.2 q.2

  pub ordered_map : (R : X → X → Type 0) (f : X → X) (xs : List X) → ((x y : X) → R x y → R (f x) (f y)) → Ordered R xs → Ordered R (map f xs)
  ordered_map R f xs keeps h i j x y less a b =
      let p = mapped_from f xs i x a in
      let q = mapped_from f xs j y b in
      subst (λ (z : X). R x z) q.2 (subst (λ (z : X). R z (f q.0)) p.2 (keeps p.0 q.0 (h i j p.0 q.0 less p.1 q.1)))

-- ---- calls and steps whose marks stand behind so many others

abbrev pub moved : ℕ → CallOf → CallOf
moved n c = record { number = c.number; begin = n + c.begin; end = option_map (λ (e : ℕ). n + e) c.end; request = c.request; response = c.response }

abbrev pub step_moved : ℕ → StepOf → StepOf
step_moved n s = record { number = s.number; begin = n + s.begin; end = option_map (λ (e : ℕ). n + e) s.end; request = s.request; response = s.response; stamp = s.stamp; places = s.places }

end_moved : (n : ℕ) (o : Option ℕ) (e : ℕ) → option_map (λ (x : ℕ). n + x) o ≡ Some e → (x : ℕ) × (o ≡ Some x)
end_moved n None e is = absurd cc
end_moved n (Some x) e is = (x, refl)

step_moves : (g : GrantsOf) (n : ℕ) (c : CallOf) (t : TurnOf) (s : StepOf) → IsStep g c t s → IsStep g (moved n c) t (step_moved n s)
step_moves g n c t s i = record {
  named = i.named;
  response = i.response;
  answered = by i.response i.answered;
  moment = i.moment;
  timed = i.timed;
  places = i.places;
  ordered = i.ordered;
  taken = i.taken;
  full = i.full;
  filled = i.filled;
  asked = i.asked;
  born = i.born;
  no_aside = i.no_aside;
  is = ap (step_moved n) i.is;
}
  where
    by : (response : ResponseOf) → IsAnswered c t response → IsAnswered (moved n c) t response
    by response (recorded had none) = recorded had none
    by response (given bytes unended some says) = given bytes unended some says

pub linked_moved : (rules : RulesOf) (n : ℕ) (V : List Thing) (ss : List StepOf) (W : List Thing) → Linked rules V ss W → Linked rules V (map (step_moved n) ss) W
linked_moved rules n V [] W l = l
linked_moved rules n V (s ∷ ss) W l = (l.0, l.1, linked_moved rules n l.0 ss W l.2)

linked_back : (rules : RulesOf) (n : ℕ) (V : List Thing) (ss : List StepOf) (W : List Thing) → Linked rules V (map (step_moved n) ss) W → Linked rules V ss W
linked_back rules n V [] W l = l
linked_back rules n V (s ∷ ss) W l = (l.0, l.1, linked_back rules n l.0 ss W l.2)

before_moved : (n : ℕ) (end : Option ℕ) (begin : ℕ) → EndsAhead (option_map (λ (e : ℕ). n + e) end) (n + begin) → EndsAhead end begin
before_moved n None begin h = h
before_moved n (Some e) begin h = omega (arith, h)

-- what ends behind so many marks ends ahead of none of them
never_before : (n : ℕ) (end : Option ℕ) (begin : ℕ) → begin < n → EndsAhead (option_map (λ (e : ℕ). n + e) end) begin → ⊥
never_before n None begin below h = h
never_before n (Some e) begin below h = omega (arith, below, h)

-- ---- marks

pub begin_begun : (marks : List MarkOf) (number : ℤ) (begin : ℕ) (asked : List ℕ) → HasBegin marks number begin asked → Contains (begun marks) number
begin_begun marks number begin asked h = let p = begun_has marks begin number h.client asked h.there in contains_at (begun marks) p.0 number p.1

pub end_begun : (marks : List MarkOf) (number : ℤ) (end : ℕ) (answered : List ℕ) → AreRecorded marks → HasEnd marks number end answered → Contains (begun marks) number
end_begun marks number end answered r h =
    let e = cut marks end (ends number answered) h in
    let c = (r.answered (take end marks) (drop (suc end) marks) number answered e).0 in
    let P : List MarkOf → Type 0 = λ ms. Contains (begun ms) number in
    let Q : List ℤ → Type 0 = λ ns. Contains ns number in
    subst P (sym e) (subst Q (sym (begun-append (take end marks) (ends number answered ∷ drop (suc end) marks))) (Contains-append_left (begun (take end marks)) (begun (ends number answered ∷ drop (suc end) marks)) number c))

pub recorded_begun_lem : (marks : List MarkOf) → AreRecorded marks → HaveBegun marks
recorded_begun_lem marks r = λ number end answered h. end_begun marks number end answered r h

pub joined_begun_lem : (first second : List MarkOf) → HaveBegun first → HaveBegun second → HaveBegun (first ++ second)
joined_begun_lem first second f s = λ number end answered h.
    let Q : List ℤ → Type 0 = λ ns. Contains ns number in
    subst Q (sym (begun-append first second)) (elim (at_either first second end (ends number answered) h) [
      | inl p ↦ Contains-append_left (begun first) (begun second) number (f number end answered p)
      | inr p ↦ Contains-append_right (begun first) (begun second) number (s number p.0 answered p.2)
    ])

-- a call of a list has begun, among so many marks
pub call_begun : (marks : List MarkOf) (calls : List CallOf) (c : CallOf) → AreCalls marks calls → Contains calls c → Contains (begun marks) c.number
call_begun marks calls c are has =
    let p = at_contains calls c has in
    let x = recorded_at marks calls p.0 c are p.1 in
    begin_begun marks c.number c.begin x.asked x.carried

begins_below : (marks : List MarkOf) (calls : List CallOf) (c : CallOf) → AreCalls marks calls → Contains calls c → c.begin < length marks
begins_below marks calls c are has =
    let p = at_contains calls c has in
    let x = recorded_at marks calls p.0 c are p.1 in
    slice_get_within marks c.begin (begins c.number x.carried.client x.asked) x.carried.there

-- what a turn of a formed witness names has begun
pub named_begun : (g : GrantsOf) (marks : List MarkOf) (calls : List CallOf) (turns : List TurnOf) (steps : List StepOf) (place : ℕ) (number : ℤ) → AreCalls marks calls → IsOrder g calls turns steps
    → NamesAt turns place number → Contains (begun marks) number
named_begun g marks calls turns steps place number are o (turn, there, is) =
    let s = some_at steps place (omega (arith, slice_get_within turns place turn there, o.counted)) in
    let f = o.formed place s.0 s.1 in
    let at = f.there in
    let same : f.turn ≡ turn = cc in
    let e : f.call.number ≡ number = sym f.step.named ∙ ap (λ (t : TurnOf). t.call) same ∙ is in
    let P : ℤ → Type 0 = λ z. Contains (begun marks) z in
    subst P e (call_begun marks calls f.call are f.known)

module _ (first second : List MarkOf) (rf : HaveBegun first) (rs : HaveBegun second) (apart : AreApart first second) where
  abbrev n : ℕ
  n = length first

  recorded_first : (c : CallOf) → IsRecorded first c → IsRecorded (first ++ second) c
  recorded_first c x = record {
    asked = x.asked;
    carried = record { client = x.carried.client; there = at_front first second c.begin (begins c.number x.carried.client x.asked) x.carried.there };
    request = x.request;
    ended = by x x.ended;
  }
    where
      by : IsRecorded first c → IsEnded first c → IsEnded (first ++ second) c
      by x (has_ended e a response h says close is) = has_ended e a response (at_front first second e (ends c.number a) h) says close is
      by x (is_open none close is) =
          is_open (λ e a h. elim (at_either first second e (ends c.number a) h) [
            | inl p ↦ none e a p
            | inr p ↦ apart c.number (begin_begun first c.number c.begin x.asked x.carried) (rs c.number p.0 a p.2)
          ]) close is

  recorded_second : (c : CallOf) → IsRecorded second c → IsRecorded (first ++ second) (moved n c)
  recorded_second c x = record {
    asked = x.asked;
    carried = record { client = x.carried.client; there = at_back first second c.begin (begins c.number x.carried.client x.asked) x.carried.there };
    request = x.request;
    ended = by x x.ended;
  }
    where
      by : IsRecorded second c → IsEnded second c → IsEnded (first ++ second) (moved n c)
      by x (has_ended e a response h says close is) = has_ended (n + e) a response (at_back first second e (ends c.number a) h) says (ap (option_map (λ (k : ℕ). n + k)) close) is
      by x (is_open none close is) =
          is_open (λ e a h. elim (at_either first second e (ends c.number a) h) [
            | inl p ↦ apart c.number (rf c.number e a p) (begin_begun second c.number c.begin x.asked x.carried)
            | inr p ↦ none p.0 a p.2
          ]) (ap (option_map (λ (k : ℕ). n + k)) close) is

  numbers_moved : (cs : List CallOf) → map number_of (map (moved n) cs) ≡ map number_of cs
  numbers_moved [] = refl
  numbers_moved (c ∷ cs) = ap (λ (l : List ℤ). c.number ∷ l) (numbers_moved cs)

  pub calls_join : (calls more : List CallOf) → AreCalls first calls → AreCalls second more → AreCalls (first ++ second) (calls ++ map (moved n) more)
  calls_join calls more a b = record {
    numbers =
        map-append number_of calls (map (moved n) more)
        ∙ ap (λ (l : List ℤ). l ++ map number_of (map (moved n) more)) a.numbers
        ∙ ap (λ (l : List ℤ). begun first ++ l) (numbers_moved more ∙ b.numbers)
        ∙ sym (begun-append first second);
    recorded = all_join (λ (c : CallOf). IsRecorded (first ++ second) c) calls (map (moved n) more) (λ i c at. recorded_first c (recorded_at first calls i c a at)) (λ i c at.
        let p = mapped_from (moved n) more i c at in
        let P : CallOf → Type 0 = λ x. IsRecorded (first ++ second) x in
        subst P p.2 (recorded_second p.0 (recorded_at second more i p.0 b p.1)));
  }

  module _ (g : GrantsOf) (calls more : List CallOf) (turns ts : List TurnOf) (steps ss : List StepOf) (a : AreCalls first calls) (b : AreCalls second more) (o : IsOrder g calls turns steps) (q : IsOrder g more ts ss) where
    abbrev all_calls : List CallOf
    all_calls = calls ++ map (moved n) more

    abbrev all_steps : List StepOf
    all_steps = steps ++ map (step_moved n) ss

    formed_first : (place : ℕ) (s : StepOf) → IsFormed g calls turns place s → IsFormed g all_calls (turns ++ ts) place s
    formed_first place s f = record {
      turn = f.turn;
      there = at_front turns ts place f.turn f.there;
      first = λ (earlier, below, (t, there, same)). elim (at_either turns ts earlier t there) [
        | inl p ↦ f.first (earlier, below, (t, p, same))
        | inr p ↦ omega (arith, below, p.1, slice_get_within turns place f.turn f.there)
      ];
      call = f.call;
      known = Contains-append_left calls (map (moved n) more) f.call f.known;
      step = f.step;
    }

    formed_second : (place : ℕ) (s : StepOf) → IsFormed g more ts place s → IsFormed g all_calls (turns ++ ts) (length turns + place) (step_moved n s)
    formed_second place s f =
        let at = at_contains more f.call f.known in
        record {
          turn = f.turn;
          there = at_back turns ts place f.turn f.there;
          first = λ (earlier, below, (t, there, same)). elim (at_either turns ts earlier t there) [
            | inl p ↦ apart f.turn.call (named_begun g first calls turns steps earlier f.turn.call a o (t, p, same)) (named_begun g second more ts ss place f.turn.call b q (f.turn, f.there, refl))
            | inr p ↦ f.first (p.0, omega (arith, below, p.1), (t, p.2, same))
          ];
          call = moved n f.call;
          known = Contains-append_right calls (map (moved n) more) (moved n f.call) (contains_at (map (moved n) more) at.0 (moved n f.call) (get_at (moved n) more at.0 f.call at.1));
          step = step_moves g n f.call f.turn s f.step;
        }

    pub order_join : IsOrder g all_calls (turns ++ ts) all_steps
    order_join = record { counted = counted; formed = formed; all = λ c end has is. by c end is (at_contains all_calls c has) }
      where
        counted : length all_steps ≡ length (turns ++ ts)
        counted = omega (arith, length-append steps (map (step_moved n) ss), length-map ss (step_moved n), length-append turns ts, o.counted, q.counted)

        formed : (place : ℕ) (s : StepOf) → slice_get all_steps place ≡ Some s → IsFormed g all_calls (turns ++ ts) place s
        formed place s at = elim (at_either steps (map (step_moved n) ss) place s at) [
          | inl p ↦ formed_first place s (o.formed place s p)
          | inr p ↦
              let m = mapped_from (step_moved n) ss p.0 s p.2 in
              let e : length turns + p.0 ≡ place = omega (arith, p.1, o.counted) in
              let P : ℕ → Type 0 = λ k. IsFormed g all_calls (turns ++ ts) k s in
              let Q : StepOf → Type 0 = λ x. IsFormed g all_calls (turns ++ ts) (length turns + p.0) x in
              subst P e (subst Q m.2 (formed_second p.0 m.0 (q.formed p.0 m.0 m.1)))
        ]

        by : (c : CallOf) (end : ℕ) → c.end ≡ Some end → (i : ℕ) × (slice_get all_calls i ≡ Some c) → IsNamed (turns ++ ts) c.number
        by c end is (i, at) = elim (at_either calls (map (moved n) more) i c at) [
          | inl p ↦
              let f = o.all c end (contains_at calls i c p) is in
              (f.0, (f.1.0, at_front turns ts f.0 f.1.0 f.1.1, f.1.2))
          | inr p ↦
              let m = mapped_from (moved n) more p.0 c p.2 in
              let ended : option_map (λ (k : ℕ). n + k) m.0.end ≡ Some end = ap (λ (x : CallOf). x.end) m.2 ∙ is in
              let e = end_moved n m.0.end end ended in
              let f = q.all m.0 e.0 (contains_at more p.0 m.0 m.1) e.1 in
              (length turns + f.0, (f.1.0, at_back turns ts f.0 f.1.0 f.1.1, f.1.2 ∙ ap number_of m.2))
        ]

    -- a step of the first segment begins among its marks
    step_below : (i : ℕ) (s : StepOf) → slice_get steps i ≡ Some s → s.begin < n
    step_below i s at =
        let f = o.formed i s at in
        let e : s.begin ≡ f.call.begin = ap (λ (x : StepOf). x.begin) f.step.is in
        omega (arith, e, begins_below first calls f.call a f.known)

    pub placed_join : IsPlaced steps → IsPlaced ss → ((i j : ℕ) (x y : StepOf) → slice_get steps i ≡ Some x → slice_get ss j ≡ Some y → x.response.stamp ≤ℤ y.response.stamp) → IsPlaced all_steps
    placed_join p r rise = record {
      kept = pairs Kept all_steps (ordered_join Kept steps (map (step_moved n) ss) (ordered Kept steps p.kept)
          (ordered_map Kept (step_moved n) ss (λ x y h before. h (before_moved n y.end x.begin before)) (ordered Kept ss r.kept)) kept);
      stamped = pairs Rises all_steps (ordered_join Rises steps (map (step_moved n) ss) (ordered Rises steps p.stamped)
          (ordered_map Rises (step_moved n) ss (λ x y h. h) (ordered Rises ss r.stamped)) rises);
    }
      where
        Kept : StepOf → StepOf → Type 0
        Kept x y = ¬ (Before y x)

        Rises : StepOf → StepOf → Type 0
        Rises x y = x.response.stamp ≤ℤ y.response.stamp

        kept : (i j : ℕ) (x y : StepOf) → slice_get steps i ≡ Some x → slice_get (map (step_moved n) ss) j ≡ Some y → ¬ (Before y x)
        kept i j x y u v =
            let m = mapped_from (step_moved n) ss j y v in
            let P : StepOf → Type 0 = λ z. ¬ (Before z x) in
            subst P m.2 (λ before. never_before n m.0.end x.begin (step_below i x u) before)

        rises : (i j : ℕ) (x y : StepOf) → slice_get steps i ≡ Some x → slice_get (map (step_moved n) ss) j ≡ Some y → x.response.stamp ≤ℤ y.response.stamp
        rises i j x y u v =
            let m = mapped_from (step_moved n) ss j y v in
            let P : StepOf → Type 0 = λ z. x.response.stamp ≤ℤ z.response.stamp in
            subst P m.2 (rise i j x m.0 u m.1)

-- what the second leaves of what the first leaves
pub left_join : (n : ℕ) (declared between left : DeclarationOf) (steps ss : List StepOf) → IsLeft declared steps between → IsLeft between ss left → IsLeft declared (steps ++ map (step_moved n) ss) left
left_join n declared between left steps ss a b = record { objects = b.objects; rules = b.rules ∙ a.rules; grants = b.grants ∙ a.grants; exactly = λ last. (to last, from last) }
  where
    to : (last : List Thing) → Describes left last → CanEnd declared (steps ++ map (step_moved n) ss) last
    to last d =
        let p = (b.exactly last).0 d in
        let q = (a.exactly p.0).0 p.1 in
        let P : RulesOf → Type 0 = λ r. Linked r p.0 ss last in
        (q.0, q.1, linked_join (rules_declared declared) q.0 steps (map (step_moved n) ss) p.0 last q.2 (linked_moved (rules_declared declared) n p.0 ss last (subst P a.rules p.2)))

    from : (last : List Thing) → CanEnd declared (steps ++ map (step_moved n) ss) last → Describes left last
    from last e =
        let p = linked_split (rules_declared declared) e.0 steps (map (step_moved n) ss) last e.2 in
        let P : RulesOf → Type 0 = λ r. Linked r p.0 ss last in
        (b.exactly last).1 (p.0, (a.exactly p.0).1 (e.0, e.1, p.1), subst P (sym a.rules) (linked_back (rules_declared declared) n p.0 ss last p.2))
