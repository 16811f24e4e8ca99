-- The reading of calls, one mark more.
use Rattle.std.proofs.Common.{◌≡◌, ◌<◌, ◌≤◌, ℕ, zero, suc, ◌+◌, ℤ, List, [], ◌∷◌, ◌++◌, length, map, take, Option, Some, None, slice_get, get_or, Result, Ok, Err, refl, sym, ap, ◌∙◌, subst, arith, add-one}
use Rattle.std.specs.Prelude.{All, MatchResult}
use Rattle.std.specs.String.{string_bytes}
use Rattle.std.proofs.lemmas.List.{take_all, length-map}
use Rattle.std.proofs.lemmas.List.Elements.{All-append, All-nil}
use Rattle.kmipa_record.specs.Marks.{MarkOf, begins, ends, begun, mark_of}
use Rattle.kmipa_record.specs.declared.transcript.Mark.{Mark}
use Rattle.kmipa_record.specs.declared.transcript.Mark
use Rattle.kmipa_record.specs.declared.transcript.Begin.{Begin}
use Rattle.kmipa_record.specs.declared.transcript.End.{End}
use Rattle.kmipa_ttlv.specs.Tree.{Tree}
use Rattle.kmipa_ttlv.specs.ViewTree.{view_tree}
use Rattle.kmipa_ttlv.specs.declared.view.View.{View}
use Rattle.kmipa_msgs.specs.declared.response.Response.{Response}
use Rattle.kmipa_msgs.specs.Messages.{RequestOf, response_of}
use Rattle.kmipa_msgs.specs.Outside.{TellsSaid}
use Rattle.kmipa_msgs.specs.declared.fault.ReadFault
use Rattle.kmipa_msgs.specs.declared.fault.ReadFault.{ReadFault}
use Rattle.kmipa_msgs.specs.declared.fault.Outside.{Outside}
use Rattle.kmipa_msgs.specs.Requests.{RequestFault}
use Rattle.kmipa_msgs.specs.Responses.{ResponseFault}
use Rattle.kmipa_record.specs.declared.call.Call.{Call}
use Rattle.kmipa_check.specs.declared.numbers.FirstPlaces.{FirstPlaces}
use Rattle.kmipa_check.specs.declared.fault.Side.TheVariants.{Client, Server}
use Rattle.kmipa_check.specs.Numbers.{place_in, end_number, StandsFirst, Indexes}
use Rattle.kmipa_msgs.specs.declared.kind.OutsideKind.{OutsideKind}
use Rattle.kmipa_check.specs.declared.fault.Side.{Side}
use Rattle.kmipa_check.specs.declared.fault.CheckFault.{CheckFault}
use Rattle.kmipa_check.specs.declared.fault.CheckFault
use Rattle.kmipa_check.specs.Calls.{CallOf, AreRequest, AreOutside, no_item, outside, HasBegin, HasEnd, has_ended, is_open, IsRecorded, AreCalls, IsOutsideOn, IsFirstOutside, call_of}
use Rattle.kmipa_check.specs.CallReading.{ItemRead, MessageFault, EndRead, IsOutsideAt, BeginsNone, MarkFault, MarkRead, AreReadUpTo, CallsFault, no_message}
use Rattle.kmipa_check.proofs.PlaceLemmas.{at_within, get_at, mapped_at, mapped_from}

-- ---- the numbers that the first marks begin

begun_begin : (marks : List MarkOf) (k : ℕ) (n : ℤ) (client m : List ℕ) → slice_get marks k ≡ Some (begins n client m) → begun (take (suc k) marks) ≡ begun (take k marks) ++ n ∷ []
begun_begin [] k n client m at = absurd cc
begun_begin (begins a b c ∷ marks) zero n client m at = cc
begun_begin (ends a b ∷ marks) zero n client m at = absurd cc
begun_begin (begins a b c ∷ marks) (suc k) n client m at = ap (λ (l : List ℤ). a ∷ l) (begun_begin marks k n client m at)
begun_begin (ends a b ∷ marks) (suc k) n client m at = begun_begin marks k n client m at

begun_end : (marks : List MarkOf) (k : ℕ) (n : ℤ) (m : List ℕ) → slice_get marks k ≡ Some (ends n m) → begun (take (suc k) marks) ≡ begun (take k marks)
begun_end [] k n m at = absurd cc
begun_end (begins a b c ∷ marks) zero n m at = absurd cc
begun_end (ends a b ∷ marks) zero n m at = refl
begun_end (begins a b c ∷ marks) (suc k) n m at = ap (λ (l : List ℤ). a ∷ l) (begun_end marks k n m at)
begun_end (ends a b ∷ marks) (suc k) n m at = begun_end marks k n m at

-- the next number is that of the mark after them
begun_next : (marks : List MarkOf) (k : ℕ) (n : ℤ) (client m : List ℕ) → slice_get marks k ≡ Some (begins n client m) → slice_get (begun marks) (length (begun (take k marks))) ≡ Some n
begun_next [] k n client m at = absurd cc
begun_next (begins a b c ∷ marks) zero n client m at = cc
begun_next (ends a b ∷ marks) zero n client m at = absurd cc
begun_next (begins a b c ∷ marks) (suc k) n client m at = begun_next marks k n client m at
begun_next (ends a b ∷ marks) (suc k) n client m at = begun_next marks k n client m at

begun_front : (marks : List MarkOf) (k : ℕ) → begun (take k marks) ≡ take (length (begun (take k marks))) (begun marks)
begun_front [] zero = refl
begun_front [] (suc k) = refl
begun_front (mark ∷ marks) zero = refl
begun_front (begins a b c ∷ marks) (suc k) = ap (λ (l : List ℤ). a ∷ l) (begun_front marks k)
begun_front (ends a b ∷ marks) (suc k) = begun_front marks k

-- ---- the events of the reading

pub read_none : (marks : List MarkOf) → AreReadUpTo marks 0 []
read_none marks = record { recorded = All-nil (IsRecorded marks); numbers = refl }

map_push : (calls : List CallOf) (c : CallOf) → map (λ (d : CallOf). d.number) (calls ++ c ∷ []) ≡ map (λ (d : CallOf). d.number) calls ++ c.number ∷ []
map_push [] c = refl
map_push (d ∷ calls) c = ap (λ (l : List ℤ). d.number ∷ l) (map_push calls c)

all_one : (P : CallOf → Type 0) (x : CallOf) → P x → All P (x ∷ [])
all_one P x p = λ i d below. by i d below
  where
    by : (i : ℕ) (d : CallOf) → i < 1 → P (get_or (x ∷ []) i d)
    by zero d below = p
    by (suc i) d below = absurd (omega (arith, below))

pub read_call : (marks : List MarkOf) (k : ℕ) (calls : List CallOf) (c : CallOf) → IsRecorded marks c × (c.begin ≡ k) → AreReadUpTo marks k calls → AreReadUpTo marks (suc k) (calls ++ c ∷ [])
read_call marks k calls c h r =
    let P : ℕ → Type 0 = λ p. slice_get marks p ≡ Some (begins c.number h.0.carried.client h.0.asked) in
    let at = subst P h.1 h.0.carried.there in
    record {
      recorded = All-append (IsRecorded marks) calls (c ∷ []) r.recorded (all_one (IsRecorded marks) c h.0);
      numbers = map_push calls c ∙ ap (λ (l : List ℤ). l ++ c.number ∷ []) r.numbers ∙ sym (begun_begin marks k c.number h.0.carried.client h.0.asked at);
    }

begun_behind : (marks : List MarkOf) (k : ℕ) → slice_get marks k ≡ None → begun (take (suc k) marks) ≡ begun (take k marks)
begun_behind [] zero at = refl
begun_behind [] (suc k) at = refl
begun_behind (mark ∷ marks) zero at = absurd cc
begun_behind (begins a b c ∷ marks) (suc k) at = ap (λ (l : List ℤ). a ∷ l) (begun_behind marks k at)
begun_behind (ends a b ∷ marks) (suc k) at = begun_behind marks k at

pub read_other : (marks : List MarkOf) (k : ℕ) (calls : List CallOf) → BeginsNone marks k → AreReadUpTo marks k calls → AreReadUpTo marks (suc k) calls
read_other marks k calls none r = record { recorded = r.recorded; numbers = r.numbers ∙ sym (by (slice_get marks k) refl) }
  where
    by : (v : Option MarkOf) → slice_get marks k ≡ v → begun (take (suc k) marks) ≡ begun (take k marks)
    by None at = begun_behind marks k at
    by (Some (begins n client m)) at = absurd (none n client m at)
    by (Some (ends n m)) at = begun_end marks k n m at

pub read_all : (marks : List MarkOf) (k : ℕ) (calls : List CallOf) → length marks ≤ k → AreReadUpTo marks k calls → AreCalls marks calls
read_all marks k calls within r = record { numbers = r.numbers ∙ ap begun (take_all k marks within); recorded = r.recorded }

outside_first : (marks : List MarkOf) (k : ℕ) (calls : List CallOf) (number : ℤ) (side : Side) (item : ℕ) (kind : OutsideKind) → IsOutsideAt marks k number side item kind
    → map (λ (c : CallOf). c.number) calls ≡ begun (take k marks) → All (IsRecorded marks) calls → IsFirstOutside marks number side item kind
outside_first marks k calls number side item kind o same inside =
    let long : length (begun (take k marks)) ≡ length calls = ap length (sym same) ∙ length-map calls (λ (c : CallOf). c.number) in
    let P : ℕ → Type 0 = λ n. begun (take k marks) ≡ take n (begun marks) in
    let Q : ℕ → Type 0 = λ n. slice_get (begun marks) n ≡ Some number in
    record {
      before = calls;
      inside = record { numbers = same ∙ subst P long (begun_front marks k); recorded = inside };
      next = subst Q long (begun_next marks k number o.carried.client o.asked o.carried.there);
      begin = k;
      asked = o.asked;
      carried = o.carried;
      outside = o.outside;
    }

pub read_fault : (marks : List MarkOf) (k : ℕ) (calls : List CallOf) (fault : CheckFault) → MarkFault marks k fault → AreReadUpTo marks k calls → CallsFault marks fault
read_fault marks k calls (CheckFault.TheVariants.Outside number side o) f r = outside_first marks k calls number side o.item o.kind f r.numbers r.recorded
read_fault marks k calls (CheckFault.TheVariants.Witness w) f r = f
read_fault marks k calls CheckFault.TheVariants.Memory f r = tt

-- ---- the same of the program's values

pub read_err : {X : Type 0} (G : X → Type 0) (lent items : List Mark) (k : ℕ) (calls : List CallOf) (r : Result X CheckFault) (fault : CheckFault) → lent ≡ items → r ≡ Err fault
    → MarkFault (map mark_of lent) k fault → AreReadUpTo (map mark_of items) k calls → MatchResult r G (CallsFault (map mark_of items))
read_err {X} G lent items k calls r fault same e f s =
    let P : List Mark → Type 0 = λ ms. MarkFault (map mark_of ms) k fault in
    let Q : Result X CheckFault → Type 0 = λ x. MatchResult x G (CallsFault (map mark_of items)) in
    subst Q (sym e) (read_fault (map mark_of items) k calls fault (subst P same f) s)

pushed_calls : (old : List Call) (call : Call) → map call_of (old ++ call ∷ []) ≡ map call_of old ++ call_of call ∷ []
pushed_calls [] call = refl
pushed_calls (c ∷ old) call = ap (λ (l : List CallOf). call_of c ∷ l) (pushed_calls old call)

pub read_more : (lent items : List Mark) (k : ℕ) (old new : List Call) (found : Option Call) (call : Call) → lent ≡ items → found ≡ Some call → new ≡ old ++ call ∷ []
    → MarkRead (map mark_of lent) k (Ok found) → AreReadUpTo (map mark_of items) k (map call_of old) → AreReadUpTo (map mark_of items) (k + 1) (map call_of new)
read_more lent items k old new found call same is e h s =
    let P : List Mark → Type 0 = λ ms. MarkRead (map mark_of ms) k (Ok found) in
    let Q : Option Call → Type 0 = λ o. MarkRead (map mark_of items) k (Ok o) in
    let R : ℕ → Type 0 = λ n. AreReadUpTo (map mark_of items) n (map call_of new) in
    let S : List CallOf → Type 0 = λ cs. AreReadUpTo (map mark_of items) (suc k) cs in
    let next = read_call (map mark_of items) k (map call_of old) (call_of call) (subst Q is (subst P same h)) s in
    subst R (sym (add-one k)) (subst S (sym (ap (λ (cs : List Call). map call_of cs) e ∙ pushed_calls old call)) next)

pub read_past : (lent items : List Mark) (k : ℕ) (old new : List Call) (found : Option Call) → lent ≡ items → found ≡ None → new ≡ old
    → MarkRead (map mark_of lent) k (Ok found) → AreReadUpTo (map mark_of items) k (map call_of old) → AreReadUpTo (map mark_of items) (k + 1) (map call_of new)
read_past lent items k old new found same is e h s =
    let P : List Mark → Type 0 = λ ms. MarkRead (map mark_of ms) k (Ok found) in
    let Q : Option Call → Type 0 = λ o. MarkRead (map mark_of items) k (Ok o) in
    let R : ℕ → Type 0 = λ n. AreReadUpTo (map mark_of items) n (map call_of new) in
    let S : List Call → Type 0 = λ cs. AreReadUpTo (map mark_of items) (suc k) (map call_of cs) in
    let next = read_other (map mark_of items) k (map call_of old) (subst Q is (subst P same h)) s in
    subst R (sym (add-one k)) (subst S (sym e) next)

-- ---- one mark

-- no end mark has the number
pub none_ends : (marks : List Mark) (f : FirstPlaces) (n number : ℤ) → n ≡ number → None ≡ place_in f n → Indexes (map (λ mark. end_number (mark_of mark)) marks) f
    → (end : ℕ) (answered : List ℕ) → HasEnd (map mark_of marks) number end answered → ⊥
none_ends marks f n number same none indexes end answered there =
    let x = mapped_from mark_of marks end (ends number answered) there in
    let held : slice_get (map (λ mark. end_number (mark_of mark)) marks) end ≡ Some (Some number) = get_at (λ mark. end_number (mark_of mark)) marks end x.0 x.1 ∙ ap (λ (m : MarkOf). Some (end_number m)) x.2 in
    let Q : Option ℕ → Type 0 = λ v. StandsFirst (map (λ mark. end_number (mark_of mark)) marks) (length (map (λ mark. end_number (mark_of mark)) marks)) n v in
    let R : ℤ → Type 0 = λ z. slice_get (map (λ mark. end_number (mark_of mark)) marks) end ≡ Some (Some z) in
    subst Q (sym none) (indexes n) end (at_within (map (λ mark. end_number (mark_of mark)) marks) end (Some number) held) (subst R (sym same) held)

-- the mark at the noted place has the number
noted_mark : (marks : List Mark) (f : FirstPlaces) (end : ℕ) (mark : Mark) (n : ℤ) → Some end ≡ place_in f n → Indexes (map (λ mark. end_number (mark_of mark)) marks) f → mark ≡ get_or marks end mark
    → (end < length marks) × (end_number (mark_of mark) ≡ Some n)
noted_mark marks f end mark n noted indexes is =
    let Q : Option ℕ → Type 0 = λ v. StandsFirst (map (λ mark. end_number (mark_of mark)) marks) (length (map (λ mark. end_number (mark_of mark)) marks)) n v in
    let first = subst Q (sym noted) (indexes n) in
    let within : end < length marks = omega (arith, first.0, length-map marks (λ (mark : Mark). end_number (mark_of mark))) in
    let there = mapped_at (λ (mark : Mark). end_number (mark_of mark)) marks end mark within is in
    let same : Some (end_number (mark_of mark)) ≡ Some (Some n) = sym there ∙ first.1.there in
    (within, cc)

-- no begin mark stands at a noted place
pub no_begin : (marks : List Mark) (f : FirstPlaces) (end : ℕ) (mark : Mark) (b : Begin) (n : ℤ) → Some end ≡ place_in f n → Indexes (map (λ mark. end_number (mark_of mark)) marks) f
    → mark ≡ get_or marks end mark → mark ≡ Mark.TheVariants.Begin b → ⊥
no_begin marks f end mark b n noted indexes is begin =
    let P : Mark → Type 0 = λ m. end_number (mark_of m) ≡ Some n in
    let clash : None ≡ Some n = subst P begin (noted_mark marks f end mark n noted indexes is).1 in
    absurd cc

pub same_call : (marks : List Mark) (f : FirstPlaces) (end : ℕ) (mark : Mark) (a : End) (n number : ℤ) → Some end ≡ place_in f n → Indexes (map (λ mark. end_number (mark_of mark)) marks) f
    → mark ≡ get_or marks end mark → mark ≡ Mark.TheVariants.End a → n ≡ number → a.call ≡ number
same_call marks f end mark a n number noted indexes is ending same =
    let P : Mark → Type 0 = λ m. end_number (mark_of m) ≡ Some n in
    let held : Some a.call ≡ Some n = subst P ending (noted_mark marks f end mark n noted indexes is).1 in
    let numbers : a.call ≡ n = cc in
    numbers ∙ same

pub end_of_call : (marks : List Mark) (f : FirstPlaces) (end : ℕ) (other : Mark) (a : End) (n number : ℤ) → n ≡ number → Some end ≡ place_in f n → Indexes (map (λ mark. end_number (mark_of mark)) marks) f
    → other ≡ get_or marks end other → other ≡ Mark.TheVariants.End a → HasEnd (map mark_of marks) number end a.message.items
end_of_call marks f end other a n number same noted indexes at ending =
    let Q : Mark → Type 0 = λ m. slice_get (map mark_of marks) end ≡ Some (mark_of m) in
    let R : ℤ → Type 0 = λ z. slice_get (map mark_of marks) end ≡ Some (ends z a.message.items) in
    subst R (same_call marks f end other a n number noted indexes at ending same) (subst Q ending (mapped_at mark_of marks end other (noted_mark marks f end other n noted indexes at).0 at))

pub begin_of_call : (marks : List Mark) (place : ℕ) (mark : Mark) (b : Begin) → place < length marks → mark ≡ get_or marks place mark → mark ≡ Mark.TheVariants.Begin b
    → HasBegin (map mark_of marks) b.call place b.message.items
begin_of_call marks place mark b below is begin =
    let P : Mark → Type 0 = λ m. slice_get (map mark_of marks) place ≡ Some (mark_of m) in
    record { client = string_bytes b.client; there = subst P begin (mapped_at mark_of marks place mark below is) }

fault_at : (marks : List MarkOf) (place : ℕ) (number n : ℤ) (side s : Side) (asked : List ℕ) (item : ℕ) (kind : OutsideKind) → HasBegin marks number place asked
    → IsOutsideOn marks number side asked item kind → n ≡ number → s ≡ side → IsOutsideAt marks place n s item kind
fault_at marks place number n side s asked item kind begin out e f =
    let here : IsOutsideAt marks place number side item kind = record { asked = asked; carried = begin; outside = out } in
    let P : Side → Type 0 = λ x. IsOutsideAt marks place number x item kind in
    let Q : ℤ → Type 0 = λ x. IsOutsideAt marks place x s item kind in
    subst Q (sym e) (subst P (sym f) here)

pub request_wrong : (marks : List MarkOf) (place : ℕ) (number : ℤ) (asked : List ℕ) (r : Result (Option Call) CheckFault) (fault : CheckFault)
    → HasBegin marks number place asked → r ≡ Err fault → MessageFault RequestFault Client number asked fault → MarkRead marks place r
request_wrong marks place number asked r fault begin e h =
    let P : Result (Option Call) CheckFault → Type 0 = λ x. MarkRead marks place x in
    subst P (sym e) (by fault h)
  where
    by : (fault : CheckFault) → MessageFault RequestFault Client number asked fault → MarkFault marks place fault
    by (CheckFault.TheVariants.Outside n s o) h = fault_at marks place number n Client s asked o.item o.kind begin h.2 h.0 h.1
    by (CheckFault.TheVariants.Witness w) h = h
    by CheckFault.TheVariants.Memory h = tt

-- the response of an end mark is outside
pub end_wrong : (marks : List MarkOf) (end : ℕ) (number a : ℤ) (answered : List ℕ) (request : RequestOf) (r : Result (Option (ℕ × Response)) CheckFault) (fault : CheckFault)
    → HasEnd marks number end answered → a ≡ number → r ≡ Err fault → MessageFault (λ t. ResponseFault t request) Server a answered fault → EndRead marks number request r
end_wrong marks end number a answered request r fault h same e reported =
    let P : Result (Option (ℕ × Response)) CheckFault → Type 0 = λ x. EndRead marks number request x in
    subst P (sym e) (by fault reported)
  where
    by : (fault : CheckFault) → MessageFault (λ t. ResponseFault t request) Server a answered fault → EndRead marks number request (Err fault)
    by (CheckFault.TheVariants.Outside n s o) reported = (reported.0 ∙ same, reported.1, (end, answered, h, reported.2))
    by (CheckFault.TheVariants.Witness w) reported = reported
    by CheckFault.TheVariants.Memory reported = tt

pub response_wrong : (marks : List MarkOf) (place : ℕ) (number m : ℤ) (asked : List ℕ) (request : RequestOf) (r : Result (Option Call) CheckFault) (fault : CheckFault)
    → HasBegin marks number place asked → m ≡ number → AreRequest asked request → r ≡ Err fault → EndRead marks m request (Err fault) → MarkRead marks place r
response_wrong marks place number m asked request r fault begin same said e h =
    let P : Result (Option Call) CheckFault → Type 0 = λ x. MarkRead marks place x in
    let Q : ℤ → Type 0 = λ z. EndRead marks z request (Err fault) in
    subst P (sym e) (by fault (subst Q same h))
  where
    by : (fault : CheckFault) → EndRead marks number request (Err fault) → MarkFault marks place fault
    by (CheckFault.TheVariants.Outside n s o) (is, side, (end, answered, there, out)) =
        fault_at marks place number n Server s asked o.item o.kind begin (record { end = end; answered = answered; ended = there; request = request; said = said; outside = out }) is side
    by (CheckFault.TheVariants.Witness w) h = h
    by CheckFault.TheVariants.Memory h = tt

-- a call that has ended, and one that is open
pub call_ended : (marks : List MarkOf) (place end : ℕ) (number n m : ℤ) (asked : List ℕ) (request : RequestOf) (response : Response) → HasBegin marks number place asked → n ≡ number → m ≡ number
    → AreRequest asked request → EndRead marks m request (Ok (Some (end, response)))
    → IsRecorded marks (record { number = n; begin = place; end = Some end; request = request; response = Some (response_of response) })
call_ended marks place end number n m asked request response begin same equal said (answered, there, reported) =
    let P : ℤ → Type 0 = λ z. HasBegin marks z place asked in
    let Q : ℤ → Type 0 = λ z. HasEnd marks z end answered in
    record { asked = asked; carried = subst P (sym same) begin; request = said; ended = has_ended end answered (response_of response) (subst Q (equal ∙ sym same) there) reported refl refl }

pub call_open : (marks : List MarkOf) (place : ℕ) (number n m : ℤ) (asked : List ℕ) (request : RequestOf) → HasBegin marks number place asked → n ≡ number → m ≡ number
    → AreRequest asked request → EndRead marks m request (Ok None) → IsRecorded marks (record { number = n; begin = place; end = None; request = request; response = None })
call_open marks place number n m asked request begin same equal said none =
    let P : ℤ → Type 0 = λ z. HasBegin marks z place asked in
    let Q : ℤ → Type 0 = λ z. (end : ℕ) (answered : List ℕ) → HasEnd marks z end answered → ⊥ in
    record { asked = asked; carried = subst P (sym same) begin; request = said; ended = is_open (subst Q (equal ∙ sym same) none) refl refl }

-- ---- one message

pub nothing_said : (Fault : Tree → ℕ → OutsideKind → Type 0) (side : Side) (n number : ℤ) (lent bytes : List ℕ) (fault : CheckFault) → fault ≡ no_message n side → n ≡ number
    → lent ≡ bytes → ItemRead lent None → MessageFault Fault side number bytes fault
nothing_said Fault side n number lent bytes fault e same f none =
    let P : List ℕ → Type 0 = λ bs. ItemRead bs None in
    let Q : CheckFault → Type 0 = λ x. MessageFault Fault side number bytes x in
    subst Q (sym e) (same, refl, no_item (subst P f none) refl refl)

pub wrong_said : {X M : Type 0} (meaning : X → M) (Said : M → Type 0) (Fault : Tree → ℕ → OutsideKind → Type 0) (lent bytes : List ℕ) (view : View) (fault : ReadFault) (o : Outside)
    → lent ≡ bytes → ItemRead lent (Some view) → fault ≡ ReadFault.TheVariants.Outside o → TellsSaid meaning Said (Fault (view_tree view)) (Err fault)
    → AreOutside Fault bytes o.item o.kind
wrong_said meaning Said Fault lent bytes view fault o f h e reported =
    let P : List ℕ → Type 0 = λ bs. ItemRead bs (Some view) in
    let Q : ReadFault → Type 0 = λ x. TellsSaid meaning Said (Fault (view_tree view)) (Err x) in
    outside (view_tree view) (subst P f h) (subst Q e reported)
