-- The reading of calls, one mark more.
use Rattle.std.proofs.Common.{◌≡◌, ◌<◌, ◌≤◌, ℕ, zero, suc, ◌+◌, ℤ, List, [], ◌∷◌, ◌++◌, length, map, take, Option, Some, None, option_map, slice_get, get_or, refl, sym, ap, ◌∙◌, subst, arith, add-one}
use Rattle.std.specs.Prelude.{All}
use Rattle.std.specs.String.{string_bytes}
use Rattle.std.proofs.lemmas.List.{take_all}
use Rattle.std.proofs.lemmas.List.Elements.{All-append, All-nil}
use Rattle.kmipa_record.specs.Marks.{MarkOf, begins, ends, begun, mark_of}
use Rattle.kmipa_record.specs.declared.transcript.Mark.{Mark}
use Rattle.kmipa_record.specs.declared.transcript.Mark
use Rattle.kmipa_record.specs.declared.transcript.Begin.{Begin}
use Rattle.kmipa_check.proofs.PlaceLemmas.{mapped_at}
use Rattle.kmipa_turns.specs.declared.recorded.Recorded.{Recorded}
use Rattle.kmipa_turns.specs.Recorded.{RecordedOf, AreRecorded, IsRecorded, has_ended, is_open, recorded_of}
use Rattle.kmipa_turns.specs.Turning.{AreReadUpTo, EndRead, MarkRead}

-- ---- the numbers that the first marks begin

begun_begin : (marks : List MarkOf) (k : ℕ) (n : ℤ) (client m : List ℕ) → slice_get marks k ≡ Some (begins n client m) → begun (take (suc k) marks) ≡ begun (take k marks) ++ n ∷ []
begun_begin [] k n client m at = absurd cc
begun_begin (begins a b c ∷ marks) zero n client m at = cc
begun_begin (ends a b ∷ marks) zero n client m at = absurd cc
begun_begin (begins a b c ∷ marks) (suc k) n client m at = ap (λ (l : List ℤ). a ∷ l) (begun_begin marks k n client m at)
begun_begin (ends a b ∷ marks) (suc k) n client m at = begun_begin marks k n client m at

begun_end : (marks : List MarkOf) (k : ℕ) (n : ℤ) (m : List ℕ) → slice_get marks k ≡ Some (ends n m) → begun (take (suc k) marks) ≡ begun (take k marks)
begun_end [] k n m at = absurd cc
begun_end (begins a b c ∷ marks) zero n m at = absurd cc
begun_end (ends a b ∷ marks) zero n m at = refl
begun_end (begins a b c ∷ marks) (suc k) n m at = ap (λ (l : List ℤ). a ∷ l) (begun_end marks k n m at)
begun_end (ends a b ∷ marks) (suc k) n m at = begun_end marks k n m at

begun_behind : (marks : List MarkOf) (k : ℕ) → slice_get marks k ≡ None → begun (take (suc k) marks) ≡ begun (take k marks)
begun_behind [] zero at = refl
begun_behind [] (suc k) at = refl
begun_behind (mark ∷ marks) zero at = absurd cc
begun_behind (begins a b c ∷ marks) (suc k) at = ap (λ (l : List ℤ). a ∷ l) (begun_behind marks k at)
begun_behind (ends a b ∷ marks) (suc k) at = begun_behind marks k at

-- ---- the events of the reading

pub read_none : (marks : List MarkOf) → AreReadUpTo marks 0 []
read_none marks = record { numbers = refl; recorded = All-nil (IsRecorded marks) }

map_push : (calls : List RecordedOf) (c : RecordedOf) → map (λ (d : RecordedOf). d.number) (calls ++ c ∷ []) ≡ map (λ (d : RecordedOf). d.number) calls ++ c.number ∷ []
map_push [] c = refl
map_push (d ∷ calls) c = ap (λ (l : List ℤ). d.number ∷ l) (map_push calls c)

all_one : (P : RecordedOf → Type 0) (x : RecordedOf) → P x → All P (x ∷ [])
all_one P x p = λ i d below. by i d below
  where
    by : (i : ℕ) (d : RecordedOf) → i < 1 → P (get_or (x ∷ []) i d)
    by zero d below = p
    by (suc i) d below = absurd (omega (arith, below))

read_call : (marks : List MarkOf) (k : ℕ) (calls : List RecordedOf) (c : RecordedOf) → IsRecorded marks c × (c.begin ≡ k) → AreReadUpTo marks k calls → AreReadUpTo marks (suc k) (calls ++ c ∷ [])
read_call marks k calls c h r =
    let P : ℕ → Type 0 = λ p. slice_get marks p ≡ Some (begins c.number c.client c.request) in
    let at = subst P h.1 h.0.begun in
    record {
      numbers = map_push calls c ∙ ap (λ (l : List ℤ). l ++ c.number ∷ []) r.numbers ∙ sym (begun_begin marks k c.number c.client c.request at);
      recorded = All-append (IsRecorded marks) calls (c ∷ []) r.recorded (all_one (IsRecorded marks) c h.0);
    }

read_other : (marks : List MarkOf) (k : ℕ) (calls : List RecordedOf) → MarkRead marks k None → AreReadUpTo marks k calls → AreReadUpTo marks (suc k) calls
read_other marks k calls none r = record { numbers = r.numbers ∙ sym (by (slice_get marks k) refl); recorded = r.recorded }
  where
    by : (v : Option MarkOf) → slice_get marks k ≡ v → begun (take (suc k) marks) ≡ begun (take k marks)
    by None at = begun_behind marks k at
    by (Some (begins n client m)) at = absurd (none n client m at)
    by (Some (ends n m)) at = begun_end marks k n m at

pub read_all : (marks : List MarkOf) (k : ℕ) (calls : List RecordedOf) → length marks ≤ k → AreReadUpTo marks k calls → AreRecorded marks calls
read_all marks k calls within r = record { numbers = r.numbers ∙ ap begun (take_all k marks within); recorded = r.recorded }

-- ---- the same of the program's values

pushed_calls : (old : List Recorded) (call : Recorded) → map recorded_of (old ++ call ∷ []) ≡ map recorded_of old ++ recorded_of call ∷ []
pushed_calls [] call = refl
pushed_calls (c ∷ old) call = ap (λ (l : List RecordedOf). recorded_of c ∷ l) (pushed_calls old call)

pub read_more : (lent items : List Mark) (k : ℕ) (old new : List Recorded) (found : Option Recorded) (call : Recorded) → lent ≡ items → found ≡ Some call → new ≡ old ++ call ∷ []
    → MarkRead (map mark_of lent) k (option_map recorded_of found) → AreReadUpTo (map mark_of items) k (map recorded_of old) → AreReadUpTo (map mark_of items) (k + 1) (map recorded_of new)
read_more lent items k old new found call same is e h s =
    let P : List Mark → Type 0 = λ ms. MarkRead (map mark_of ms) k (option_map recorded_of found) in
    let Q : Option Recorded → Type 0 = λ o. MarkRead (map mark_of items) k (option_map recorded_of o) in
    let R : ℕ → Type 0 = λ n. AreReadUpTo (map mark_of items) n (map recorded_of new) in
    let S : List RecordedOf → Type 0 = λ cs. AreReadUpTo (map mark_of items) (suc k) cs in
    let next = read_call (map mark_of items) k (map recorded_of old) (recorded_of call) (subst Q is (subst P same h)) s in
    subst R (sym (add-one k)) (subst S (sym (ap (λ (cs : List Recorded). map recorded_of cs) e ∙ pushed_calls old call)) next)

pub read_past : (lent items : List Mark) (k : ℕ) (old new : List Recorded) (found : Option Recorded) → lent ≡ items → found ≡ None → new ≡ old
    → MarkRead (map mark_of lent) k (option_map recorded_of found) → AreReadUpTo (map mark_of items) k (map recorded_of old) → AreReadUpTo (map mark_of items) (k + 1) (map recorded_of new)
read_past lent items k old new found same is e h s =
    let P : List Mark → Type 0 = λ ms. MarkRead (map mark_of ms) k (option_map recorded_of found) in
    let Q : Option Recorded → Type 0 = λ o. MarkRead (map mark_of items) k (option_map recorded_of o) in
    let R : ℕ → Type 0 = λ n. AreReadUpTo (map mark_of items) n (map recorded_of new) in
    let S : List Recorded → Type 0 = λ cs. AreReadUpTo (map mark_of items) (suc k) (map recorded_of cs) in
    let next = read_other (map mark_of items) k (map recorded_of old) (subst Q is (subst P same h)) s in
    subst R (sym (add-one k)) (subst S (sym e) next)

pub numbers_read : (marks : List MarkOf) (calls : List Recorded) → AreRecorded marks (map recorded_of calls) → map (λ (c : Recorded). c.number) calls ≡ begun marks
numbers_read marks calls r = mapped calls ∙ r.numbers
  where
    mapped : (calls : List Recorded) → map (λ (c : Recorded). c.number) calls ≡ map (λ (c : RecordedOf). c.number) (map recorded_of calls)
    mapped [] = refl
    mapped (c ∷ calls) = ap (λ (l : List ℤ). c.number ∷ l) (mapped calls)

-- ---- one mark

pub begin_mark : (marks : List Mark) (place : ℕ) (mark : Mark) (b : Begin) → place < length marks → mark ≡ get_or marks place mark → mark ≡ Mark.TheVariants.Begin b
    → slice_get (map mark_of marks) place ≡ Some (begins b.call (string_bytes b.client) b.message.items)
begin_mark marks place mark b below is begin =
    let P : Mark → Type 0 = λ m. slice_get (map mark_of marks) place ≡ Some (mark_of m) in
    subst P begin (mapped_at mark_of marks place mark below is)

module _ (marks : List MarkOf) (c : RecordedOf) (number : ℤ) (client asked : List ℕ) (there : slice_get marks c.begin ≡ Some (begins c.number client asked)) (from : c.client ≡ client)
    (asks : c.request ≡ asked) (same : number ≡ c.number) where
  begun_so : slice_get marks c.begin ≡ Some (begins c.number c.client c.request)
  begun_so = there ∙ ap (λ (l : List ℕ). Some (begins c.number l asked)) (sym from) ∙ ap (λ (l : List ℕ). Some (begins c.number c.client l)) (sym asks)

  pub ended_call : (end : ℕ) (response : List ℕ) → EndRead marks number (Some (end, response)) → c.end ≡ Some end → c.response ≡ Some response → IsRecorded marks c
  ended_call end response h ends_there answered =
      let P : ℤ → Type 0 = λ z. slice_get marks end ≡ Some (ends z response) in
      record { begun = begun_so; ended = has_ended end response (subst P same h) ends_there answered }

  pub open_call : EndRead marks number None → c.end ≡ None → c.response ≡ None → IsRecorded marks c
  open_call h unended unanswered =
      let P : ℤ → Type 0 = λ z. (end : ℕ) (response : List ℕ) → slice_get marks end ≡ Some (ends z response) → ⊥ in
      record { begun = begun_so; ended = is_open (subst P same h) unended unanswered }
