-- Torn recordings.
use Rattle.std.proofs.Common.{◌≡◌, ℕ, Bool, true, false, IsTrue, List, [], ◌∷◌, ◌++◌, length, take, Option, None, Some, IfSome, refl, sym, ap, subst, ◌∙◌, append_assoc}
use Rattle.std.specs.Io.{StartsWith, appended_bytes}
use Rattle.std.proofs.Math.Seq.{take-append_seam}
use Rattle.std.proofs.lemmas.List.{append-nil}
use Rattle.kmipa_ttlv.specs.Flaw.{OuterFlaw}
use Rattle.kmipa_ttlv.specs.Input.{came_of, taken_of, reader_of, is_ended, is_failed, IsFileOf, IsOver, StaysOver}
use Rattle.kmipa_ttlv.specs.declared.fault.FaultKind.{FaultKind}
use Rattle.kmipa_ttlv.specs.declared.fault.FaultKind.TheVariants.{Truncated}
use Rattle.kmipa_ttlv.specs.declared.input.Input.{Input}
use Rattle.kmipa_ttlv.proofs.ReadLemmas.{since}
use Rattle.kmipa_record.specs.Heads.{label_of, head_of, sealed_of, SaysThis}
use Rattle.kmipa_record.specs.Kinds.{ByCause}
use Rattle.kmipa_record.specs.MarkReading.{AreGivenOf}
use Rattle.kmipa_record.specs.Reading.{TakesSaid, TellsFlawOf, ReadFails}
use Rattle.kmipa_record.specs.Seals.{LabelOf, HeadOf, head_at, behind, is_close, SealedOf, MayStand, AreUnbroken, head_behind, joined, Sealed}
use Rattle.kmipa_record.specs.Torn.{SealedAhead, IsTornAt, EndsTorn, GoesOn, IsSealedUpTo, IsCloseBehind, IsCompleted, end_at}
use Rattle.kmipa_record.specs.declared.fault.RecordFault.{RecordFault}
use Rattle.kmipa_record.specs.declared.fault.RecordKind.{RecordKind}
use Rattle.kmipa_record.specs.declared.fault.RecordKind.TheVariants.{Ttlv}
use Rattle.kmipa_record.specs.declared.head.Head.{Head}
use Rattle.kmipa_record.specs.declared.label.Label.{Label}
use Rattle.kmipa_record.specs.declared.sealed_record.SealedRecord.{SealedRecord}
use Rattle.kmipa_record.specs.declared.torn.Torn.{Torn}
use Rattle.kmipa_record.proofs.NextLemmas.{regrouped}
use Rattle.kmipa_record.proofs.SealLemmas.{joined-append, open_and_closed, sealed_more}
use Rattle.kmipa_record.proofs.SealedReadingLemmas.{is_taken}

-- ---- the last record

-- records up to a close, of which it is the last
record Last (head : HeadOf) (records : List SealedOf) : Type 0 where
  ahead : List SealedOf
  close : SealedOf
  are : records ≡ ahead ++ close ∷ []
  unbroken : AreUnbroken head ahead
  unclosed : (head_behind head ahead).closed ≡ false
  closes : is_close close.content ≡ true
  seal_is : (head_behind head records).ahead ≡ (head_behind head ahead).seal

last_of : (head : HeadOf) (records : List SealedOf) → head.closed ≡ false → AreUnbroken head records → (head_behind head records).closed ≡ true → Last head records
last_of head [] o u c = absurd (open_and_closed head.closed o c)
last_of head (r ∷ []) o u c = record { ahead = []; close = r; are = refl; unbroken = tt; unclosed = o; closes = c; seal_is = refl }
last_of head (r ∷ s ∷ records) o u c =
    let more = last_of (behind head r) (s ∷ records) u.2.1.before_close u.2 c in
    record {
      ahead = r ∷ more.ahead;
      close = more.close;
      are = ap (λ (l : List SealedOf). r ∷ l) more.are;
      unbroken = (u.0, u.1, more.unbroken);
      unclosed = more.unclosed;
      closes = more.closes;
      seal_is = more.seal_is;
    }

pub sealed_ahead_lem : (bytes : List ℕ) (label : LabelOf) (records : List SealedOf) (head : HeadOf) → Sealed bytes label records head → head.closed ≡ true
    → SealedAhead bytes label head.ahead
sealed_ahead_lem bytes label records head s c =
    let h = head_at s.header in
    let x = last_of h records refl s.unbroken (sym (ap (λ (g : HeadOf). g.closed) s.head_is) ∙ c) in
    let parts : joined records ≡ joined x.ahead ++ x.close.bytes =
    ap joined x.are ∙ joined-append x.ahead (x.close ∷ []) ∙ ap (λ (l : List ℕ). joined x.ahead ++ l) (append-nil x.close.bytes) in
    record {
      records = x.ahead;
      head = head_behind h x.ahead;
      whole = s.header ++ joined x.ahead;
      so_far = record {
        sealed = record { labelled = s.labelled; header = s.header; spelled = s.spelled; bytes_are = refl; unbroken = x.unbroken; head_is = refl };
        unclosed = x.unclosed;
      };
      seal_is = sym (ap (λ (g : HeadOf). g.ahead) s.head_is ∙ x.seal_is);
      close = x.close;
      closes = x.closes;
      bytes_are = s.bytes_are ∙ ap (λ (l : List ℕ). s.header ++ l) parts ∙ sym (append_assoc s.header (joined x.ahead) x.close.bytes);
    }

-- ---- how one is read

-- the header came
pub given_up_to : {R : Type 0} (head : Option Head) (input : Input R) → AreGivenOf true head [] input → IfSome head (λ h. IsSealedUpTo h input)
given_up_to None input given = tt
given_up_to (Some head) input run = (run.records, run.sealed)

-- the end behind a head, which may be closed
pub ends_so : {R : Type 0} (head : Head) (input : Input R) (torn : Torn) (closed : Bool) → (closed ≡ false → EndsTorn head input torn) → GoesOn head input (end_at closed torn)
ends_so head input torn true f = tt
ends_so head input torn false f = f refl

-- one more record came
pub sealed_on : {R : Type 0} (old new : Input R) (head next : Head) (bytes : List ℕ) (r : SealedRecord) → came_of new ≡ came_of old ++ bytes
    → ((after : List ℕ) → TakesSaid SaysThis (appended_bytes (came_of old) (came_of new) ++ after) after (taken_of old) (taken_of new) r)
    → MayStand (head_of head) (sealed_of bytes r) → head_of next ≡ behind (head_of head) (sealed_of bytes r) → next.label ≡ head.label → IsSealedUpTo head old
    → IsSealedUpTo next new
sealed_on old new head next bytes r came takes may e l run =
    let t = is_taken old new bytes r came takes in
    let one = sealed_of bytes r in
    let records = run.0 ++ one ∷ [] in (
      records,
      subst (λ (n : Label). Sealed (came_of new) (label_of n) records (head_of next)) (sym l)
          (subst (λ (c : List ℕ). Sealed c (label_of head.label) records (head_of next)) (sym came)
          (sealed_more (came_of old) (label_of head.label) run.0 (head_of head) (head_of next) one run.1 t.right may e)),
    )

-- nothing more came, and the last record is no close
pub torn_whole : {R : Type 0} (old new : Input R) (head : Head) (bytes : List ℕ) (length : ℕ) → came_of new ≡ came_of old ++ bytes
    → appended_bytes (came_of old) (came_of new) ≡ [] → IsTrue (is_ended new) → head.closed ≡ false → length ≡ taken_of old → IsSealedUpTo head old
    → EndsTorn head new (record { length = length; cut = false })
torn_whole old new head bytes n came none ended unclosed long run file is =
    let none' : bytes ≡ [] = sym (since (came_of old) (came_of new) bytes came) ∙ none in
    let same : came_of new ≡ came_of old = came ∙ ap (λ (l : List ℕ). came_of old ++ l) none' ∙ append-nil (came_of old) in
    record {
      records = run.0;
      whole = came_of old;
      rest = is.0;
      split = is.1 ∙ ap (λ (l : List ℕ). l ++ is.0) same;
      long = long;
      so_far = record { sealed = run.1; unclosed = unclosed };
      part = is.2 ended;
    }

-- part of a record came, and the last one is no close
pub torn_part : {R : Type 0} (old new : Input R) (head : Head) (f : RecordFault) (length : ℕ) → StartsWith (came_of new) (came_of old) → f.kind ≡ Ttlv Truncated
    → ((left after : List ℕ) → left ≡ appended_bytes (came_of old) (came_of new) ++ after → (IsTrue (is_ended new) → after ≡ []) → ReadFails (taken_of old) left (is_failed new) f)
    → head.closed ≡ false → length ≡ taken_of old → IsSealedUpTo head old → EndsTorn head new (record { length = length; cut = true })
torn_part old new head f n starts kind fails unclosed long run file is =
    let rest = appended_bytes (came_of old) (came_of new) ++ is.0 in
    let P : RecordKind → Type 0 = λ k. ByCause k (IsTrue (is_failed new) × (f.offset ≡ taken_of old)) (f.offset ≡ taken_of old) (TellsFlawOf (taken_of old) rest f) in
    let t : TellsFlawOf (taken_of old) rest f = subst P kind (fails rest is.0 refl is.2) in
    let same : Ttlv t.flaw ≡ Ttlv Truncated = sym t.kind_is ∙ kind in
    let flaw : t.flaw ≡ Truncated = cc in
    record {
      records = run.0;
      whole = came_of old;
      rest = rest;
      split = is.1 ∙ regrouped (came_of old) (came_of new) is.0 starts;
      long = long;
      so_far = record { sealed = run.1; unclosed = unclosed };
      part = (t.some, (t.from, subst (λ (k : FaultKind). OuterFlaw rest t.from k) flaw t.wrong));
    }

-- an input over these bytes that doesn't fail is of them
pub over_file : {R : Type 0} (remaining : R → Option (List ℕ)) (bytes : List ℕ) (old new : Input R) → came_of old ≡ [] → is_ended old ≡ false
    → remaining (reader_of old) ≡ Some bytes → StaysOver remaining old new → is_failed new ≡ false → IsFileOf bytes new
over_file remaining bytes old new none goes left over works =
    let start : IsOver remaining bytes old = λ f. record {
      rest = bytes;
      left_is = left;
      split = sym (ap (λ (l : List ℕ). l ++ bytes) none);
      end = λ e. let clash : true ≡ false = sym e ∙ goes in absurd cc;
    } in
    let s = over bytes start works in (s.rest, s.split, s.end)

-- ---- the close

-- a close behind the whole records completes the file
pub completes : (file close : List ℕ) (head : Head) (torn : Torn) → IsTornAt file head torn → IsCloseBehind (head_of head) close
    → IsCompleted file (take torn.length file ++ close) torn
completes file close head torn t c =
    let label = label_of head.label in
    let front : take torn.length file ≡ t.whole = ap (λ (n : ℕ). take n file) t.long ∙ ap (take (length t.whole)) t.split ∙ take-append_seam t.whole t.rest in
    let all : take torn.length file ++ close ≡ t.whole ++ c.0.bytes = ap (λ (l : List ℕ). l ++ close) front ∙ ap (λ (l : List ℕ). t.whole ++ l) (sym c.1) in
    let next = behind (head_of head) c.0 in
    record {
      label = label;
      records = t.records;
      head = head_of head;
      whole = t.whole;
      rest = t.rest;
      split = t.split;
      long = t.long;
      so_far = t.so_far;
      part = t.part;
      close = c.0;
      closes = c.4;
      completed_is = all;
      closed = next;
      sealed = subst (λ (l : List ℕ). Sealed l label (t.records ++ c.0 ∷ []) next) (sym all)
          (sealed_more t.whole label t.records (head_of head) next c.0 t.so_far.sealed c.2 c.3 refl);
    }
