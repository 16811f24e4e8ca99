-- Sealed records that are read one at a time.
use Rattle.std.proofs.Common.{◌≡◌, ℕ, List, [], ◌∷◌, ◌++◌, Bool, length, true, false, inr, Option, None, Some, MatchOption, refl, sym, ap, subst, ◌∙◌}
use Rattle.std.specs.Io.{StartsWith, appended_bytes}
use Rattle.std.proofs.lemmas.List.{append-nil, append_assoc, map-append}
use Rattle.kmipa_ttlv.specs.Input.{came_of, taken_of}
use Rattle.kmipa_ttlv.specs.Spelling.{Spells}
use Rattle.kmipa_ttlv.specs.Stream.{IsSplit}
use Rattle.kmipa_ttlv.specs.Tree.{Tree}
use Rattle.kmipa_ttlv.specs.declared.input.Input.{Input}
use Rattle.kmipa_ttlv.proofs.ReadLemmas.{since}
use Rattle.kmipa_record.specs.Files.{Tells, at_end}
use Rattle.kmipa_record.specs.Heads.{label_of, head_of, content_of, sealed_of, IsRecordItem, SaysThis}
use Rattle.kmipa_record.specs.Marks.{MarkOf, mark_of}
use Rattle.kmipa_record.specs.MarkReading.{AreThese, AreGivenOf, IsRun, GivesStep, step_at, StandsAt, FaultBehind, IsRightBehind}
use Rattle.kmipa_record.specs.Reading.{IsReading, Takes, TakesSaid, ReadFails}
use Rattle.kmipa_record.specs.Seals.{IsLabel, sealed_header, head_at, behind, item_of, IsRecord, marked, MayStand, StandFault, Sealed, marks_in, sealed_items}
use Rattle.kmipa_record.specs.Transcripts.{transcript_header, plain_items, SealedUpTo, IsNext, AreMarks, sealed, sealed_mark, IsNoRecord, no_record, misplaced, TranscriptEndFault, unclosed}
use Rattle.kmipa_record.specs.declared.fault.RecordFault.{RecordFault}
use Rattle.kmipa_record.specs.declared.fault.RecordKind.{RecordKind}
use Rattle.kmipa_record.specs.declared.fault.RecordKind.TheVariants.{Entry, NoClose}
use Rattle.kmipa_record.specs.declared.head.Head.{Head}
use Rattle.kmipa_record.specs.declared.label.Label.{Label}
use Rattle.kmipa_record.specs.declared.sealed_record.Content.{Content}
use Rattle.kmipa_record.specs.declared.sealed_record.Content.TheVariants.{Mark, Note, Close}
use Rattle.kmipa_record.specs.declared.sealed_record.SealedRecord.{SealedRecord}
use Rattle.kmipa_record.proofs.FileLemmas.{goes_on, item_reported}
use Rattle.kmipa_record.proofs.MarkReadingLemmas.{at, stands, mark_fails, start_read}
use Rattle.kmipa_record.proofs.NextLemmas.{takes_as, regrouped}
use Rattle.kmipa_record.proofs.SealLemmas.{sealed_more, marks_of-more, stand_cause}

-- the run of each file that begins with what came
abbrev pub run_in : {R : Type 0} (input : Input R) (head : Head) (marks : List MarkOf) (run : IsRun head marks input) (file rest : List ℕ) → file ≡ came_of input ++ rest
    → SealedUpTo file (sealed_items (label_of head.label) run.records)
run_in input head marks run file rest e =
    record { label = label_of head.label; records = run.records; head = head_of head; came = came_of input; rest = rest; split = e; sealed = run.sealed; items_are = refl }

pub are_marks : {R : Type 0} (input : Input R) (head : Head) (marks : List MarkOf) (run : IsRun head marks input) (file rest : List ℕ) → file ≡ came_of input ++ rest
    → AreMarks file marks (sealed_items (label_of head.label) run.records)
are_marks input head marks run file rest e = sealed (run_in input head marks run file rest e) run.marks_are

-- ---- a record that was read

-- what was taken, behind what came before, is the record of these bytes
pub record IsTaken {R : Type 0} (old new : Input R) (bytes : List ℕ) (r : SealedRecord) : Type 0 where
  pub right : IsRecord (sealed_of bytes r)
  pub takes : (after : List ℕ) → Takes (item_of (sealed_of bytes r)) (appended_bytes (came_of old) (came_of new) ++ after) after (taken_of old) (taken_of new)

pub is_taken : {R : Type 0} (old new : Input R) (bytes : List ℕ) (r : SealedRecord) → came_of new ≡ came_of old ++ bytes
    → ((after : List ℕ) → TakesSaid SaysThis (appended_bytes (came_of old) (came_of new) ++ after) after (taken_of old) (taken_of new) r) → IsTaken old new bytes r
is_taken old new bytes r came takes =
    let t = takes [] in
    let all : bytes ≡ t.1.front =
    sym (since (came_of old) (came_of new) bytes came) ∙ sym (append-nil (appended_bytes (came_of old) (came_of new))) ∙ t.1.consumed ∙ append-nil t.1.front in
    record {
      right = record { spelled = subst (λ (i : Tree). Spells i bytes) t.2.is (subst (Spells t.0) (sym all) t.1.spelled); kept = t.2.kept; long = t.2.long };
      takes = λ after. let s = takes after in takes_as (item_of (sealed_of bytes r)) _ _ _ _ (s.0, s.1, s.2.is);
    }

is_next : {R : Type 0} (old new : Input R) (bytes after : List ℕ) (r : SealedRecord) → came_of new ≡ came_of old ++ bytes → IsTaken old new bytes r
    → IsNext (sealed_of bytes r) (item_of (sealed_of bytes r)) (appended_bytes (came_of old) (came_of new) ++ after)
is_next old new bytes after r came t = record { is = refl; right = t.right; behind = after; split = ap (λ (l : List ℕ). l ++ after) (since (came_of old) (came_of new) bytes came) }

split_at : {R : Type 0} (old new : Input R) (bytes file after : List ℕ) → came_of new ≡ came_of old ++ bytes → file ≡ came_of new ++ after → file ≡ came_of old ++ (appended_bytes (came_of old) (came_of new) ++ after)
split_at old new bytes file after came e =
    e ∙ ap (λ (l : List ℕ). l ++ after) came ∙ append_assoc (came_of old) bytes after ∙ ap (λ (l : List ℕ). came_of old ++ (l ++ after)) (sym (since (came_of old) (came_of new) bytes came))

pub run_more : {R : Type 0} (old new : Input R) (head next : Head) (marks : List MarkOf) (bytes : List ℕ) (r : SealedRecord) → came_of new ≡ came_of old ++ bytes
    → StartsWith (came_of new) (came_of old)
    → ((after : List ℕ) → TakesSaid SaysThis (appended_bytes (came_of old) (came_of new) ++ after) after (taken_of old) (taken_of new) r)
    → MayStand (head_of head) (sealed_of bytes r) → head_of next ≡ behind (head_of head) (sealed_of bytes r) → next.label ≡ head.label → IsRun head marks old
    → IsRun next (marks ++ marks_in (content_of r.content)) new
run_more old new head next marks bytes r came s takes may e l run =
    let t = is_taken old new bytes r came takes in
    let one = sealed_of bytes r in
    let label = label_of head.label in
    record {
      records = run.records ++ one ∷ [];
      sealed = subst (λ (n : Label). Sealed (came_of new) (label_of n) (run.records ++ one ∷ []) (head_of next)) (sym l)
          (subst (λ (c : List ℕ). Sealed c label (run.records ++ one ∷ []) (head_of next)) (sym came) (sealed_more (came_of old) label run.records (head_of head) (head_of next) one run.sealed t.right may e));
      marks_are = ap (λ (m : List MarkOf). m ++ marks_in (content_of r.content)) run.marks_are ∙ sym (marks_of-more run.records one);
      read = λ after.
          let reading = at (came_of old) (came_of new) (sealed_items label run.records) (taken_of old) s run.read (came_of new ++ after) after refl in
          let more = goes_on (came_of new ++ after) (sealed_items label run.records) (item_of one) _ after (taken_of old) (taken_of new) (t.takes after) reading in
          subst (λ (n : Label). IsReading (came_of new ++ after) (sealed_items (label_of n) (run.records ++ one ∷ [])) after (taken_of new)) (sym l)
          (subst (λ (i : List Tree). IsReading (came_of new ++ after) (sealed_header label ∷ i) after (taken_of new)) (sym (map-append item_of run.records (one ∷ []))) more);
    }

pub sealed_stands : {R : Type 0} (old new : Input R) (head : Head) (marks : List MarkOf) (mark : MarkOf) (bytes after : List ℕ) (r : SealedRecord) → came_of new ≡ came_of old ++ bytes
    → StartsWith (came_of new) (came_of old)
    → ((after : List ℕ) → TakesSaid SaysThis (appended_bytes (came_of old) (came_of new) ++ after) after (taken_of old) (taken_of new) r)
    → MayStand (head_of head) (sealed_of bytes r) → content_of r.content ≡ marked mark → IsRun head marks old → StandsAt marks mark (taken_of old) (came_of new) after
sealed_stands old new head marks mark bytes after r came s takes may c run =
    let t = is_taken old new bytes r came takes in
    let file = came_of new ++ after in
    let items = sealed_items (label_of head.label) run.records in
    let split = split_at old new bytes file after came refl in
    let front = run_in old head marks run file (appended_bytes (came_of old) (came_of new) ++ after) split in
    record {
      items = items;
      item = item_of (sealed_of bytes r);
      left = appended_bytes (came_of old) (came_of new) ++ after;
      reading = at (came_of old) (came_of new) items (taken_of old) s run.read file after refl;
      are = sealed front run.marks_are;
      is_mark = sealed_mark front (sealed_of bytes r) (is_next old new bytes after r came t) may c run.marks_are;
      taken = t.takes after;
    }

step_given : {R : Type 0} (old new : Input R) (head next : Head) (marks : List MarkOf) (bytes : List ℕ) (r : SealedRecord) (c : Content) → r.content ≡ c → came_of new ≡ came_of old ++ bytes
    → StartsWith (came_of new) (came_of old)
    → ((after : List ℕ) → TakesSaid SaysThis (appended_bytes (came_of old) (came_of new) ++ after) after (taken_of old) (taken_of new) r)
    → MayStand (head_of head) (sealed_of bytes r) → head_of next ≡ behind (head_of head) (sealed_of bytes r) → next.label ≡ head.label → IsRun head marks old
    → GivesStep marks next new (step_at (taken_of old) c)
step_given old new head next marks bytes r (Mark mark) c came s takes may e l run = (
  λ after. sealed_stands old new head marks (mark_of mark) bytes after r came s takes may (ap content_of c) run,
  subst (λ (x : Content). IsRun next (marks ++ marks_in (content_of x)) new) c (run_more old new head next marks bytes r came s takes may e l run),
)
step_given old new head next marks bytes r (Note note) c came s takes may e l run =
    subst (λ (m : List MarkOf). IsRun next m new) (append-nil marks) (subst (λ (x : Content). IsRun next (marks ++ marks_in (content_of x)) new) c (run_more old new head next marks bytes r came s takes may e l run))
step_given old new head next marks bytes r (Close records) c came s takes may e l run =
    subst (λ (m : List MarkOf). IsRun next m new) (append-nil marks) (subst (λ (x : Content). IsRun next (marks ++ marks_in (content_of x)) new) c (run_more old new head next marks bytes r came s takes may e l run))

-- nothing more came
pub run_stays : {R : Type 0} (old new : Input R) (head : Head) (marks : List MarkOf) (bytes : List ℕ) → came_of new ≡ came_of old ++ bytes → StartsWith (came_of new) (came_of old)
    → appended_bytes (came_of old) (came_of new) ≡ [] → IsRun head marks old → IsRun head marks new
run_stays old new head marks bytes came s none run =
    let whole : came_of new ≡ came_of old = came ∙ ap (λ (l : List ℕ). came_of old ++ l) (sym (since (came_of old) (came_of new) bytes came) ∙ none) ∙ append-nil (came_of old) in
    record {
      records = run.records;
      sealed = subst (λ (c : List ℕ). Sealed c (label_of head.label) run.records (head_of head)) (sym whole) run.sealed;
      marks_are = run.marks_are;
      read = subst (λ (c : List ℕ). (after : List ℕ) → IsReading (c ++ after) (sealed_items (label_of head.label) run.records) after (length c)) (sym whole) run.read;
    }

pub sealed_other_fails : {R : Type 0} (old new : Input R) (head : Head) (marks : List MarkOf) (bytes file after : List ℕ) (item : Tree) (failed : Bool) → came_of new ≡ came_of old ++ bytes
    → StartsWith (came_of new) (came_of old) → file ≡ came_of new ++ after → Takes item (appended_bytes (came_of old) (came_of new) ++ after) after (taken_of old) (taken_of new) → ¬ (IsRecordItem item)
    → IsRun head marks old → Tells (FaultBehind marks) (IsRightBehind marks) file failed (record { offset = taken_of old; kind = Entry })
sealed_other_fails old new head marks bytes file after item failed came s e t none run =
    let items = sealed_items (label_of head.label) run.records in
    let split = split_at old new bytes file after came e in
    let rest = appended_bytes (came_of old) (came_of new) ++ after in
    item_reported (AreThese file marks) (IsNoRecord file) TranscriptEndFault file items item rest after (taken_of old) (taken_of new) Entry
    (stands file marks items rest (taken_of old) (are_marks old head marks run file rest split) (at (came_of old) (came_of new) items (taken_of old) s run.read file after e)) t
    (no_record (run_in old head marks run file rest split) (λ r says. none (r.content, r.moment, r.seal, says)) refl)

pub misplaced_fails : {R : Type 0} (old new : Input R) (head : Head) (marks : List MarkOf) (bytes file after : List ℕ) (r : SealedRecord) (kind : RecordKind) (failed : Bool)
    → came_of new ≡ came_of old ++ bytes → StartsWith (came_of new) (came_of old) → file ≡ came_of new ++ after
    → ((after : List ℕ) → TakesSaid SaysThis (appended_bytes (came_of old) (came_of new) ++ after) after (taken_of old) (taken_of new) r)
    → StandFault (head_of head) (sealed_of bytes r) kind → IsRun head marks old → Tells (FaultBehind marks) (IsRightBehind marks) file failed (record { offset = taken_of old; kind = kind })
misplaced_fails old new head marks bytes file after r kind failed came s e takes fault run =
    let t = is_taken old new bytes r came takes in
    let items = sealed_items (label_of head.label) run.records in
    let split = split_at old new bytes file after came e in
    let rest = appended_bytes (came_of old) (came_of new) ++ after in
    stand_cause (head_of head) (sealed_of bytes r) kind _ _ _ fault
    (item_reported (AreThese file marks) (IsNoRecord file) TranscriptEndFault file items (item_of (sealed_of bytes r)) rest after (taken_of old) (taken_of new) kind
    (stands file marks items rest (taken_of old) (are_marks old head marks run file rest split) (at (came_of old) (came_of new) items (taken_of old) s run.read file after e)) (t.takes after)
    (misplaced (run_in old head marks run file rest split) (sealed_of bytes r) (is_next old new bytes after r came t) fault))

-- the end was seen behind what has no close
pub unclosed_fails : {R : Type 0} (old new : Input R) (head : Head) (marks : List MarkOf) (bytes file after : List ℕ) (failed : Bool) → came_of new ≡ came_of old ++ bytes
    → StartsWith (came_of new) (came_of old) → appended_bytes (came_of old) (came_of new) ≡ [] → taken_of new ≡ taken_of old → file ≡ came_of new ++ after → after ≡ [] → head.closed ≡ false
    → IsRun head marks old → Tells (FaultBehind marks) (IsRightBehind marks) file failed (record { offset = taken_of old; kind = NoClose })
unclosed_fails old new head marks bytes file after failed came s none same e end c run =
    let now = run_stays old new head marks bytes came s none run in
    let items = sealed_items (label_of head.label) now.records in
    let whole : file ≡ came_of new ++ [] = e ∙ ap (λ (l : List ℕ). came_of new ++ l) end in
    let reading : IsSplit file items [] (taken_of new) None = subst (λ (l : List ℕ). IsReading l items [] (taken_of new)) (sym whole) (now.read []) in
    at_end items (record { right = inr (are_marks new head marks now file [] whole); begins = reading.begins })
    (unclosed (run_in new head marks now file [] whole) c (sym same ∙ reading.placed) refl)

-- what a record that may stand there gives
pub given_step : {R : Type 0} (old new : Input R) (head next : Head) (marks : List MarkOf) (bytes : List ℕ) (r : SealedRecord) → came_of new ≡ came_of old ++ bytes
    → StartsWith (came_of new) (came_of old)
    → ((after : List ℕ) → TakesSaid SaysThis (appended_bytes (came_of old) (came_of new) ++ after) after (taken_of old) (taken_of new) r)
    → MayStand (head_of head) (sealed_of bytes r) → head_of next ≡ behind (head_of head) (sealed_of bytes r) → next.label ≡ head.label → IsRun head marks old
    → GivesStep marks next new (step_at (taken_of old) r.content)
given_step old new head next marks bytes r came s takes may e l run =
    step_given old new head next marks bytes r r.content refl came s takes may e l run

-- ---- faults

pub sealed_read_fails : {R : Type 0} (old new : Input R) (head : Head) (marks : List MarkOf) (file after : List ℕ) (failed : Bool) (f : RecordFault) → StartsWith (came_of new) (came_of old)
    → file ≡ came_of new ++ after → ReadFails (taken_of old) (appended_bytes (came_of old) (came_of new) ++ after) failed f → IsRun head marks old
    → Tells (FaultBehind marks) (IsRightBehind marks) file failed f
sealed_read_fails old new head marks file after failed f s e h run =
    let items = sealed_items (label_of head.label) run.records in
    let rest = appended_bytes (came_of old) (came_of new) ++ after in
    mark_fails file marks items rest (taken_of old) failed f (are_marks old head marks run file rest (e ∙ regrouped (came_of old) (came_of new) after s))
    (at (came_of old) (came_of new) items (taken_of old) s run.read file after e) h

-- ---- the header

-- behind a header nothing else came yet
pub run_starts : {R : Type 0} (old new : Input R) (head : Head) (label : Label) (marks : List MarkOf) (bytes : List ℕ) → marks ≡ [] → came_of old ≡ [] → came_of new ≡ came_of old ++ bytes
    → ((after : List ℕ) → (item : Tree) × Takes item (came_of new ++ after) after (taken_of old) (taken_of new) × (item ≡ sealed_header (label_of label)))
    → IsLabel (label_of label) → head_of head ≡ head_at bytes → head.label ≡ label → IsRun head marks new
run_starts old new head label marks bytes e none came takes right h l =
    let t = takes [] in
    let whole : came_of new ≡ bytes = came ∙ ap (λ (x : List ℕ). x ++ bytes) none in
    let all : t.1.front ≡ bytes = sym (append-nil t.1.front) ∙ sym t.1.consumed ∙ append-nil (came_of new) ∙ whole in
    record {
      records = [];
      sealed = subst (λ (n : Label). Sealed (came_of new) (label_of n) [] (head_of head)) (sym l) (record {
        labelled = right;
        header = bytes;
        spelled = subst (λ (i : Tree). Spells i bytes) t.2 (subst (Spells t.0) all t.1.spelled);
        bytes_are = whole ∙ sym (append-nil bytes);
        unbroken = tt;
        head_is = h;
      });
      marks_are = e;
      read = λ after.
          subst (λ (n : Label). IsReading (came_of new ++ after) (sealed_items (label_of n) []) after (taken_of new)) (sym l)
          (start_read (came_of new ++ after) after (sealed_header (label_of label)) (taken_of old) (taken_of new) (ap length none) (takes_as (sealed_header (label_of label)) _ _ _ _ (takes after)));
    }

-- behind a header, sealed or not
pub start_given : {R : Type 0} (old new : Input R) (label : Option Label) (head : Option Head) (marks : List MarkOf) (bytes : List ℕ) → marks ≡ [] → came_of old ≡ [] → came_of new ≡ came_of old ++ bytes
    → ((after : List ℕ) → (item : Tree) × Takes item (came_of new ++ after) after (taken_of old) (taken_of new)
    × MatchOption label (item ≡ transcript_header) (λ l. (item ≡ sealed_header (label_of l)) × IsLabel (label_of l)))
    → MatchOption label (head ≡ None) (λ l. MatchOption head ⊥ (λ h. (head_of h ≡ head_at bytes) × (h.label ≡ l))) → AreGivenOf true head marks new
start_given old new None head marks bytes e none came takes h =
    subst (λ (o : Option Head). AreGivenOf true o marks new) (sym h) (λ after.
    subst (λ (m : List MarkOf). IsReading (came_of new ++ after) (plain_items m) after (taken_of new)) (sym e)
    (start_read (came_of new ++ after) after transcript_header (taken_of old) (taken_of new) (ap length none) (takes_as transcript_header _ _ _ _ (takes after))))
start_given old new (Some l) None marks bytes e none came takes h = absurd h
start_given old new (Some l) (Some head) marks bytes e none came takes h =
    run_starts old new head l marks bytes e none came (λ after. let t = takes after in (t.0, t.1, t.2.0)) (let t = takes [] in t.2.1) h.0 h.1
