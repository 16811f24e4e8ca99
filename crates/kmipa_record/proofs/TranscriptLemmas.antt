-- A transcript that is taken mark by mark.
use Rattle.std.proofs.Common.{◌≡◌, ◌≢◌, ℕ, ℤ, List, [], ◌∷◌, ◌++◌, length, drop, Bool, true, IsTrue, Option, Some, None, refl, sym, ap, subst, ◌∙◌, arith, map, inl, inr}
use Rattle.std.proofs.lemmas.List.{map-append, append-nil, length-append}
use Rattle.kmipa_ttlv.specs.Tree.{Tree}
use Rattle.kmipa_ttlv.specs.Stream.{IsSplit}
use Rattle.kmipa_record.specs.Calls.{HasNone}
use Rattle.kmipa_record.specs.Calls as calls
use Rattle.kmipa_record.specs.Files.{in_bytes, in_item, at_end, IsUpTo, Tells, TellsItem, IsOneItemAtMost}
use Rattle.kmipa_record.specs.Marks.{MarkOf, ends, mark_of, AreRecorded}
use Rattle.kmipa_record.specs.Heads.{label_of}
use Rattle.kmipa_record.specs.MarkReading.{AreThese, FaultBehind, IsRightBehind, AreGivenOf, HasGiven, GivesNext, IsClosed, StandsAt, input_of}
use Rattle.kmipa_record.specs.Seals.{HeadOf, sealed_items}
use Rattle.kmipa_record.specs.Transcripts.{plain_items, plain, IsTranscript, AreRightInTranscript, IsMarkAfter, TranscriptItemFault, of_record, of_mark, TranscriptEndFault, TranscriptFault, IsTranscriptUpTo}
use Rattle.kmipa_record.specs.TranscriptReading.{HaveCome, HaveEnded, IsKnownBy, without_seals, by_head, reported_of}
use Rattle.kmipa_ttlv.specs.Input.{came_of, taken_of, is_ended}
use Rattle.kmipa_ttlv.specs.declared.input.Input.{Input}
use Rattle.kmipa_record.specs.declared.head.Head.{Head}
use Rattle.kmipa_record.specs.declared.calls.Calls.{Calls}
use Rattle.kmipa_record.specs.declared.fault.RecordFault.{RecordFault}
use Rattle.kmipa_record.specs.declared.fault.RecordKind.{RecordKind}
use Rattle.kmipa_record.specs.declared.fault.RecordKind.TheVariants.{Memory}
use Rattle.kmipa_record.specs.declared.marks.Marks.{Marks}
use Rattle.kmipa_record.specs.declared.recorded_marks.RecordedMarks.{RecordedMarks}
use Rattle.kmipa_record.specs.declared.transcript.Mark.{Mark}
use Rattle.kmipa_record.proofs.KindLemmas.{ByCause-map, caused}
use Rattle.kmipa_record.proofs.FileLemmas.{Stands, item_reported, right_here}
use Rattle.kmipa_record.proofs.MarkReadingLemmas.{all_read}
use Rattle.kmipa_record.proofs.SealedReadingLemmas.{run_in, are_marks}
use Rattle.kmipa_record.proofs.SealLemmas.{run_once}
use Rattle.kmipa_record.proofs.TranscriptLawLemmas.{plain_not_sealed}
use Rattle.kmipa_record.proofs.PlaceLemmas.{one_whole, spelled_whole, begins_ahead}
use Rattle.kmipa_record.proofs.CallLemmas.{follow_none, one_more_taken, refused_mark, refused_cause}

-- ---- the first fault

right : (file : List ℕ) (items : List Tree) (marks : List MarkOf) → AreRecorded marks → AreThese file marks items → AreRightInTranscript file items
right file items marks recorded (inl none) = inl none
right file items marks recorded (inr are) = inr (marks, are, recorded)

right_up_to : (file : List ℕ) (marks : List MarkOf) (items : List Tree) (rest : List ℕ) → AreRecorded marks → IsUpTo (AreThese file marks) file items rest → IsUpTo (AreRightInTranscript file) file items rest
right_up_to file marks items rest recorded u = record { right = right file items marks recorded u.right; begins = u.begins }

first_fault : (file : List ℕ) (marks : List MarkOf) (offset : ℕ) (kind : RecordKind) → AreRecorded marks → FaultBehind marks file offset kind → TranscriptFault file offset kind
first_fault file marks offset kind r (in_bytes items rest from flaw u some wrong o k) = in_bytes items rest from flaw (right_up_to file marks items rest r u) some wrong o k
first_fault file marks offset kind r (in_item items item front rest u spelled wrong o) = in_item items item front rest (right_up_to file marks items _ r u) spelled (of_record wrong) o
first_fault file marks offset kind r (at_end items u wrong) = at_end items (right_up_to file marks items [] r u) wrong

-- a fault after marks of a transcript is one of the transcript
pub behind_reported : (file : List ℕ) (marks : List MarkOf) (failed : Bool) (f : RecordFault) → AreRecorded marks → Tells (FaultBehind marks) (IsRightBehind marks) file failed f
    → Tells TranscriptFault IsTranscriptUpTo file failed f
behind_reported file marks failed f r h =
    let here : IsRightBehind marks file f.offset → IsTranscriptUpTo file f.offset =
    λ u. record { items = u.items; rest = u.rest; up_to = right_up_to file marks u.items u.rest r u.up_to; placed = u.placed } in
    ByCause-map f.kind _ _ _ _ _ _ (λ d. (d.0, here d.1)) here (first_fault file marks f.offset f.kind r) h

-- ---- a mark

refused_item : (file : List ℕ) (marks : List MarkOf) (items : List Tree) (old : Calls) (mark : MarkOf) (item : Tree) (kind : RecordKind) → calls.Follow marks old → kind ≢ Memory → calls.Refuses old mark kind
    → IsMarkAfter file marks items mark item → TranscriptItemFault file items item kind
refused_item file marks items old mark item kind follow ne r is = of_mark marks mark is (refused_mark marks old mark kind follow ne r)

stands_right : (came after : List ℕ) (marks : List MarkOf) (mark : MarkOf) (place : ℕ) → AreRecorded marks → (s : StandsAt marks mark place came after)
    → Stands (AreRightInTranscript (came ++ after)) (came ++ after) s.items s.left place
stands_right came after marks mark place recorded s = record { right = inr (marks, s.are, recorded); reading = s.reading }

stands_up_to : (came after : List ℕ) (marks : List MarkOf) (mark : MarkOf) (place offset : ℕ) → AreRecorded marks → StandsAt marks mark place came after → offset ≡ place
    → IsTranscriptUpTo (came ++ after) offset
stands_up_to came after marks mark place offset recorded s o =
    subst (IsTranscriptUpTo (came ++ after)) (sym o)
    (right_here (AreRightInTranscript (came ++ after)) (came ++ after) s.items s.left place (stands_right came after marks mark place recorded s))

-- the calls refuse the mark that stands here
pub refused_reported : (file came after : List ℕ) (marks : List MarkOf) (old : Calls) (mark : MarkOf) (place : ℕ) (failed : Bool) (f : RecordFault) → file ≡ came ++ after
    → AreRecorded marks → calls.Follow marks old → StandsAt marks mark place came after → f.offset ≡ place → calls.Refuses old mark f.kind
    → Tells TranscriptFault IsTranscriptUpTo file failed f
refused_reported file came after marks old mark place failed f e recorded follow s o r =
    let whole = came ++ after in
    subst (λ (l : List ℕ). Tells TranscriptFault IsTranscriptUpTo l failed f) (sym e)
    (refused_cause old mark f.kind _ _ _ r (stands_up_to came after marks mark place f.offset recorded s o)
    (λ ne. subst (λ (n : ℕ). TranscriptFault whole n f.kind) (sym o)
    (item_reported (AreRightInTranscript whole) (TranscriptItemFault whole) TranscriptEndFault whole s.items s.item s.left after place (length came) f.kind
    (stands_right came after marks mark place recorded s) s.taken (refused_item whole marks s.items old mark s.item f.kind follow ne r s.is_mark))))

-- memory runs out at the mark that stands here
pub unkept_reported : (file came after : List ℕ) (marks : List MarkOf) (mark : MarkOf) (place : ℕ) (failed : Bool) (f : RecordFault) → file ≡ came ++ after
    → AreRecorded marks → StandsAt marks mark place came after → f.offset ≡ place → f.kind ≡ Memory → Tells TranscriptFault IsTranscriptUpTo file failed f
unkept_reported file came after marks mark place failed f e recorded s o m =
    subst (λ (l : List ℕ). Tells TranscriptFault IsTranscriptUpTo l failed f) (sym e)
    (caused f.kind Memory _ _ _ m (stands_up_to came after marks mark place f.offset recorded s o))

-- the mark was read whole, and nothing after it
whole_mark : (came : List ℕ) (marks : List MarkOf) (mark : MarkOf) (place offset : ℕ) → StandsAt marks mark place came [] → offset ≡ place → IsOneItemAtMost (drop offset came)
whole_mark came marks mark place offset s o =
    let front = s.taken.front in
    let split : IsSplit (came ++ []) s.items s.left place None = s.reading in
    let b = begins_ahead s.items (came ++ []) s.left split.begins in
    let same : came ≡ b.0 ++ front = sym (append-nil came) ∙ b.1 ∙ ap (λ (l : List ℕ). b.0 ++ l) (s.taken.consumed ∙ append-nil front) in
    one_whole b.0 came front offset (omega (arith, o, s.taken.taken, ap length same, length-append b.0 front)) same (spelled_whole s.item front s.taken.spelled)

pub refused_place : (came : List ℕ) (marks : List MarkOf) (old : Calls) (mark : MarkOf) (place : ℕ) (f : RecordFault) → StandsAt marks mark place came [] → f.offset ≡ place
    → calls.Refuses old mark f.kind → TellsItem came f
refused_place came marks old mark place f s o r = refused_cause old mark f.kind _ _ _ r (whole_mark came marks mark place f.offset s o) (λ ne. tt)

pub unkept_place : (came : List ℕ) (marks : List MarkOf) (mark : MarkOf) (place : ℕ) (f : RecordFault) → StandsAt marks mark place came [] → f.offset ≡ place → f.kind ≡ Memory → TellsItem came f
unkept_place came marks mark place f s o m = caused f.kind Memory _ _ _ m (whole_mark came marks mark place f.offset s o)

-- ---- what has come

no_end : (before after : List MarkOf) (call : ℤ) (message : List ℕ) → [] ≡ before ++ ends call message ∷ after → ⊥
no_end [] after call message e = cc
no_end (mark ∷ before) after call message e = cc

pub none_recorded : AreRecorded []
none_recorded = record {
  numbered = λ k d h. absurd (omega (arith, h));
  once = λ i j d h l. absurd (omega (arith, l));
  few = omega arith;
  answered = λ before after call message e. absurd (no_end before after call message e);
}

pub none_come : {R : Type 0} (m : RecordedMarks R) → HasGiven [] m.source → reported_of m ≡ None → HasNone m.calls → HaveCome [] m
none_come m given untold none = record { given = given; untold = untold; recorded = none_recorded; follow = follow_none m.calls none }

pub one_more_come : {R : Type 0} (m : RecordedMarks R) (marks : List MarkOf) (mark : Mark) (old : Calls) → AreRecorded marks → calls.Follow marks old → calls.Takes old m.calls (mark_of mark)
    → GivesNext marks m.source (Some mark) → reported_of m ≡ None → HaveCome (marks ++ mark_of mark ∷ []) m
one_more_come m marks mark old recorded follow takes gives untold =
    let next = one_more_taken marks (mark_of mark) old m.calls takes recorded follow in
    record { given = gives; untold = untold; recorded = next.0; follow = next.1 }

-- the same, of a list of marks to which the one was put
pub one_more_kept : {R : Type 0} (m : RecordedMarks R) (marks more : List Mark) (mark : Mark) → more ≡ marks ++ mark ∷ [] → HaveCome (map mark_of marks ++ mark_of mark ∷ []) m → HaveCome (map mark_of more) m
one_more_kept m marks more mark e h = subst (λ (l : List MarkOf). HaveCome l m) (sym (ap (map mark_of) e ∙ map-append mark_of marks (mark ∷ []))) h

-- ---- the end

known_now : {R : Type 0} (input : Input R) (head : Option Head) (marks : List MarkOf) → AreGivenOf true head marks input → IsClosed head → IsKnownBy (came_of input) marks head
known_now input None marks given c = without_seals refl (all_read (came_of input) (plain_items marks) (taken_of input) given)
known_now input (Some head) marks run c = by_head head run.records refl c run.sealed run.marks_are

transcript_now : {R : Type 0} (input : Input R) (head : Option Head) (marks : List MarkOf) → AreRecorded marks → AreGivenOf true head marks input → IsClosed head → IsTranscript (came_of input) marks
transcript_now input None marks recorded given c = record {
  items = plain_items marks;
  spelled = all_read (came_of input) (plain_items marks) (taken_of input) given;
  are = plain refl;
  closed = λ run. absurd (plain_not_sealed (came_of input) (plain_items marks) marks refl run);
  recorded = recorded;
}
transcript_now input (Some head) marks recorded run c =
    let whole : came_of input ≡ came_of input ++ [] = sym (append-nil (came_of input)) in
    let items = sealed_items (label_of head.label) run.records in
    let here = run_in input head marks run (came_of input) [] whole in
    record {
      items = items;
      spelled = all_read (came_of input) items (taken_of input) run.read;
      are = are_marks input head marks run (came_of input) [] whole;
      closed = λ other. ap (λ (h : HeadOf). h.closed) (run_once (came_of input) items other here).head ∙ c;
      recorded = recorded;
    }

given_now : {R : Type 0} (source : Marks R) (marks : List MarkOf) → GivesNext marks source None → AreGivenOf true source.head marks (input_of source)
given_now source marks gives = subst (λ (b : Bool). AreGivenOf b source.head marks (input_of source)) gives.1 gives.0

-- all marks have come
pub all_come : {R : Type 0} (source : Marks R) (marks : List MarkOf) → AreRecorded marks → GivesNext marks source None → IsTranscript (came_of (input_of source)) marks × IsTrue (is_ended (input_of source))
all_come source marks recorded gives = (transcript_now (input_of source) source.head marks recorded (given_now source marks gives) gives.3, gives.2)

pub all_known : {R : Type 0} (m : RecordedMarks R) (marks : List MarkOf) → GivesNext marks m.source None → HaveEnded marks m
all_known m marks gives = record { known = known_now (input_of m.source) m.source.head marks (given_now m.source marks gives) gives.3 }
