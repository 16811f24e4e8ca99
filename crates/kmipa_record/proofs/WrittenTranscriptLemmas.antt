-- Transcripts that are written.
use Rattle.std.proofs.Common.{◌≡◌, ◌≢◌, ◌<◌, ◌⊎◌, inl, inr, length, ℕ, suc, List, [], ◌∷◌, ◌++◌, map, take, drop, get_or, refl, subst, arith}
use Rattle.std.specs.Prelude.{All}
use Rattle.std.specs.List.{flat_map}
use Rattle.std.proofs.lemmas.List.{get_or_default}
use Rattle.kmipa_ttlv.specs.Tree.{Tree}
use Rattle.kmipa_ttlv.specs.Stream.{Begins}
use Rattle.kmipa_ttlv.specs.Written.{spelling, Legal}
use Rattle.kmipa_record.specs.Calls.{Follow, Refuses}
use Rattle.kmipa_record.specs.Marks.{MarkOf, mark_of, mark_item, AreRecorded}
use Rattle.kmipa_record.specs.Transcripts.{transcript_header, IsPlainTranscript}
use Rattle.kmipa_record.specs.Writing.{Appends, IsWrittenTranscript, Unwritten, no_memory, no_file, AddsAll, Refused, starved, refused, AreWritable}
use Rattle.kmipa_record.specs.declared.calls.Calls.{Calls}
use Rattle.kmipa_record.specs.declared.transcript.Mark.{Mark}
use Rattle.kmipa_record.specs.declared.fault.RecordKind.{RecordKind}
use Rattle.kmipa_record.specs.declared.fault.RecordKind.TheVariants.{Memory, Entry}
use Rattle.kmipa_record.proofs.CallLemmas.{refused_mark}
use Rattle.kmipa_record.proofs.TranscriptLawLemmas.{no_mark_fault}
use Rattle.kmipa_record.proofs.WritingLemmas.{all_mapped, mapped_here, begins_spelled, legal_in}

-- ---- marks

pub not_recorded : (before after : List MarkOf) (mark : MarkOf) (old : Calls) (kind : RecordKind) → Follow before old → kind ≢ Memory → Refuses old mark kind
    → ¬ (AreRecorded (before ++ mark ∷ after))
not_recorded before after mark old kind follow ne r = λ recorded. no_mark_fault before after mark kind recorded (refused_mark before old mark kind follow ne r)

-- a mark that is refused, so that marks with it are
pub mark_refused : (marks : List Mark) (i : ℕ) (mark : Mark) (old : Calls) (kind reported : RecordKind) → i < length marks → mark ≡ get_or marks i mark
    → Follow (map mark_of (take i marks)) old → Refuses old (mark_of mark) kind → ((kind ≡ Memory) × (reported ≡ Memory)) ⊎ ((kind ≢ Memory) × (reported ≡ Entry))
    → Refused (AreRecorded (map mark_of marks)) reported
mark_refused marks i mark old kind reported h is follow r (inl m) = starved m.1
mark_refused marks i mark old kind reported h is follow r (inr e) =
    refused e.1 (λ all. not_recorded (map mark_of (take i marks)) (map mark_of (drop (suc i) marks)) (mark_of mark) old kind follow e.0 r
    (subst AreRecorded (mapped_here mark_of marks i mark h is) all))

-- each mark breaks no limit, as what is written of it
pub legal_all : (marks : List Mark) → AreWritable (map mark_of marks) → All (λ mark. Legal 16 (mark_item (mark_of mark))) marks
legal_all marks able = all_mapped mark_of (λ mark. Legal 16 (mark_item mark)) marks able.legal

-- ---- whole transcripts

pub header_legal : Legal 16 transcript_header
header_legal = record { levels = omega arith; sound = (tt, tt); small = omega arith }

writable : (bytes : List ℕ) (marks : List MarkOf) → IsPlainTranscript bytes marks → AreWritable marks
writable bytes marks t = record {
  recorded = t.recorded;
  legal = λ k d h.
      let mark = get_or marks k d in
      legal_in (transcript_header ∷ map mark_item (take k marks)) (map mark_item (drop (suc k) marks)) (mark_item mark) bytes []
      (subst (λ (l : List Tree). Begins (transcript_header ∷ l) bytes []) (mapped_here mark_item marks k mark h (get_or_default marks k d mark h)) t.spelled);
}

pub unwritten : (marks : List MarkOf) (kind : RecordKind) → Refused (AreWritable marks) kind → Unwritten (λ bytes. IsPlainTranscript bytes marks) (record { offset = 0; kind = kind })
unwritten marks kind (starved k) = no_memory k
unwritten marks kind (refused k n) = no_file refl k (λ bytes t. n (writable bytes marks t))

pub written : (marks : List MarkOf) (old new : List ℕ) → AddsAll (transcript_header ∷ map mark_item marks) old new → AreRecorded marks → Appends (IsWrittenTranscript marks) old new
written marks old new all recorded = record {
  appended = flat_map spelling (transcript_header ∷ map mark_item marks);
  after = all.after;
  is = record {
    padded = record { items = transcript_header ∷ map mark_item marks; are = refl };
    is = record { spelled = begins_spelled (transcript_header ∷ map mark_item marks) all.spelled; recorded = recorded };
  };
}
