-- What is known of segments that were linked.
use Rattle.std.specs.Prelude.{◌≡◌, ◌⊎◌, ℕ, ℤ, List, [], ◌∷◌, ◌++◌, map, Bool, IsTrue, Option, None, Some, IfSome}
use Rattle.std.specs.String.{string_bytes}
use Rattle.kmipa_ttlv.specs.Input.{came_of, is_ended}
use Rattle.kmipa_record.specs.Heads.{label_of, head_of}
use Rattle.kmipa_record.specs.Files.{Tells}
use Rattle.kmipa_record.specs.Marks.{MarkOf, begun}
use Rattle.kmipa_record.specs.TranscriptReading.{input_of, HaveCome, HaveEnded}
use Rattle.kmipa_record.specs.Transcripts.{IsTranscript, TranscriptFault, IsTranscriptUpTo}
use Rattle.kmipa_record.specs.declared.fault.RecordKind.TheVariants.{Memory}
use Rattle.kmipa_record.specs.declared.head.Head.{Head}
use Rattle.kmipa_record.specs.declared.recorded_marks.RecordedMarks.{RecordedMarks}
use Rattle.kmipa_links.specs.Links.{SegmentOf, SealsOf, IsSegment, IsGap, AreNext, Linked, first_seals, last_seals}
use Rattle.kmipa_links.specs.Numbers.{Know, IsClash, numbers_of}
use Rattle.kmipa_links.specs.declared.gap.Gap.{Gap}
use Rattle.kmipa_links.specs.declared.gap.Unlinked.{Unlinked}
use Rattle.kmipa_links.specs.declared.gap.Unlinked.TheVariants as unlinked
use Rattle.kmipa_links.specs.declared.links.Links.{Links}
use Rattle.kmipa_links.specs.declared.numbers.Clash.{Clash}

-- these seals have this label and this head
pub record Has (head : Head) (seals : SealsOf) : Type 0 where
  pub label : seals.label ≡ label_of head.label
  pub head_is : seals.head ≡ head_of head

abbrev pub HasSeals : Option Head → Option SealsOf → Type 0
HasSeals None None = Unit {0}
HasSeals (Some head) (Some seals) = Has head seals
HasSeals None (Some seals) = ⊥
HasSeals (Some head) None = ⊥

-- the names of the segments, and what stands at their ends
pub record KnowsEnds (segments : List SegmentOf) (links : Links) : Type 0 where
  pub linked : Linked segments
  pub names : map string_bytes links.names.items ≡ map (λ (s : SegmentOf). s.name) segments
  pub last : HasSeals links.last (last_seals segments)
  pub first : IfSome (first_seals segments) (λ seals. seals.label.segment ≡ links.first)

-- These segments were linked, in this order.
pub record HaveLinked (segments : List SegmentOf) (links : Links) : Type 0 where
  pub ends : KnowsEnds segments links
  pub calls : Know (numbers_of segments) links.calls

-- seals may stand behind those of these segments
abbrev pub MayFollow : List SegmentOf → Option SealsOf → Type 0
MayFollow before own = (before ≡ []) ⊎ AreNext (last_seals before) own

-- of the one behind them these call numbers were taken, and this was the first to clash
pub record HasTaken (segments : List SegmentOf) (own : List ℤ) (clash : Option Clash) (links : Links) : Type 0 where
  pub ends : KnowsEnds segments links
  pub calls : Know (numbers_of segments ++ (own ∷ [])) links.calls
  pub clashes : IsClash (numbers_of segments) own clash

-- It is a segment of this name and of these bytes, with these marks.
pub record IsOf (s : SegmentOf) (name bytes : List ℕ) (marks : List MarkOf) : Type 0 where
  pub named : s.name ≡ name
  pub bytes_are : s.bytes ≡ bytes
  pub marks_are : s.marks ≡ marks
  pub is : IsSegment s

-- The segment of this name is linked behind any that were.
pub record LinksOn (old new : Links) (name bytes : List ℕ) (marks : List MarkOf) : Type 0 where
  pub segment : SegmentOf
  pub of : IsOf segment name bytes marks
  pub on : (before : List SegmentOf) → HaveLinked before old → HaveLinked (before ++ (segment ∷ [])) new

-- the segment of this name has this gap behind any that were linked
pub record HasGap (old : Links) (name bytes : List ℕ) (gap : Gap) : Type 0 where
  pub segment : SegmentOf
  pub of : IsOf segment name bytes segment.marks
  pub gap_is : (before : List SegmentOf) → HaveLinked before old → IsGap before segment gap

-- why a segment wasn't linked, where these bytes came of it: its file has this fault, or it has this gap, and their end was seen
abbrev pub IsUnlinked : Links → List ℕ → List ℕ → Bool → Bool → List ℕ → Unlinked → Type 0
IsUnlinked links name came ended failed file (unlinked.Fault fault) = Tells TranscriptFault IsTranscriptUpTo file failed fault
IsUnlinked links name came ended failed file (unlinked.Gap gap) = HasGap links name came gap × IsTrue ended

-- memory ran out at its end, or it has this gap
abbrev pub EndsUnlinked : Links → List ℕ → List ℕ → Unlinked → Type 0
EndsUnlinked links name bytes (unlinked.Fault fault) = fault ≡ record { offset = 0; kind = Memory }
EndsUnlinked links name bytes (unlinked.Gap gap) = HasGap links name bytes gap

-- ---- while a segment is read

-- these marks have come of it, and their calls were taken
pub record IsTakenSoFar {R : Type 0} (marks : List MarkOf) (source : RecordedMarks R) (clash : Option Clash) (old new : Links) : Type 0 where
  pub come : HaveCome marks source
  pub taken : (before : List SegmentOf) → HaveLinked before old → HasTaken before (begun marks) clash new

-- all of its marks have
pub record IsTaken {R : Type 0} (marks : List MarkOf) (source : RecordedMarks R) (clash : Option Clash) (old new : Links) : Type 0 where
  pub transcript : IsTranscript (came_of (input_of source)) marks
  pub seen : IsTrue (is_ended (input_of source))
  pub ended : HaveEnded marks source
  pub taken : (before : List SegmentOf) → HaveLinked before old → HasTaken before (begun marks) clash new
