-- A chain: segments of one recording, each judged from what the segments before it leave.
use Rattle.std.specs.Prelude.{◌≡◌, ◌⊎◌, ℕ, ℤ, List, ◌++◌, Bool, false, Option, Some, None, Result, Ok, Err, codes}
use Rattle.kmipa_record.specs.Marks.{MarkOf}
use Rattle.kmipa_record.specs.Files.{Tells}
use Rattle.kmipa_record.specs.Transcripts.{transcript_of, IsTranscript, TranscriptFault, IsTranscriptUpTo}
use Rattle.kmipa_record.specs.Declarations.{AreDeclared, DeclarationOf, declaration_of}
use Rattle.kmipa_record.specs.Witnesses.{TurnOf, witness_of, IsWitness, WitnessFault, IsWitnessUpTo}
use Rattle.kmipa_record.specs.declared.witness.Witness.{Witness}
use Rattle.kmipa_check.specs.Audits.{AreATranscript}
use Rattle.kmipa_check.specs.Left.{LeavesAtYes}
use Rattle.kmipa_check.specs.Segments.{AreApart, HaveBegun, Leads}
use Rattle.kmipa_check.specs.Since.{ChecksSince, IsAcceptedSince}
use Rattle.kmipa_check.specs.Verdicts.{Checks}
use Rattle.kmipa_check.specs.declared.auditing.AuditFault.{AuditFault}
use Rattle.kmipa_check.specs.declared.auditing.AuditFault.TheVariants as audit
use Rattle.kmipa_check.specs.declared.fault.CheckFault.{CheckFault}
use Rattle.kmipa_check.specs.declared.segment.Left.{Left}
use Rattle.kmipa_links.specs.Linking.{HasGap, LinksOn}
use Rattle.kmipa_links.specs.declared.links.Links.{Links}
use Rattle.kmipa_orders.specs.declared.found.Found.{Found}
use Rattle.kmipa_orders.specs.declared.found.Found.TheVariants.{Yes, GaveUp, Refuted, Impossible, OutOfTime}
use Rattle.kmipa_runs.specs.Lines.{PrintsFault, PrintsVerdict}
use Rattle.kmipa_searches.specs.Searches.{found_status, searched_text, SearchStops}
use Rattle.kmipa_jobs.specs.Statuses.{IsSilent}
use Rattle.kmipa_jobs.specs.declared.status.Status.{Status}
use Rattle.kmipa_segments.specs.Gaps.{PrintsGap}
use Rattle.kmipa_segments.specs.SegmentSearches.{SearchesSegment}
use Rattle.kmipa_segments.specs.declared.chain.Chain.{Chain}
use Rattle.kmipa_segments.specs.declared.next.NextSegment.{NextSegment}
use Rattle.kmipa_segments.specs.declared.next.Unjudged.{Unjudged}
use Rattle.kmipa_segments.specs.declared.next.Unjudged.TheVariants.{Fault, Gap}
use Rattle.kmipa_segments.specs.declared.segment_search.FoundSegment.{FoundSegment}

-- ---- what the segments so far leave

-- The witness takes the calls of these marks, which may be those of many segments, and leads from the first declaration to what is held; each of
-- the calls has begun among the marks.
pub record AreChained (first : DeclarationOf) (since : Option ℤ) (marks : List MarkOf) (turns : List TurnOf) (held : Left) : Type 0 where
  pub begun : HaveBegun marks
  pub leads : Leads first since marks turns (declaration_of held.declaration) held.until

-- So it is with one segment more, behind those: where no call number stands both in them and in it, the marks of all, one after the other, are
-- accepted from the first declaration by the turns of all, and lead to what is held next.
abbrev pub IsJoined : Left → Left → List MarkOf → List TurnOf → Type 0
IsJoined held next marks turns = (first : DeclarationOf) (since : Option ℤ) (before : List MarkOf) (taken : List TurnOf)
    → AreChained first since before taken held → AreApart before marks
    → AreChained first since (before ++ marks) (taken ++ turns) next × IsAcceptedSince (before ++ marks) first since (taken ++ turns)

-- A segment that these turns explain from what is held: it is accepted from there, whatever its call numbers are, and leads to what is held next.
pub record GoesOn (held next : Left) (marks : List MarkOf) (turns : List TurnOf) : Type 0 where
  pub accepted : IsAcceptedSince marks (declaration_of held.declaration) held.until turns
  pub leads : Leads (declaration_of held.declaration) held.until marks turns (declaration_of next.declaration) next.until
  pub joined : IsJoined held next marks turns

-- The bytes are a segment of these marks, which is linked behind any that were.
pub record AreReadNext (links next : Links) (name t : List ℕ) (marks : List MarkOf) : Type 0 where
  pub transcript : IsTranscript t marks
  pub links_on : LinksOn links next name t marks

-- the chain holds a witness of these turns
pub record Keeps (chain : Chain) (turns : List TurnOf) : Type 0 where
  pub witness : Witness
  pub held : chain.witness ≡ Some witness
  pub is : witness_of witness ≡ turns

-- they are such a segment that goes on from what is held, and the others its witness, which is held next
pub record GoesOnBy (chain next : Chain) (name t w : List ℕ) : Type 0 where
  pub marks : List MarkOf
  pub read : AreReadNext chain.links next.links name t marks
  pub turns : List TurnOf
  pub witness : IsWitness w turns
  pub goes_on : GoesOn chain.held next.held marks turns
  pub keeps : Keeps next turns

-- they are one, by some witness, which is held next
pub record GoesOnSomehow (chain next : Chain) (name t : List ℕ) : Type 0 where
  pub marks : List MarkOf
  pub read : AreReadNext chain.links next.links name t marks
  pub turns : List TurnOf
  pub goes_on : GoesOn chain.held next.held marks turns
  pub keeps : Keeps next turns

-- ---- why a segment isn't judged

-- it can't be read, or it has this gap behind any that were linked
abbrev pub IsUnreadNext : Links → List ℕ → List ℕ → Bool → Unjudged → Type 0
IsUnreadNext links name t failed_t (Fault (audit.Transcript f)) = Tells TranscriptFault IsTranscriptUpTo t failed_t f
IsUnreadNext links name t failed_t (Fault other) = ⊥
IsUnreadNext links name t failed_t (Gap gap) = HasGap links name t gap

-- the name of a segment, and behind it the lines of which this is said
abbrev pub IsNamed : List ℕ → (List ℕ → Type 0) → List ℕ → Type 0
IsNamed name P lines = (told : List ℕ) × P told × (lines ≡ name ++ (codes ": " ++ told))

-- what is printed of it: behind its name the line of the fault, or the line of its gap
abbrev pub PrintsUnjudged : List ℕ → Unjudged → Status → List ℕ → Type 0
PrintsUnjudged name (Fault fault) said lines = IsNamed name (λ told. PrintsFault fault said told) lines
PrintsUnjudged name (Gap gap) said lines = PrintsGap name gap said lines

-- Of what comes of a segment lines are told, as this says, or memory ran out; or it is handed out why the segment isn't judged.
abbrev pub TellsJudged : {A : Type 0} → (A → Status → List ℕ → Type 0) → Result A Unjudged → Result Status Unjudged → List ℕ → Type 0
TellsJudged Tells (Ok judged) (Ok said) lines = Tells judged said lines ⊎ IsSilent said lines
TellsJudged Tells (Err unjudged) (Err why) lines = why ≡ unjudged
TellsJudged Tells (Ok judged) (Err why) lines = ⊥
TellsJudged Tells (Err unjudged) (Ok said) lines = ⊥

-- And this is printed: behind its name those lines, or why it isn't judged.
abbrev pub PrintsJudged : {A : Type 0} → (A → Status → List ℕ → Type 0) → List ℕ → Result A Unjudged → Status → List ℕ → Type 0
PrintsJudged Tells name (Ok judged) said lines = IsNamed name (λ told. Tells judged said told) lines
PrintsJudged Tells name (Err unjudged) said lines = PrintsUnjudged name unjudged said lines

-- ---- what is checked

-- the bytes are these records, which are linked; their verdict is right from what is held on, and at a yes their turns lead to what is handed out
pub record AreCheckedNext (chain : Chain) (next : Links) (name : List ℕ) (segment : NextSegment) (t w : List ℕ) : Type 0 where
  pub read : AreReadNext chain.links next name t (transcript_of segment.transcript)
  pub witness : IsWitness w (witness_of segment.witness)
  pub verdict : ChecksSince (transcript_of segment.transcript) (declaration_of chain.held.declaration) chain.held.until (witness_of segment.witness)
      (Ok segment.checked.verdict)
  pub leads : LeavesAtYes segment.checked.verdict segment.checked.left (λ (left : Left).
      Leads (declaration_of chain.held.declaration) chain.held.until (transcript_of segment.transcript) (witness_of segment.witness) (declaration_of left.declaration) left.until)

-- the bytes are records of which a check from what is held tells this fault
pub record AreUncheckedNext (held : Left) (fault : CheckFault) (t w : List ℕ) : Type 0 where
  pub marks : List MarkOf
  pub transcript : IsTranscript t marks
  pub turns : List TurnOf
  pub witness : IsWitness w turns
  pub checks : Checks marks (declaration_of held.declaration) turns (Err fault)

-- why none is checked: the first fault of the first of the two files that is no record, or the gap of the segment, or the fault of the check. The
-- two truths say which inputs failed
abbrev pub NextFails : Chain → List ℕ → List ℕ → List ℕ → Bool → Bool → Unjudged → Type 0
NextFails chain name t w failed_t failed_w (Fault (audit.Transcript f)) = Tells TranscriptFault IsTranscriptUpTo t failed_t f
NextFails chain name t w failed_t failed_w (Fault (audit.Declaration f)) = ⊥
NextFails chain name t w failed_t failed_w (Fault (audit.Witness f)) = AreATranscript t × Tells WitnessFault IsWitnessUpTo w failed_w f
NextFails chain name t w failed_t failed_w (Fault (audit.Check f)) = AreUncheckedNext chain.held f t w
NextFails chain name t w failed_t failed_w (Gap gap) = HasGap chain.links name t gap

-- what a check of the next segment answers, where these are its links behind it
abbrev pub ChecksNext : Chain → Links → List ℕ → List ℕ → List ℕ → Bool → Bool → Result NextSegment Unjudged → Type 0
ChecksNext chain next name t w failed_t failed_w (Ok segment) = AreCheckedNext chain next name segment t w
ChecksNext chain next name t w failed_t failed_w (Err unjudged) = NextFails chain name t w failed_t failed_w unjudged

-- the lines of the verdict, from what is held on
abbrev pub TellsChecked : Left → NextSegment → Status → List ℕ → Type 0
TellsChecked held segment said lines = PrintsVerdict (transcript_of segment.transcript) (declaration_of held.declaration) (witness_of segment.witness) segment.checked.verdict said lines

-- ---- what is searched

-- the bytes are a segment, which is linked, of which a search from what is held found this
pub record AreSearchedNext (chain : Chain) (next : Links) (name : List ℕ) (segment : FoundSegment) (t : List ℕ) (seconds budget : ℕ) : Type 0 where
  pub marks : List MarkOf
  pub read : AreReadNext chain.links next name t marks
  pub found : SearchesSegment marks (declaration_of chain.held.declaration) chain.held.until seconds budget false (Ok segment)

-- the bytes are a segment with this fault
pub record AreUnsearchedNext (fault : CheckFault) (t : List ℕ) : Type 0 where
  pub marks : List MarkOf
  pub transcript : IsTranscript t marks
  pub stops : SearchStops marks fault

-- what a search of the next segment answers
abbrev pub SearchesNext : Chain → Links → List ℕ → List ℕ → Bool → ℕ → ℕ → Result FoundSegment Unjudged → Type 0
SearchesNext chain next name t failed_t seconds budget (Ok segment) = AreSearchedNext chain next name segment t seconds budget
SearchesNext chain next name t failed_t seconds budget (Err (Fault (audit.Transcript f))) = Tells TranscriptFault IsTranscriptUpTo t failed_t f
SearchesNext chain next name t failed_t seconds budget (Err (Fault (audit.Declaration f))) = ⊥
SearchesNext chain next name t failed_t seconds budget (Err (Fault (audit.Witness f))) = ⊥
SearchesNext chain next name t failed_t seconds budget (Err (Fault (audit.Check f))) = AreUnsearchedNext f t
SearchesNext chain next name t failed_t seconds budget (Err (Gap gap)) = HasGap chain.links name t gap

-- the lines of what was found
abbrev pub TellsSearched : FoundSegment → Status → List ℕ → Type 0
TellsSearched segment said lines = (said ≡ found_status segment.searched.found) × (lines ≡ searched_text segment.searched)

-- the witness that was found, if one was
abbrev pub found_witness : Found → Option Witness
found_witness (Yes witness count) = Some witness
found_witness (GaveUp count) = None
found_witness (Refuted count object) = None
found_witness (Impossible count number) = None
found_witness (OutOfTime count after) = None

-- ---- what is held next

-- something is left that may be declared
abbrev pub IsSomeDeclared : Option Left → Type 0
IsSomeDeclared None = ⊥
IsSomeDeclared (Some left) = AreDeclared (declaration_of left.declaration)

-- something is left exactly where a witness was found, and this is said of it
abbrev pub LeavesWhereFound : Found → Option Left → (Left → Type 0) → Type 0
LeavesWhereFound (Yes witness count) (Some left) P = P left
LeavesWhereFound (Yes witness count) None P = ⊥
LeavesWhereFound (GaveUp count) (Some left) P = ⊥
LeavesWhereFound (GaveUp count) None P = Unit {0}
LeavesWhereFound (Refuted count object) (Some left) P = ⊥
LeavesWhereFound (Impossible count number) (Some left) P = ⊥
LeavesWhereFound (Refuted count object) None P = Unit {0}
LeavesWhereFound (Impossible count number) None P = Unit {0}
LeavesWhereFound (OutOfTime count after) (Some left) P = ⊥
LeavesWhereFound (OutOfTime count after) None P = Unit {0}
