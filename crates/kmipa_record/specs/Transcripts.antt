-- Transcripts: which bytes are one, and what is the first fault of those that are none.
use Rattle.std.specs.Prelude.{◌≡◌, ◌≢◌, ◌⊎◌, ℕ, pos, true, false, List, [], ◌∷◌, ◌++◌, map}
use Rattle.kmipa_ttlv.specs.Tree.{Tree, structure, scalar, none, more, integer}
use Rattle.kmipa_ttlv.specs.Stream.{Begins}
use Rattle.kmipa_record.specs.Files.{FirstFault, IsRightUpTo, rest_place}
use Rattle.kmipa_record.specs.Marks.{MarkOf, mark_of, mark_item, AreRecorded, MarkFault}
use Rattle.kmipa_record.specs.Seals.{LabelOf, IsLabel, sealed_header, HeadOf, SealedOf, marked, SaysRecord, IsRecord, MayStand, StandFault, Sealed, sealed_items, marks_of, item_of}
use Rattle.kmipa_record.specs.Tags.{transcript_header_tag, version_tag}
use Rattle.kmipa_record.specs.declared.fault.RecordKind.{RecordKind}
use Rattle.kmipa_record.specs.declared.fault.RecordKind.TheVariants.{Header, Entry, NoClose}
use Rattle.kmipa_record.specs.declared.transcript.Transcript.{Transcript}

-- the marks of a transcript of the program
abbrev pub transcript_of : Transcript → List MarkOf
transcript_of t = map mark_of t.marks.items

-- the header of one that bears no seals, of version 1
abbrev pub transcript_header : Tree
transcript_header = structure transcript_header_tag (more (scalar version_tag (integer (pos 1))) none)

abbrev pub plain_items : List MarkOf → List Tree
plain_items marks = transcript_header ∷ map mark_item marks

-- the item is a header: of version 1, or of version 2 with a label
abbrev pub IsHeader : Tree → Type 0
IsHeader item = (item ≡ transcript_header) ⊎ ((label : LabelOf) × IsLabel label × (item ≡ sealed_header label))

-- These items are those of a sealed run of records at the front of the file.
pub record SealedUpTo (file : List ℕ) (items : List Tree) : Type 0 where
  pub label : LabelOf
  pub records : List SealedOf
  pub head : HeadOf
  pub came : List ℕ
  pub rest : List ℕ
  pub split : file ≡ came ++ rest
  pub sealed : Sealed came label records head
  pub items_are : items ≡ sealed_items label records

-- these items, with which the file begins, are a header and records that say these marks
pub data AreMarks (file : List ℕ) (marks : List MarkOf) (items : List Tree) : Type 0 where
  plain : items ≡ plain_items marks → AreMarks file marks items
  sealed : (run : SealedUpTo file items) → marks ≡ marks_of run.records → AreMarks file marks items

-- The bytes are a transcript of these marks. A sealed one ends with its close.
pub record IsTranscript (bytes : List ℕ) (marks : List MarkOf) : Type 0 where
  pub items : List Tree
  pub spelled : Begins items bytes []
  pub are : AreMarks bytes marks items
  pub closed : (run : SealedUpTo bytes items) → run.head.closed ≡ true
  pub recorded : AreRecorded marks

-- the same of one without seals
pub record IsPlainTranscript (bytes : List ℕ) (marks : List MarkOf) : Type 0 where
  pub spelled : Begins (plain_items marks) bytes []
  pub recorded : AreRecorded marks

-- ---- the first fault

-- no item is faulty at the front of a transcript: there is none, or the header and records of a transcript
abbrev pub AreRightInTranscript : List ℕ → List Tree → Type 0
AreRightInTranscript file items = (items ≡ []) ⊎ ((marks : List MarkOf) × AreMarks file marks items × AreRecorded marks)

-- the item is this sealed record, which is what is next in the file
pub record IsNext (r : SealedOf) (item : Tree) (rest : List ℕ) : Type 0 where
  pub is : item ≡ item_of r
  pub right : IsRecord r
  pub behind : List ℕ
  pub split : rest ≡ r.bytes ++ behind

-- the item after these can't be read as a header or a record, or may not stand there
pub data IsNoRecord (file : List ℕ) (items : List Tree) (item : Tree) (kind : RecordKind) : Type 0 where
  no_header : items ≡ [] → ¬ (IsHeader item) → kind ≡ Header → IsNoRecord file items item kind
  no_mark : (before : List MarkOf) → items ≡ plain_items before → ((mark : MarkOf) → item ≢ mark_item mark) → kind ≡ Entry → IsNoRecord file items item kind
  no_record : (run : SealedUpTo file items) → ((r : SealedOf) → ¬ (SaysRecord item r.content r.moment r.seal)) → kind ≡ Entry → IsNoRecord file items item kind
  misplaced : (run : SealedUpTo file items) (r : SealedOf) → IsNext r item run.rest → StandFault run.head r kind → IsNoRecord file items item kind

-- the item after those that say these marks is another one
pub data IsMarkAfter (file : List ℕ) (before : List MarkOf) (items : List Tree) (mark : MarkOf) (item : Tree) : Type 0 where
  plain_mark : items ≡ plain_items before → item ≡ mark_item mark → IsMarkAfter file before items mark item
  sealed_mark : (run : SealedUpTo file items) (r : SealedOf) → IsNext r item run.rest → MayStand run.head r → r.content ≡ marked mark → before ≡ marks_of run.records
      → IsMarkAfter file before items mark item

-- the first test that an item fails after these
pub data TranscriptItemFault (file : List ℕ) (items : List Tree) (item : Tree) (kind : RecordKind) : Type 0 where
  of_record : IsNoRecord file items item kind → TranscriptItemFault file items item kind
  of_mark : (before : List MarkOf) (mark : MarkOf) → IsMarkAfter file before items mark item → MarkFault before mark kind → TranscriptItemFault file items item kind

-- what is wrong where the file ends behind these: there is no header, or a sealed one has no close
pub data TranscriptEndFault (file : List ℕ) (items : List Tree) (offset : ℕ) (kind : RecordKind) : Type 0 where
  without_header : items ≡ [] → offset ≡ 0 → kind ≡ Header → TranscriptEndFault file items offset kind
  unclosed : (run : SealedUpTo file items) → run.head.closed ≡ false → offset ≡ rest_place file [] → kind ≡ NoClose → TranscriptEndFault file items offset kind

abbrev pub TranscriptFault : List ℕ → ℕ → RecordKind → Type 0
TranscriptFault file = FirstFault (AreRightInTranscript file) (TranscriptItemFault file) TranscriptEndFault file

abbrev pub IsTranscriptUpTo : List ℕ → ℕ → Type 0
IsTranscriptUpTo file = IsRightUpTo (AreRightInTranscript file) file
