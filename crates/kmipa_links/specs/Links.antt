-- Links: the segments of a recording, one behind the other, of which none is missing, doubled or moved, and no call stands in two.
use Rattle.std.specs.Prelude.{◌≡◌, ◌≢◌, ℕ, ℤ, pos, ◌+ℤ◌, true, List, [], ◌∷◌, All, AllPairs, Contains, Option, None, Some}
use Rattle.std.specs.String.{string_bytes}
use Rattle.kmipa_ttlv.specs.Stream.{Begins}
use Rattle.kmipa_record.specs.Marks.{MarkOf, begun}
use Rattle.kmipa_record.specs.Seals.{LabelOf, HeadOf, SealedOf, Sealed}
use Rattle.kmipa_record.specs.Seals as seals
use Rattle.kmipa_record.specs.Transcripts.{IsTranscript, plain_items}
use Rattle.kmipa_links.specs.declared.gap.Gap.{Gap}
use Rattle.kmipa_links.specs.declared.gap.Gap.TheVariants.{Call, Recording, Segment, Previous, NoSeals, Seals}

-- ---- a segment

-- what a sealed segment is known by: the label of its header, its records, and the head behind the last of them
pub record SealsOf : Type 0 where
  pub label : LabelOf
  pub records : List SealedOf
  pub head : HeadOf

-- a segment: its name, the bytes of its transcript, the marks that they say, and its seals, if it bears any
pub record SegmentOf : Type 0 where
  pub name : List ℕ
  pub bytes : List ℕ
  pub marks : List MarkOf
  pub seals : Option SealsOf

-- the bytes bear no seals; or they are sealed from this label up to this head, behind a close, and say these marks
abbrev pub BearsSeals : List ℕ → List MarkOf → Option SealsOf → Type 0
BearsSeals bytes marks None = Begins (plain_items marks) bytes []
BearsSeals bytes marks (Some s) = Sealed bytes s.label s.records s.head × (s.head.closed ≡ true) × (marks ≡ seals.marks_of s.records)

pub record IsSegment (s : SegmentOf) : Type 0 where
  pub transcript : IsTranscript s.bytes s.marks
  pub bears : BearsSeals s.bytes s.marks s.seals

-- ---- segments that are linked

-- A label goes on from another one's head: it is of the same recording, its number is the next, and it holds the last seal.
pub record GoesOnFrom (label : LabelOf) (head : HeadOf) (next : LabelOf) : Type 0 where
  pub recording : next.recording ≡ label.recording
  pub segment : next.segment ≡ label.segment +ℤ pos 1
  pub previous : next.previous ≡ head.seal

-- so do these seals; or there are none on both sides
abbrev pub AreNext : Option SealsOf → Option SealsOf → Type 0
AreNext None None = Unit {0}
AreNext (Some one) (Some next) = GoesOnFrom one.label one.head next.label
AreNext None (Some next) = ⊥
AreNext (Some one) None = ⊥

-- each goes on from the one before
abbrev pub RunOn : List SegmentOf → Type 0
RunOn [] = Unit {0}
RunOn (s ∷ []) = Unit {0}
RunOn (s ∷ t ∷ more) = AreNext s.seals t.seals × RunOn (t ∷ more)

-- no call number stands in both
abbrev pub ShareNoCall : SegmentOf → SegmentOf → Type 0
ShareNoCall s t = (call : ℤ) → Contains (begun s.marks) call → Contains (begun t.marks) call → ⊥

-- The segments are linked: each is sealed from its header to its head and goes on from the head before, or none bears seals; and no call
-- number stands in two.
pub record Linked (segments : List SegmentOf) : Type 0 where
  pub each : All IsSegment segments
  pub run_on : RunOn segments
  pub apart : AllPairs ShareNoCall segments

-- ---- what stands at the ends

-- the seals of the first, and of the last
abbrev pub first_seals : List SegmentOf → Option SealsOf
first_seals [] = None
first_seals (s ∷ more) = s.seals

abbrev pub last_seals : List SegmentOf → Option SealsOf
last_seals [] = None
last_seals (s ∷ []) = s.seals
last_seals (s ∷ t ∷ more) = last_seals (t ∷ more)

-- ---- gaps

-- why a label doesn't go on from another one's head
abbrev pub IsGapBetween : LabelOf → HeadOf → LabelOf → Gap → Type 0
IsGapBetween label head next (Recording told expected) = (string_bytes told ≡ next.recording) × (string_bytes expected ≡ label.recording) × (next.recording ≢ label.recording)
IsGapBetween label head next (Segment told expected) = (told ≡ next.segment) × (expected ≡ label.segment +ℤ pos 1) × (told ≢ expected)
IsGapBetween label head next (Previous told expected) = (told ≡ next.previous) × (expected ≡ head.seal) × (told ≢ expected)
IsGapBetween label head next other = ⊥

-- the same of a segment behind others, by the seals of the last of them and its own
abbrev pub IsGapOfSeals : Option SealsOf → Option SealsOf → Gap → Type 0
IsGapOfSeals (Some one) (Some next) gap = IsGapBetween one.label one.head next.label gap
IsGapOfSeals (Some one) None (NoSeals segment recording) = (segment ≡ one.label.segment +ℤ pos 1) × (string_bytes recording ≡ one.label.recording)
IsGapOfSeals None (Some next) Seals = Unit {0}
IsGapOfSeals one next gap = ⊥

-- a call number of the segment stands in the one of this name too
pub record StandsToo (before : List SegmentOf) (s : SegmentOf) (call : ℤ) (name : List ℕ) : Type 0 where
  pub other : SegmentOf
  pub stands : Contains before other
  pub named : other.name ≡ name
  pub there : Contains (begun other.marks) call
  pub here : Contains (begun s.marks) call

-- why a segment isn't linked behind these
abbrev pub IsGap : List SegmentOf → SegmentOf → Gap → Type 0
IsGap before s (Call call name) = StandsToo before s call (string_bytes name)
IsGap before s gap = (before ≢ []) × IsGapOfSeals (last_seals before) s.seals gap
