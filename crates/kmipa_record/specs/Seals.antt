-- Sealed transcripts, each a segment of a recording (profile): a header, and records that each end with a seal, SHA-256 (FIPS 180-4)
-- over the seal before it and the record's bytes ahead of its own.
use Rattle.std.specs.Prelude.{◌≡◌, ◌≤◌, ◌↔◌, ℕ, ◌+◌, ◌-◌, min, ◌^◌, ℤ, pos, ◌≤ℤ◌, Bool, true, false, List, [], ◌∷◌, ◌++◌, length, take, drop, replicate, map, Option, None, Some, IfSome}
use Rattle.sha2.specs.Sha256.{sha256}
use Rattle.kmipa_ttlv.specs.Tree.{Tree, Trees, structure, scalar, none, more, integer, enumeration, text, byte_string, date_time_extended}
use Rattle.kmipa_ttlv.specs.Spelling.{Spells}
use Rattle.kmipa_record.specs.Marks.{MarkOf, begins, ends}
use Rattle.kmipa_record.specs.Tags.{transcript_header_tag, version_tag, recording_tag, segment_tag, previous_tag, begin_mark_tag, end_mark_tag, call_tag, client_tag, message_tag, moment_tag, seal_tag, note_tag, note_kind_tag, note_text_tag, close_tag, records_tag}
use Rattle.kmipa_record.specs.declared.fault.RecordKind.{RecordKind}
use Rattle.kmipa_record.specs.declared.fault.RecordKind.TheVariants.{Entry, Seal, Order}

-- ---- seals, over bytes

-- a record's seal is its last 32 bytes
abbrev pub seal_in : List ℕ → List ℕ
seal_in bytes = drop (length bytes - 32) bytes

abbrev pub ahead_of_seal : List ℕ → List ℕ
ahead_of_seal bytes = take (length bytes - 32) bytes

-- the record's seal is right behind the seal before it
pub record IsSealed (before bytes : List ℕ) : Type 0 where
  pub long : 32 ≤ length bytes
  pub right : seal_in bytes ≡ sha256 (before ++ ahead_of_seal bytes)

-- ---- the header

-- which recording it is, which of its segments, and the last seal of the segment before
pub record LabelOf : Type 0 where
  pub recording : List ℕ
  pub segment : ℤ
  pub previous : List ℕ

-- segments are counted from 1, and before the first of them stand zeros in place of a seal
pub record IsLabel (label : LabelOf) : Type 0 where
  pub counted : pos 1 ≤ℤ label.segment
  pub long : length label.previous ≡ 32
  pub first : (label.segment ≡ pos 1) ↔ (label.previous ≡ replicate 32 0)

abbrev pub sealed_header : LabelOf → Tree
sealed_header label = structure transcript_header_tag (more (scalar version_tag (integer (pos 2))) (more (scalar recording_tag (text label.recording))
    (more (scalar segment_tag (integer label.segment)) (more (scalar previous_tag (byte_string label.previous)) none))))

-- ---- the records

-- what a record holds beside its moment and its seal: a mark; a note of a kind; or the close, and how many records are ahead of it
pub data ContentOf : Type 0 where
  marked : MarkOf → ContentOf
  noted : (kind : ℕ) → (words : List ℕ) → ContentOf
  closed : (records : ℤ) → ContentOf

-- a note tells of a connection, of its end, of a message that was not recorded, that recording was resumed, or the operator's words
abbrev pub IsContent : ContentOf → Type 0
IsContent (noted kind words) = (1 ≤ kind) × (kind ≤ 5)
IsContent _ = Unit {0}

-- the fields at the end of each record
abbrev pub seal_fields : ℤ → List ℕ → Trees
seal_fields moment seal = more (scalar moment_tag (date_time_extended moment)) (more (scalar seal_tag (byte_string seal)) none)

-- the item that is the record: exactly these children, in this order
abbrev pub record_item : ContentOf → ℤ → List ℕ → Tree
record_item (marked (begins call client message)) moment seal =
    structure begin_mark_tag (more (scalar call_tag (integer call)) (more (scalar client_tag (text client)) (more (scalar message_tag (byte_string message)) (seal_fields moment seal))))
record_item (marked (ends call message)) moment seal =
    structure end_mark_tag (more (scalar call_tag (integer call)) (more (scalar message_tag (byte_string message)) (seal_fields moment seal)))
record_item (noted kind words) moment seal = structure note_tag (more (scalar note_kind_tag (enumeration kind)) (more (scalar note_text_tag (text words)) (seal_fields moment seal)))
record_item (closed records) moment seal = structure close_tag (more (scalar records_tag (integer records)) (seal_fields moment seal))

-- an item is the record of a content
pub record SaysRecord (item : Tree) (content : ContentOf) (moment : ℤ) (seal : List ℕ) : Type 0 where
  pub is : item ≡ record_item content moment seal
  pub kept : IsContent content
  pub long : length seal ≡ 32

-- a record: its bytes, and what they say; a moment is microseconds since 1970-01-01T00:00:00Z by the recorder's clock
pub record SealedOf : Type 0 where
  pub bytes : List ℕ
  pub content : ContentOf
  pub moment : ℤ
  pub seal : List ℕ

abbrev pub item_of : SealedOf → Tree
item_of r = record_item r.content r.moment r.seal

pub record IsRecord (r : SealedOf) : Type 0 where
  pub spelled : Spells (item_of r) r.bytes
  pub kept : IsContent r.content
  pub long : length r.seal ≡ 32

-- ---- records behind each other

-- what is known behind some records: the last seal, the one that its record stands behind, the last moment, how many there are beside a
-- close, and whether one was the close
pub record HeadOf : Type 0 where
  pub seal : List ℕ
  pub ahead : List ℕ
  pub moment : Option ℤ
  pub records : ℕ
  pub closed : Bool

-- behind a header of these bytes, which stands for its seal
abbrev pub head_at : List ℕ → HeadOf
head_at header = record { seal = sha256 header; ahead = sha256 header; moment = None; records = 0; closed = false }

abbrev pub is_close : ContentOf → Bool
is_close (marked mark) = false
is_close (noted kind words) = false
is_close (closed records) = true

abbrev pub counted : ContentOf → ℕ
counted (marked mark) = 1
counted (noted kind words) = 1
counted (closed records) = 0

-- a count stops at the greatest u64
abbrev pub behind : HeadOf → SealedOf → HeadOf
behind head r = record { seal = seal_in r.bytes; ahead = head.seal; moment = Some r.moment; records = min (head.records + counted r.content) (2 ^ 64 - 1); closed = is_close r.content }

-- a close tells how many records are ahead of it
abbrev pub TellsRecords : ℕ → ContentOf → Type 0
TellsRecords records (closed told) = told ≡ pos records
TellsRecords records _ = Unit {0}

-- The record may stand there: nothing stands behind a close, its seal is right, and no moment is below the one before.
pub record MayStand (head : HeadOf) (r : SealedOf) : Type 0 where
  pub before_close : head.closed ≡ false
  pub sealed : IsSealed head.seal r.bytes
  pub told : TellsRecords head.records r.content
  pub ordered : IfSome head.moment (λ moment. moment ≤ℤ r.moment)

-- the first test that a record fails there
pub data StandFault (head : HeadOf) (r : SealedOf) (kind : RecordKind) : Type 0 where
  behind_close : head.closed ≡ true → kind ≡ Entry → StandFault head r kind
  unsealed : head.closed ≡ false → ¬ (IsSealed head.seal r.bytes) → kind ≡ Seal → StandFault head r kind
  miscounted : head.closed ≡ false → IsSealed head.seal r.bytes → ¬ (TellsRecords head.records r.content) → kind ≡ Seal → StandFault head r kind
  earlier : head.closed ≡ false → IsSealed head.seal r.bytes → TellsRecords head.records r.content → ¬ (IfSome head.moment (λ moment. moment ≤ℤ r.moment)) → kind ≡ Order
      → StandFault head r kind

-- each record may stand where it stands
abbrev pub AreUnbroken : HeadOf → List SealedOf → Type 0
AreUnbroken head [] = Unit {0}
AreUnbroken head (r ∷ records) = IsRecord r × MayStand head r × AreUnbroken (behind head r) records

abbrev pub head_behind : HeadOf → List SealedOf → HeadOf
head_behind head [] = head
head_behind head (r ∷ records) = head_behind (behind head r) records

abbrev pub joined : List SealedOf → List ℕ
joined [] = []
joined (r ∷ records) = r.bytes ++ joined records

-- The bytes are an unbroken run of records, from a header with this label to this head.
pub record Sealed (bytes : List ℕ) (label : LabelOf) (records : List SealedOf) (head : HeadOf) : Type 0 where
  pub labelled : IsLabel label
  pub header : List ℕ
  pub spelled : Spells (sealed_header label) header
  pub bytes_are : bytes ≡ header ++ joined records
  pub unbroken : AreUnbroken (head_at header) records
  pub head_is : head ≡ head_behind (head_at header) records

-- ---- what the records say

abbrev pub marks_in : ContentOf → List MarkOf
marks_in (marked mark) = mark ∷ []
marks_in (noted kind words) = []
marks_in (closed records) = []

-- the marks among the records, in order
abbrev pub marks_of : List SealedOf → List MarkOf
marks_of [] = []
marks_of (r ∷ records) = marks_in r.content ++ marks_of records

-- the items of the header and the records
abbrev pub sealed_items : LabelOf → List SealedOf → List Tree
sealed_items label records = sealed_header label ∷ map item_of records
