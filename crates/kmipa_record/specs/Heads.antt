-- What the program knows of a sealed transcript.
use Rattle.std.specs.Prelude.{ℤ, ℕ, List}
use Rattle.std.specs.String.{string_bytes}
use Rattle.kmipa_ttlv.specs.Tree.{Tree}
use Rattle.kmipa_record.specs.Marks.{mark_of}
use Rattle.kmipa_record.specs.Seals.{LabelOf, HeadOf, ContentOf, marked, noted, closed, SealedOf, SaysRecord}
use Rattle.kmipa_record.specs.declared.head.Head.{Head}
use Rattle.kmipa_record.specs.declared.label.Label.{Label}
use Rattle.kmipa_record.specs.declared.sealed_record.Content.{Content}
use Rattle.kmipa_record.specs.declared.sealed_record.Content.TheVariants.{Mark, Note, Close}
use Rattle.kmipa_record.specs.declared.sealed_record.SealedRecord.{SealedRecord}

abbrev pub label_of : Label → LabelOf
label_of label = record { recording = string_bytes label.recording; segment = label.segment; previous = label.previous }

abbrev pub head_of : Head → HeadOf
head_of head = record { seal = head.seal; ahead = head.ahead; moment = head.moment; records = head.records; closed = head.closed }

abbrev pub content_of : Content → ContentOf
content_of (Mark mark) = marked (mark_of mark)
content_of (Note note) = noted note.kind (string_bytes note.text)
content_of (Close records) = closed records

-- the record that these bytes are
abbrev pub sealed_of : List ℕ → SealedRecord → SealedOf
sealed_of bytes r = record { bytes = bytes; content = content_of r.content; moment = r.moment; seal = r.seal }

-- the item is this record
abbrev pub SaysThis : Tree → SealedRecord → Type 0
SaysThis item r = SaysRecord item (content_of r.content) r.moment r.seal

-- the item is a record
abbrev pub IsRecordItem : Tree → Type 0
IsRecordItem item = (content : ContentOf) × (moment : ℤ) × (seal : List ℕ) × SaysRecord item content moment seal

-- the item is no record
abbrev pub IsNoRecordItem : Tree → Type 0
IsNoRecordItem item = (content : ContentOf) (moment : ℤ) (seal : List ℕ) → ¬ (SaysRecord item content moment seal)
