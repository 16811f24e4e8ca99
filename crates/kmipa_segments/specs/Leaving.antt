-- What the check of a segment makes and prints: its verdict, and at a yes the declaration that its run leaves.
use Rattle.std.specs.Prelude.{◌≡◌, ◌<◌, ◌+◌, ℕ, ℤ, List, [], ◌∷◌, ◌++◌, Bool, true, false, Option, Some, None, Result, Ok, Err, codes, length, slice_get}
use Rattle.std.specs.Fmt.{decimal, signed_decimal}
use Rattle.kmipa_record.specs.Marks.{MarkOf}
use Rattle.kmipa_record.specs.Transcripts.{transcript_of, IsTranscript}
use Rattle.kmipa_record.specs.Declarations.{DeclarationOf, declaration_of, IsDeclaration}
use Rattle.kmipa_record.specs.Entries.{EntryOf, IsTooLong}
use Rattle.kmipa_record.specs.Witnesses.{TurnOf, witness_of, IsWitness}
use Rattle.kmipa_check.specs.Audits.{AreRecords, AuditFails}
use Rattle.kmipa_check.specs.Left.{LeavesAtYes}
use Rattle.kmipa_check.specs.Segments.{Leads}
use Rattle.kmipa_check.specs.Since.{ChecksSince, IsAcceptedSince}
use Rattle.kmipa_check.specs.declared.auditing.AuditFault.{AuditFault}
use Rattle.kmipa_check.specs.declared.auditing.AuditRecords.{AuditRecords}
use Rattle.kmipa_check.specs.declared.segment.Left.{Left}
use Rattle.kmipa_check.specs.declared.verdict.Verdict.{Verdict}
use Rattle.kmipa_runs.specs.Dates.{TellsSecond}
use Rattle.kmipa_stream.specs.declared.tally.Tally.{Tally}
use Rattle.kmipa_runs.specs.Lines.{line, yes_text, PrintsFault, PrintsVerdict, TalliesRecorded}
use Rattle.kmipa_jobs.specs.declared.status.Status.{Status}
use Rattle.kmipa_jobs.specs.declared.status.Status.TheVariants as status
use Rattle.kmipa_segments.specs.declared.leaving.Segment.{Segment}

-- ---- what is checked

-- the turns of these records lead, from the moment on, to what is left
abbrev pub RecordsLead : AuditRecords → Option ℤ → Left → Type 0
RecordsLead records since left =
    Leads (declaration_of records.declaration) since (transcript_of records.transcript) (witness_of records.witness) (declaration_of left.declaration) left.until

-- these records are the bytes, the verdict is right for them, from the moment on, and at a yes their turns lead to what is handed out
pub record AreChecked (segment : Segment) (t d w : List ℕ) (since : Option ℤ) : Type 0 where
  pub records : AreRecords segment.records t d w
  pub verdict : ChecksSince (transcript_of segment.records.transcript) (declaration_of segment.records.declaration) since (witness_of segment.records.witness) (Ok segment.checked.verdict)
  pub leads : LeavesAtYes segment.checked.verdict segment.checked.left (λ (left : Left). RecordsLead segment.records since left)

-- what the check of a segment of these three files answers; its faults are those of an audit
abbrev pub ChecksSegment : List ℕ → List ℕ → List ℕ → Bool → Bool → Bool → Option ℤ → Result Segment AuditFault → Type 0
ChecksSegment t d w failed_t failed_d failed_w since (Ok segment) = AreChecked segment t d w since
ChecksSegment t d w failed_t failed_d failed_w since (Err fault) = AuditFails t d w failed_t failed_d failed_w fault

-- ---- what is made and printed

-- a moment as it is printed: its date, or the number of its second where the calendar ends before; or that there is none
abbrev pub IsMomentText : Option ℤ → List ℕ → Type 0
IsMomentText None text = text ≡ codes "none"
IsMomentText (Some second) text = TellsSecond second text

-- the line of what is left: how many entries, and the last Time Stamp
abbrev pub PrintsLeft : Left → List ℕ → Type 0
PrintsLeft left lines = (moment : List ℕ) × IsMomentText left.until moment
    × (lines ≡ line (codes "left: " ∷ decimal (length (declaration_of left.declaration).entries) ∷ codes " entries, last stamp " ∷ moment ∷ []))

-- the line of an entry, counted from 1, that no declaration has, and of a declaration that no bytes are for another reason
abbrev pub entry_line : ℕ → List ℕ
entry_line number = line (codes "left: entry " ∷ decimal number ∷ codes " is too long to be declared" ∷ [])

abbrev pub unwritable_line : List ℕ
unwritable_line = line (codes "left: it can't be declared" ∷ [])

-- the entry at this place, counted from 0, is too long for a declaration
abbrev pub IsTooLongAt : List EntryOf → ℕ → Type 0
IsTooLongAt entries place = (e : EntryOf) × (slice_get entries place ≡ Some e) × IsTooLong e

-- none of those before this place is
abbrev pub NoneTooLongBefore : List EntryOf → ℕ → Type 0
NoneTooLongBefore entries count = (place : ℕ) → place < count → IsTooLongAt entries place → ⊥

-- what is printed where no bytes are the declaration that is left: the first entry that is too long, if one is
pub data PrintsUnwritten (entries : List EntryOf) (lines : List ℕ) : Type 0 where
  too_long : (place : ℕ) → NoneTooLongBefore entries place → IsTooLongAt entries place → lines ≡ entry_line (place + 1) → PrintsUnwritten entries lines
  otherwise : NoneTooLongBefore entries (length entries) → lines ≡ unwritable_line → PrintsUnwritten entries lines

-- What is made and printed of what is left: its declaration, and its line behind those of the answer; or nothing, and why no bytes are it.
pub data TellsLeft (answer : List ℕ) (left : Left) (said : Status) (lines made : List ℕ) : Type 0 where
  made_whole : said ≡ status.Done → (told : List ℕ) → PrintsLeft left told → lines ≡ answer ++ told
      → IsDeclaration made (declaration_of left.declaration) → TellsLeft answer left said lines made
  not_made : said ≡ status.Refused → ((bytes : List ℕ) → ¬ (IsDeclaration bytes (declaration_of left.declaration)))
      → PrintsUnwritten (declaration_of left.declaration).entries lines → made ≡ [] → TellsLeft answer left said lines made

-- what is left, where it is asked for
abbrev pub if_asked : Bool → Option Left → Option Left
if_asked true left = left
if_asked false left = None

-- of a verdict that leaves nothing, or of which nothing is asked for, its lines, and nothing is made
abbrev pub TellsChecked : List MarkOf → DeclarationOf → List TurnOf → Verdict → Option Left → Status → List ℕ → List ℕ → Type 0
TellsChecked marks declared turns verdict None said lines made = PrintsVerdict marks declared turns verdict said lines × (made ≡ [])
TellsChecked marks declared turns verdict (Some left) said lines made =
    (tally : Option Tally) × TalliesRecorded marks declared turns tally × TellsLeft (yes_text tally) left said lines made

-- what is made and printed of a segment that was checked
abbrev pub TellsSegment : Bool → Segment → Status → List ℕ → List ℕ → Type 0
TellsSegment leaves segment said lines made =
    TellsChecked (transcript_of segment.records.transcript) (declaration_of segment.records.declaration) (witness_of segment.records.witness) segment.checked.verdict
    (if_asked leaves segment.checked.left) said lines made

-- and of a fault its own line alone, and nothing is made
abbrev pub PrintsSegment : Bool → Result Segment AuditFault → Status → List ℕ → List ℕ → Type 0
PrintsSegment leaves (Ok segment) said lines made = TellsSegment leaves segment said lines made
PrintsSegment leaves (Err fault) said lines made = PrintsFault fault said lines × (made ≡ [])

-- ---- what status 0 tells

-- The bytes are a transcript, a declaration and a witness that is accepted from the moment on, and leads to this declaration.
pub record Lead (t d w : List ℕ) (since : Option ℤ) (left : DeclarationOf) : Type 0 where
  pub marks : List MarkOf
  pub transcript : IsTranscript t marks
  pub declared : DeclarationOf
  pub declaration : IsDeclaration d declared
  pub turns : List TurnOf
  pub witness : IsWitness w turns
  pub accepted : IsAcceptedSince marks declared since turns
  pub until : Option ℤ
  pub leads : Leads declared since marks turns left until

-- the declaration is made where it is asked for; else nothing is
abbrev pub IsMade : Bool → DeclarationOf → List ℕ → Type 0
IsMade true left made = IsDeclaration made left
IsMade false left made = made ≡ []

-- some declaration is led to, and made where it is asked for
abbrev pub LeadsAsAsked : Bool → List ℕ → List ℕ → List ℕ → Option ℤ → List ℕ → Type 0
LeadsAsAsked leaves t d w since made = (left : DeclarationOf) × Lead t d w since left × IsMade leaves left made
