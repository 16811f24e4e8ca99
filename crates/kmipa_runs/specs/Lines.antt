-- What is printed of a verdict or a fault, and the status that goes with it.
use Rattle.std.specs.Prelude.{◌≡◌, ◌⊎◌, ◌+◌, ℕ, ℤ, Bool, false, List, [], ◌∷◌, ◌++◌, codes, Option, Some, None, Result, Ok, Err}
use Rattle.std.specs.Fmt.{decimal, signed_decimal}
use Rattle.std.specs.Io.{StartsWith}
use Rattle.kmipa_ttlv.specs.Flaw.{fault_name}
use Rattle.kmipa_ttlv.specs.Stream.{capped}
use Rattle.kmipa_msgs.specs.Kinds as messages
use Rattle.kmipa_ops.specs.Whys.{why_number, why_name}
use Rattle.kmipa_record.specs.Kinds as files
use Rattle.kmipa_record.specs.declared.fault.RecordKind.{RecordKind}
use Rattle.kmipa_record.specs.declared.fault.RecordKind.TheVariants.{Ttlv, Device, Memory}
use Rattle.kmipa_record.specs.Declarations.{DeclarationOf}
use Rattle.kmipa_record.specs.Marks.{AreRecorded, MarkOf}
use Rattle.kmipa_record.specs.Witnesses.{TurnOf, IsWitness}
use Rattle.kmipa_record.specs.Transcripts.{IsTranscript}
use Rattle.kmipa_check.specs.Audits.{AreAccepted}
use Rattle.kmipa_check.specs.Kinds as witnesses
use Rattle.kmipa_check.specs.Stamps.{IsAnsweredAt, TellsStamp}
use Rattle.kmipa_check.specs.declared.auditing.AuditFault.{AuditFault}
use Rattle.kmipa_check.specs.declared.auditing.AuditFault.TheVariants as audit
use Rattle.kmipa_check.specs.declared.fault.CheckFault.{CheckFault}
use Rattle.kmipa_check.specs.declared.fault.CheckFault.TheVariants as check
use Rattle.kmipa_check.specs.declared.fault.Side.{Side}
use Rattle.kmipa_check.specs.declared.fault.Side.TheVariants.{Client, Server}
use Rattle.kmipa_check.specs.declared.verdict.Refused.{Refused}
use Rattle.kmipa_check.specs.declared.verdict.Verdict.{Verdict}
use Rattle.kmipa_check.specs.declared.verdict.Verdict.TheVariants as verdict
use Rattle.kmipa_stream.specs.Counting.{HaveTally, TalliesSo}
use Rattle.kmipa_stream.specs.Streams.{WasAnsweredAt}
use Rattle.kmipa_stream.specs.declared.tally.Tally.{Tally}
use Rattle.kmipa_runs.specs.Dates.{TellsSecond}
use Rattle.kmipa_jobs.specs.Statuses.{IsSilent}
use Rattle.kmipa_jobs.specs.declared.status.Status.{Status}
use Rattle.kmipa_jobs.specs.declared.status.Status.TheVariants as status

-- pieces of text on one line, with its line feed
abbrev pub line : List (List ℕ) → List ℕ
line [] = 10 ∷ []
line (piece ∷ pieces) = piece ++ line pieces

abbrev pub yes_line : List ℕ
yes_line = line (codes "yes" ∷ [])

-- the line of what became of the items of a run, where what isn't judged is set aside: how many were judged, of how many, and how many were
-- set aside by what
abbrev pub tally_line : Tally → List ℕ
tally_line t = line (codes "judged: " ∷ decimal t.judged ∷ codes " of " ∷ decimal (capped (t.judged + t.by_request)) ∷ codes " items; set aside: "
    ∷ decimal t.by_request ∷ codes " by request, 0 by answer, 0 by witness, 0 by object" ∷ [])

-- none where nothing is told of them
abbrev pub tally_text : Option Tally → List ℕ
tally_text None = []
tally_text (Some tally) = tally_line tally

-- the lines of a yes
abbrev pub yes_text : Option Tally → List ℕ
yes_text tally = yes_line ++ tally_text tally

abbrev pub AreYesLines : List ℕ → Type 0
AreYesLines lines = (tally : Option Tally) × (lines ≡ yes_text tally)

abbrev pub no_line : Refused → List ℕ
no_line r = line (codes "no: turn " ∷ decimal r.turn ∷ codes " call " ∷ signed_decimal r.call
    ∷ codes " item " ∷ decimal r.item ∷ codes " why " ∷ decimal (why_number r.why) ∷ codes " " ∷ why_name r.why ∷ [])

abbrev pub device_line : List ℕ
device_line = line (codes "device" ∷ [])

-- which of its two messages a call's fault is of
abbrev pub side_name : Side → List ℕ
side_name Client = codes "request"
side_name Server = codes "response"

-- a fault of the file with this name, at this offset; nothing is said where memory ran out
abbrev pub record_text : List ℕ → ℕ → RecordKind → List ℕ
record_text file offset Device = device_line
record_text file offset Memory = []
record_text file offset (Ttlv kind) = line (codes "malformed: " ∷ file ∷ codes " offset " ∷ decimal offset
    ∷ codes " kind 1 Ttlv " ∷ fault_name kind ∷ [])
record_text file offset kind = line (codes "malformed: " ∷ file ∷ codes " offset " ∷ decimal offset
    ∷ codes " kind " ∷ decimal (files.kind_number kind) ∷ codes " " ∷ files.kind_name kind ∷ [])

abbrev pub record_status : RecordKind → Status
record_status Device = status.Failed
record_status Memory = status.Failed
record_status kind = status.Refused

abbrev pub check_text : CheckFault → List ℕ
check_text (check.Outside call side outside) = line (codes "outside: call " ∷ signed_decimal call ∷ codes " " ∷ side_name side
    ∷ codes " item " ∷ decimal outside.item ∷ codes " kind " ∷ decimal (messages.kind_number outside.kind) ∷ codes " " ∷ messages.kind_name outside.kind ∷ [])
check_text (check.Witness fault) = line (codes "witness: at " ∷ decimal fault.at ∷ codes " kind " ∷ decimal (witnesses.kind_number fault.kind)
    ∷ codes " " ∷ witnesses.kind_name fault.kind ∷ [])
check_text check.Memory = []

abbrev pub check_status : CheckFault → Status
check_status check.Memory = status.Failed
check_status fault = status.Refused

abbrev pub fault_text : AuditFault → List ℕ
fault_text (audit.Transcript fault) = record_text (codes "transcript") fault.offset fault.kind
fault_text (audit.Declaration fault) = record_text (codes "declaration") fault.offset fault.kind
fault_text (audit.Witness fault) = record_text (codes "witness") fault.offset fault.kind
fault_text (audit.Check fault) = check_text fault

abbrev pub fault_status : AuditFault → Status
fault_status (audit.Transcript fault) = record_status fault.kind
fault_status (audit.Declaration fault) = record_status fault.kind
fault_status (audit.Witness fault) = record_status fault.kind
fault_status (audit.Check fault) = check_status fault

-- the line with the date of a moment, or the number of its second where the calendar ends before; none without a moment
abbrev pub PrintsDate : Option ℤ → List ℕ → Type 0
PrintsDate None lines = lines ≡ []
PrintsDate (Some second) lines =
    (date : List ℕ) × TellsSecond second date × (lines ≡ line (codes "at " ∷ date ∷ []))

-- what is printed of a verdict: after a yes what became of the items, and after a no the date of this moment
abbrev pub PrintsStamped : Verdict → Option ℤ → Option Tally → Status → List ℕ → Type 0
PrintsStamped verdict.Yes stamp tally said lines = (said ≡ status.Done) × (lines ≡ yes_text tally)
PrintsStamped (verdict.No refused) stamp tally said lines = (said ≡ status.No)
    × ((dated : List ℕ) × (PrintsDate stamp dated) × (lines ≡ no_line refused ++ dated))

-- what became of the items of these turns, where the marks are a transcript's
abbrev pub TalliesRecorded : List MarkOf → DeclarationOf → List TurnOf → Option Tally → Type 0
TalliesRecorded marks declared turns tally = AreRecorded marks → TalliesSo marks declared turns tally

-- what is printed of a verdict on these marks and turns by this declaration: after a yes what became of their items, where it sets aside; and
-- after a no the date of its turn, which is the Time Stamp of its call's response
abbrev pub PrintsVerdict : List MarkOf → DeclarationOf → List TurnOf → Verdict → Status → List ℕ → Type 0
PrintsVerdict marks declared turns verdict.Yes said lines = (said ≡ status.Done)
    × ((tally : Option Tally) × TalliesRecorded marks declared turns tally × (lines ≡ yes_text tally))
PrintsVerdict marks declared turns (verdict.No refused) said lines = (said ≡ status.No)
    × ((stamp : Option ℤ) × TellsStamp marks turns refused.call stamp × ((dated : List ℕ) × (PrintsDate stamp dated) × (lines ≡ no_line refused ++ dated)))

-- After the line of a no stands the date of its turn: the Time Stamp of the response of its call, which the transcript records,
-- or which the witness gives.
pub record IsDated (lines transcript declaration witness : List ℕ) : Type 0 where
  pub marks : List MarkOf
  pub recorded : IsTranscript transcript marks
  pub turns : List TurnOf
  pub witnessed : IsWitness witness turns
  pub refused : Refused
  pub stamp : ℤ
  pub answered : IsAnsweredAt marks turns refused.call stamp
  pub dated : List ℕ
  pub date : PrintsDate (Some stamp) dated
  pub are : lines ≡ no_line refused ++ dated

-- what is printed of a fault
abbrev pub PrintsFault : AuditFault → Status → List ℕ → Type 0
PrintsFault fault said lines = (said ≡ fault_status fault) × (lines ≡ fault_text fault)

-- what is printed of an audit of these three files: after a yes what became of the items, where the declaration sets aside; and after a no the
-- date at which the call was answered that it refuses
abbrev pub PrintsOutcome : List ℕ → List ℕ → List ℕ → Result Verdict AuditFault → Status → List ℕ → Type 0
PrintsOutcome t d w (Ok verdict.Yes) said lines = (said ≡ status.Done)
    × ((tally : Option Tally) × HaveTally t d w tally × (lines ≡ yes_text tally))
PrintsOutcome t d w (Ok (verdict.No refused)) said lines = (said ≡ status.No)
    × ((stamp : ℤ) × WasAnsweredAt t w refused.call stamp × ((dated : List ℕ) × (PrintsDate (Some stamp) dated) × (lines ≡ no_line refused ++ dated)))
PrintsOutcome t d w (Err fault) said lines = PrintsFault fault said lines

-- where the bytes are accepted, and no input failed, the answer is yes, or memory ran out
abbrev pub SaysYes : Bool → Bool → Bool → Status → List ℕ → List ℕ → List ℕ → List ℕ → Type 0
SaysYes failed_t failed_d failed_w said lines t d w =
    AreAccepted t d w → failed_t ≡ false → failed_d ≡ false → failed_w ≡ false → (said ≡ status.Done) ⊎ IsSilent said lines

-- what may stand on standard output at a status
abbrev pub FitsStatus : Status → List ℕ → Type 0
FitsStatus status.Done lines = AreYesLines lines
FitsStatus status.No lines = StartsWith lines (codes "no: turn ")
FitsStatus status.Refused lines = StartsWith lines (codes "outside: call ")
    ⊎ (StartsWith lines (codes "witness: at ") ⊎ StartsWith lines (codes "malformed: "))
FitsStatus status.Failed lines = (lines ≡ device_line) ⊎ (lines ≡ [])
FitsStatus status.GaveUp lines = ⊥
FitsStatus status.Usage lines = ⊥
