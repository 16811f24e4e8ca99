-- What is told in JSON of a verdict or a fault: the numbers of its line, each under a name of its own. An object has each name once, and
-- what is put under a name stands in place of what it had there.
use Rattle.std.specs.Prelude.{◌≡◌, ◌+◌, ℕ, ℤ, Bool, true, false, List, take, codes, Option, Some, None, Result, Ok, Err}
use Rattle.serde_json.specs.Data.{Members, Items, no_items, item, no_members, object, array, string, put}
use Rattle.kmipa_json.specs.Told.{count, integer, file_members, line_of}
use Rattle.kmipa_ttlv.specs.Flaw.{fault_name}
use Rattle.kmipa_ttlv.specs.Input.{came_of, is_ended}
use Rattle.kmipa_ttlv.specs.Stream.{capped}
use Rattle.kmipa_ttlv.specs.declared.input.Input.{Input}
use Rattle.kmipa_msgs.specs.Kinds as messages
use Rattle.kmipa_msgs.specs.declared.fault.Outside.{Outside}
use Rattle.kmipa_ops.specs.Whys.{why_number, why_name}
use Rattle.kmipa_record.specs.Kinds as files
use Rattle.kmipa_record.specs.declared.fault.RecordKind.{RecordKind}
use Rattle.kmipa_record.specs.declared.fault.RecordKind.TheVariants.{Ttlv, Device, Memory}
use Rattle.kmipa_record.specs.declared.head.Head.{Head}
use Rattle.kmipa_record.specs.Declarations.{DeclarationOf, declaration_of}
use Rattle.kmipa_record.specs.Marks.{MarkOf}
use Rattle.kmipa_record.specs.Witnesses.{TurnOf, witness_of}
use Rattle.kmipa_record.specs.Transcripts.{transcript_of}
use Rattle.kmipa_check.specs.Kinds as witnesses
use Rattle.kmipa_check.specs.Stamps.{TellsStamp}
use Rattle.kmipa_check.specs.declared.auditing.Audited.{Audited}
use Rattle.kmipa_check.specs.declared.auditing.AuditFault.{AuditFault}
use Rattle.kmipa_check.specs.declared.auditing.AuditFault.TheVariants as audit
use Rattle.kmipa_check.specs.declared.fault.CheckFault.{CheckFault}
use Rattle.kmipa_check.specs.declared.fault.CheckFault.TheVariants as check
use Rattle.kmipa_check.specs.declared.verdict.Refused.{Refused}
use Rattle.kmipa_check.specs.declared.verdict.Verdict.{Verdict}
use Rattle.kmipa_check.specs.declared.verdict.Verdict.TheVariants as verdict
use Rattle.kmipa_runs.specs.Dates.{TellsSecond}
use Rattle.kmipa_stream.specs.declared.tally.Tally.{Tally}
use Rattle.kmipa_runs.specs.Lines.{TalliesRecorded, side_name, fault_status}
use Rattle.kmipa_jobs.specs.declared.status.Status.{Status}
use Rattle.kmipa_jobs.specs.declared.status.Status.TheVariants as status
use Rattle.kmipa_telling.specs.Seals.{KnowsJudged, sealed_members}

-- what stands for the line's first word
abbrev pub verdict_named : List ℕ → Members → Members
verdict_named name = put (codes "verdict") (string name)

-- a number with its name
abbrev pub named_members : ℕ → List ℕ → Members
named_members number name = put (codes "name") (string name) (put (codes "number") (count number) no_members)

abbrev pub named_under : List ℕ → ℕ → List ℕ → Members → Members
named_under key number name = put key (object (named_members number name))

-- ---- verdicts

-- what became of the items of a run, with the numbers of its line; nothing where nothing is told of them
abbrev pub aside_members : Tally → Members
aside_members t = put (codes "object") (count 0) (put (codes "witness") (count 0) (put (codes "answer") (count 0) (put (codes "request") (count t.by_request) no_members)))

abbrev pub tally_members : Tally → Members
tally_members t = put (codes "set_aside") (object (aside_members t))
    (put (codes "items") (count (capped (t.judged + t.by_request))) (put (codes "judged") (count t.judged) no_members))

abbrev pub told_tally : Option Tally → Members → Members
told_tally None told = told
told_tally (Some tally) told = put (codes "tally") (object (tally_members tally)) told

-- the turn, the call and the item of a no, and the reason
abbrev pub refused_members : Refused → Members → Members
refused_members r told = named_under (codes "why") (why_number r.why) (why_name r.why) (put (codes "item") (count r.item)
    (put (codes "call") (integer r.call) (put (codes "turn") (count r.turn) (verdict_named (codes "no") told))))

-- a moment in seconds and as a date, or the number of its second where the calendar ends before; nothing without a moment
abbrev pub TellsDate : Option ℤ → Members → Members → Type 0
TellsDate None before after = after ≡ before
TellsDate (Some second) before after = (date : List ℕ) × TellsSecond second date
    × (after ≡ put (codes "date") (string date) (put (codes "stamp") (integer second) before))

-- what is told of a verdict on these marks and turns by this declaration; of a yes besides what became of the items, where it sets aside, and of
-- a no the Time Stamp of its call's response
abbrev pub TellsVerdict : List MarkOf → DeclarationOf → List TurnOf → Verdict → Status → Members → Members → Type 0
TellsVerdict marks declared turns verdict.Yes said before after = (said ≡ status.Done)
    × ((tally : Option Tally) × TalliesRecorded marks declared turns tally × (after ≡ told_tally tally (verdict_named (codes "yes") before)))
TellsVerdict marks declared turns (verdict.No refused) said before after = (said ≡ status.No)
    × ((stamp : Option ℤ) × TellsStamp marks turns refused.call stamp × TellsDate stamp (refused_members refused before) after)

-- ---- faults

-- the place and the kind of a fault of the file with this name
abbrev pub malformed_members : List ℕ → ℕ → RecordKind → Members → Members
malformed_members file offset kind told = named_under (codes "kind") (files.kind_number kind) (files.kind_name kind)
    (put (codes "offset") (count offset) (put (codes "file") (string file) (verdict_named (codes "malformed") told)))

abbrev pub record_members : List ℕ → ℕ → RecordKind → Members → Members
record_members file offset Device told = verdict_named (codes "device") told
record_members file offset Memory told = verdict_named (codes "memory") told
record_members file offset (Ttlv flaw) told = put (codes "flaw") (string (fault_name flaw)) (malformed_members file offset (Ttlv flaw) told)
record_members file offset kind told = malformed_members file offset kind told

-- the item of a message that is outside, and the kind
abbrev pub outside_members : Outside → Members → Members
outside_members outside told = named_under (codes "kind") (messages.kind_number outside.kind) (messages.kind_name outside.kind)
    (put (codes "item") (count outside.item) told)

abbrev pub check_members : CheckFault → Members → Members
check_members (check.Outside call side outside) told = outside_members outside
    (put (codes "message") (string (side_name side)) (put (codes "call") (integer call) (verdict_named (codes "outside") told)))
check_members (check.Witness fault) told = named_under (codes "kind") (witnesses.kind_number fault.kind) (witnesses.kind_name fault.kind)
    (put (codes "at") (count fault.at) (verdict_named (codes "witness") told))
check_members check.Memory told = verdict_named (codes "memory") told

abbrev pub fault_members : AuditFault → Members → Members
fault_members (audit.Transcript fault) = record_members (codes "transcript") fault.offset fault.kind
fault_members (audit.Declaration fault) = record_members (codes "declaration") fault.offset fault.kind
fault_members (audit.Witness fault) = record_members (codes "witness") fault.offset fault.kind
fault_members (audit.Check fault) = check_members fault

abbrev pub TellsFault : AuditFault → Status → Members → Members → Type 0
TellsFault fault said before after = (said ≡ fault_status fault) × (after ≡ fault_members fault before)

-- what is told of an audit
abbrev pub TellsOutcome : Result Audited AuditFault → Status → Members → Members → Type 0
TellsOutcome (Ok audited) said before after = TellsVerdict (transcript_of audited.transcript) (declaration_of audited.declaration) (witness_of audited.witness) audited.verdict said before after
TellsOutcome (Err fault) said before after = TellsFault fault said before after

-- ---- whole objects

-- what every object has: the auditor's version, and the files of the run
abbrev pub opened : Items → Members
opened told = put (codes "files") (array told) (put (codes "auditor") (string (codes "0.1.0")) no_members)

-- what is told of a file that was read: its part in the run, and where it was read to its end its length and digest
abbrev pub read_members : List ℕ → Bool → List ℕ → Members
read_members role true came = file_members role came
read_members role false came = put (codes "role") (string role) no_members

abbrev pub input_members : {R : Type 0} → List ℕ → Input R → Members
input_members role i = read_members role (is_ended i) (came_of i)

-- the bytes of a transcript that are its own: of a torn one so many, which stand ahead of the close that was put behind them
abbrev pub own_bytes : Option ℕ → List ℕ → List ℕ
own_bytes None came = came
own_bytes (Some length) came = take length came

-- what is told of a transcript, with what it is known by
abbrev pub transcript_members : {R : Type 0} → Option ℕ → Option Head → Input R → Members
transcript_members torn known t = sealed_members torn known (read_members (codes "transcript") (is_ended t) (own_bytes torn (came_of t)))

-- the three files of a check
abbrev pub check_files : {R : Type 0} → Option ℕ → Option Head → Input R → Input R → Input R → Items
check_files torn known t d w = item (object (transcript_members torn known t)) (item (object (input_members (codes "declaration") d))
    (item (object (input_members (codes "witness") w)) no_items))

-- the head that is told behind a verdict
abbrev pub audit_head : Result Audited AuditFault → Option Head
audit_head (Ok audited) = audited.transcript.head
audit_head (Err fault) = None

-- what a check of three files prints in JSON of this outcome: one object on a line, behind a verdict with the head of a sealed transcript
abbrev pub PrintsJson : {R : Type 0} → Option ℕ → Input R → Input R → Input R → Result Audited AuditFault → Status → List ℕ → Type 0
PrintsJson torn t d w outcome said lines = (known : Option Head) × (told : Members) × KnowsJudged outcome (came_of t) known
    × TellsOutcome outcome said (opened (check_files torn known t d w)) told × (lines ≡ line_of (object told))
