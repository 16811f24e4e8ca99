-- What comes of linking the segments of a chain ahead of all verdicts.
use Rattle.std.specs.Prelude.{◌≡◌, ◌⊎◌, ℕ, List, [], IsTrue}
use Rattle.kmipa_ttlv.specs.Input.{came_of, is_ended, is_failed, IsFileOf}
use Rattle.kmipa_ttlv.specs.declared.input.Input.{Input}
use Rattle.kmipa_record.specs.Files.{Tells}
use Rattle.kmipa_record.specs.Marks.{MarkOf}
use Rattle.kmipa_record.specs.Transcripts.{TranscriptFault, IsTranscriptUpTo}
use Rattle.kmipa_record.specs.declared.fault.RecordFault.{RecordFault}
use Rattle.kmipa_record.specs.declared.fault.RecordKind.{RecordKind}
use Rattle.kmipa_record.specs.declared.fault.RecordKind.TheVariants.{Device, Memory}
use Rattle.kmipa_check.specs.declared.auditing.AuditFault.TheVariants as audit
use Rattle.kmipa_links.specs.Linking.{HasGap, LinksOn}
use Rattle.kmipa_links.specs.declared.gap.Gap.{Gap}
use Rattle.kmipa_links.specs.declared.links.Links.{Links}
use Rattle.kmipa_runs.specs.Lines.{PrintsFault}
use Rattle.kmipa_jobs.specs.Statuses.{IsSilent}
use Rattle.kmipa_jobs.specs.declared.status.Status.{Status}
use Rattle.kmipa_segments.specs.Gaps.{PrintsGap}
use Rattle.kmipa_segments.specs.declared.linking.Link.{Link}
use Rattle.kmipa_segments.specs.declared.linking.Link.TheVariants as link

-- a fault of the bytes, and not of a device or for want of memory
abbrev pub IsOfBytes : RecordKind → Type 0
IsOfBytes Device = ⊥
IsOfBytes Memory = ⊥
IsOfBytes kind = Unit {0}

-- this is a fault of the file, whatever it may be
abbrev pub IsFaultOf : {R : Type 0} → Input R → RecordFault → Type 0
IsFaultOf input fault = (t : List ℕ) → IsFileOf t input → Tells TranscriptFault IsTranscriptUpTo t (is_failed input) fault

-- a fault of the bytes is told where the segment is judged; that of a device is printed, or nothing, where memory ran out
abbrev pub TellsUnread : RecordFault → List ℕ → Link → Type 0
TellsUnread fault lines link.Linked = ⊥
TellsUnread fault lines link.Unread = IsOfBytes fault.kind × (lines ≡ [])
TellsUnread fault lines (link.Told said) = PrintsFault (audit.Transcript fault) said lines ⊎ IsSilent said lines

-- The segment is linked; or its gap is printed; or it has a fault, and what is told of that.
pub data LinksSo {R : Type 0} (old new : Links) (name : List ℕ) (input : Input R) (lines : List ℕ) (came : Link) : Type 0 where
  linked : (marks : List MarkOf) → LinksOn old new name (came_of input) marks → IsTrue (is_ended input) → came ≡ link.Linked → lines ≡ [] → LinksSo old new name input lines came
  unlinked : (gap : Gap) (said : Status) → HasGap old name (came_of input) gap → came ≡ link.Told said → PrintsGap name gap said lines ⊎ IsSilent said lines
      → LinksSo old new name input lines came
  unread : (fault : RecordFault) → IsFaultOf input fault → TellsUnread fault lines came → LinksSo old new name input lines came
