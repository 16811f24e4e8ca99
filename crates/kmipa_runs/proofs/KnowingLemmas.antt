-- What is known behind a verdict, and behind a fault.
use Rattle.std.proofs.Common.{◌≡◌, ◌⊎◌, inl, inr, ℕ, List, Option, Result, sym, subst}
use Rattle.std.specs.Prelude.{IfOk, IsOkAnd, string_bytes}
use Rattle.std.specs.declared.alloc.AllocError.{AllocError}
use Rattle.kmipa_check.specs.declared.auditing.AuditFault.{AuditFault}
use Rattle.kmipa_check.specs.declared.auditing.AuditFault.TheVariants as audit
use Rattle.kmipa_check.specs.declared.fault.CheckFault.TheVariants as check
use Rattle.kmipa_record.specs.declared.fault.RecordKind.{RecordKind}
use Rattle.kmipa_record.specs.declared.fault.RecordKind.TheVariants.{Ttlv, Header, Number, EndWithoutBegin, SecondEnd, Identifier, Entry, Calls, Device, Memory, Seal, NoClose, Order}
use Rattle.kmipa_record.specs.declared.head.Head.{Head}
use Rattle.kmipa_runs.specs.Knowing.{Known, KnowsSeals}
use Rattle.kmipa_runs.specs.Lines.{PrintsFault, fault_status, record_status}
use Rattle.kmipa_jobs.specs.Statuses.{IsSilent}
use Rattle.kmipa_runs.specs.declared.lines.Lines.{Lines}
use Rattle.kmipa_jobs.specs.declared.status.Status.{Status}
use Rattle.kmipa_jobs.specs.declared.status.Status.TheVariants as status
use Rattle.kmipa_runs.proofs.YesLemmas.{fault_printed}

-- what is known is known at each status
pub knows : (bytes : List ℕ) (said : Status) (head : Option Head) → Known bytes head → KnowsSeals bytes said head
knows bytes status.Done head known = known
knows bytes status.No head known = known
knows bytes status.Refused head known = tt
knows bytes status.Failed head known = tt
knows bytes status.GaveUp head known = known
knows bytes status.Usage head known = tt

record_knows : (bytes : List ℕ) (head : Option Head) (kind : RecordKind) → KnowsSeals bytes (record_status kind) head
record_knows bytes head (Ttlv flaw) = tt
record_knows bytes head Header = tt
record_knows bytes head Number = tt
record_knows bytes head EndWithoutBegin = tt
record_knows bytes head SecondEnd = tt
record_knows bytes head Identifier = tt
record_knows bytes head Entry = tt
record_knows bytes head Calls = tt
record_knows bytes head Device = tt
record_knows bytes head Memory = tt
record_knows bytes head Seal = tt
record_knows bytes head NoClose = tt
record_knows bytes head Order = tt

fault_knows : (bytes : List ℕ) (head : Option Head) (fault : AuditFault) → KnowsSeals bytes (fault_status fault) head
fault_knows bytes head (audit.Transcript f) = record_knows bytes head f.kind
fault_knows bytes head (audit.Declaration f) = record_knows bytes head f.kind
fault_knows bytes head (audit.Witness f) = record_knows bytes head f.kind
fault_knows bytes head (audit.Check (check.Outside call side outside)) = tt
fault_knows bytes head (audit.Check (check.Witness f)) = tt
fault_knows bytes head (audit.Check check.Memory) = tt

fault_told : (bytes : List ℕ) (said : Status) (lines : List ℕ) (head : Option Head) (fault : AuditFault) → PrintsFault fault said lines ⊎ IsSilent said lines → KnowsSeals bytes said head
fault_told bytes said lines head fault (inl p) = let P : Status → Type 0 = λ s. KnowsSeals bytes s head in subst P (sym p.0) (fault_knows bytes head fault)
fault_told bytes said lines head fault (inr p) = let P : Status → Type 0 = λ s. KnowsSeals bytes s head in subst P (sym p.0) tt

-- at a fault nothing has to be known
pub refusal_knows : (bytes : List ℕ) (made : Result Lines AllocError) (fault : AuditFault) (said : Status) (lines : List ℕ) (head : Option Head)
    → IfOk made (λ l. PrintsFault fault l.status (string_bytes l.text)) → IsOkAnd made (λ l. (said ≡ l.status) × (lines ≡ string_bytes l.text)) ⊎ IsSilent said lines
    → KnowsSeals bytes said head
refusal_knows bytes made fault said lines head told printed = fault_told bytes said lines head fault (fault_printed made fault said lines told printed)
