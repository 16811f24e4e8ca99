-- What is known of the seals of a transcript.
use Rattle.std.proofs.Common.{◌≡◌, ◌⊎◌, inl, inr, List, [], ℕ, Option, Result, Ok, Err, refl, sym, subst, ◌∙◌}
use Rattle.std.specs.Prelude.{IfOk}
use Rattle.kmipa_ttlv.specs.Input.{came_of}
use Rattle.kmipa_ttlv.specs.declared.input.Input.{Input}
use Rattle.kmipa_record.specs.TranscriptReading.{IsKnownBy}
use Rattle.kmipa_record.specs.Transcripts.{transcript_of}
use Rattle.kmipa_record.specs.declared.fault.RecordFault.{RecordFault}
use Rattle.kmipa_record.specs.declared.head.Head.{Head}
use Rattle.kmipa_record.specs.declared.transcript.Transcript.{Transcript}
use Rattle.kmipa_check.specs.declared.auditing.Audited.{Audited}
use Rattle.kmipa_check.specs.declared.auditing.AuditFault.{AuditFault}
use Rattle.kmipa_check.specs.declared.auditing.AuditRecords.{AuditRecords}
use Rattle.kmipa_runs.proofs.KnowingLemmas.{knows}
use Rattle.kmipa_runs.specs.Knowing.{Known, KnowsSeals}
use Rattle.kmipa_runs.specs.Lines.{fault_status}
use Rattle.kmipa_jobs.specs.Statuses.{IsSilent}
use Rattle.kmipa_jobs.specs.declared.status.Status.{Status}
use Rattle.kmipa_jobs.specs.declared.status.Status.TheVariants as status
use Rattle.kmipa_telling.specs.ExplainedJson.{PrintsExplainedJson, explained_head}
use Rattle.kmipa_telling.specs.FaultsTold.{PrintsFaultTold}
use Rattle.kmipa_telling.specs.Seals.{KnowsJudged}
use Rattle.kmipa_telling.specs.Telling.{PrintsJson, audit_head}
use Rattle.kmipa_telling.specs.declared.explained.Explained.{Explained}
use Rattle.kmipa_telling.specs.declared.meaning.FaultTold.{FaultTold}
use Rattle.kmipa_telling.proofs.JsonLemmas.{fault_ends}

-- ---- what is read

-- bytes that were read are known by the head that was read
pub known_read : (r : Result Transcript RecordFault) (came : List ℕ) → IfOk r (λ t. IsKnownBy came (transcript_of t) t.head) → IfOk r (λ t. Known came t.head)
known_read (Ok t) came known = (transcript_of t, known)
known_read (Err f) came known = tt

-- records that were checked are known as before
pub known_explained : (r : Result Explained FaultTold) (records : AuditRecords) (bytes : List ℕ) → IfOk r (λ e. e.records ≡ records)
    → Known bytes records.transcript.head → IfOk r (λ e. Known bytes e.records.transcript.head)
known_explained (Ok e) records bytes same known =
    let P : AuditRecords → Type 0 = λ x. Known bytes x.transcript.head in
    subst P (sym same) known
known_explained (Err told) records bytes same known = tt

pub known_judged : (r : Result Explained FaultTold) (records : AuditRecords) (bytes : List ℕ) → IfOk r (λ e. e.records ≡ records)
    → Known bytes records.transcript.head → KnowsJudged r bytes (explained_head r)
known_judged (Ok e) records bytes same known = known_explained (Ok e) records bytes same known
known_judged (Err told) records bytes same known = refl

-- ---- what is answered

-- where memory ran out nothing has to be known
pub silent_knows : (bytes : List ℕ) (said : Status) (lines : List ℕ) (head : Option Head) → IsSilent said lines → KnowsSeals bytes said head
silent_knows bytes said lines head silent =
    let P : Status → Type 0 = λ s. KnowsSeals bytes s head in
    subst P (sym silent.0) tt

-- nor at a fault
pub fault_knows : (bytes : List ℕ) (fault : AuditFault) (said : Status) (head : Option Head) → said ≡ fault_status fault → KnowsSeals bytes said head
fault_knows bytes fault said head is = go (fault_ends fault)
  where
    go : (fault_status fault ≡ status.Refused) ⊎ (fault_status fault ≡ status.Failed) → KnowsSeals bytes said head
    go (inl r) =
        let P : Status → Type 0 = λ s. KnowsSeals bytes s head in
        subst P (sym (is ∙ r)) tt
    go (inr f) =
        let P : Status → Type 0 = λ s. KnowsSeals bytes s head in
        subst P (sym (is ∙ f)) tt

pub told_knows : (bytes : List ℕ) (told : FaultTold) (said : Status) (lines : List ℕ) (head : Option Head) → PrintsFaultTold told said lines ⊎ IsSilent said lines
    → KnowsSeals bytes said head
told_knows bytes told said lines head (inl (front, more, prints, tells, e)) = fault_knows bytes told.fault said head prints.0
told_knows bytes told said lines head (inr silent) = silent_knows bytes said lines head silent

-- behind a verdict what is known of what was judged
known_as : (bytes : List ℕ) (said : Status) (head judged : Option Head) → head ≡ judged → Known bytes judged → KnowsSeals bytes said head
known_as bytes said head judged is known =
    let P : Option Head → Type 0 = λ h. Known bytes h in
    knows bytes said head (subst P (sym is) known)

pub audit_knows : {R : Type 0} (torn : Option ℕ) (t d w : Input R) (outcome : Result Audited AuditFault) (said : Status) (lines : List ℕ) (head : Option Head) → head ≡ audit_head outcome
    → KnowsJudged outcome (came_of t) (audit_head outcome) → PrintsJson torn t d w outcome said lines ⊎ IsSilent said lines → KnowsSeals (came_of t) said head
audit_knows torn t d w (Ok audited) said lines head is known reported = known_as (came_of t) said head audited.transcript.head is known
audit_knows torn t d w (Err fault) said lines head is known (inl (k, told, judged, tells, e)) = fault_knows (came_of t) fault said head tells.0
audit_knows torn t d w (Err fault) said lines head is known (inr silent) = silent_knows (came_of t) said lines head silent

pub check_knows : {R : Type 0} (torn : Option ℕ) (t d w : Input R) (outcome : Result Explained FaultTold) (said : Status) (lines : List ℕ) (head : Option Head) → head ≡ explained_head outcome
    → KnowsJudged outcome (came_of t) (explained_head outcome) → PrintsExplainedJson torn t d w outcome said lines ⊎ IsSilent said lines → KnowsSeals (came_of t) said head
check_knows torn t d w (Ok explained) said lines head is known reported = known_as (came_of t) said head explained.records.transcript.head is known
check_knows torn t d w (Err fault) said lines head is known (inl (k, told, judged, (without, tells, more), e)) = fault_knows (came_of t) fault.fault said head tells.0
check_knows torn t d w (Err fault) said lines head is known (inr silent) = silent_knows (came_of t) said lines head silent
