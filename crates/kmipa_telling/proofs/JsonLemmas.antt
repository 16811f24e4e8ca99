-- What is told in JSON of accepted files.
use Rattle.std.proofs.Common.{◌≡◌, ◌⊎◌, inl, inr, List, ℕ, Option, Result, Ok, Err, refl, sym, ◌∙◌}
use Rattle.kmipa_ttlv.specs.Input.{came_of}
use Rattle.kmipa_ttlv.specs.declared.input.Input.{Input}
use Rattle.kmipa_ttlv.proofs.ReadLemmas.{itself}
use Rattle.kmipa_record.specs.Declarations.{declaration_of}
use Rattle.kmipa_record.specs.Transcripts.{transcript_of}
use Rattle.kmipa_record.specs.Witnesses.{witness_of}
use Rattle.kmipa_record.specs.declared.fault.RecordKind.{RecordKind}
use Rattle.kmipa_record.specs.declared.fault.RecordKind.TheVariants.{Ttlv, Header, Number, EndWithoutBegin, SecondEnd, Identifier, Entry, Calls, Device, Memory, Seal, NoClose, Order}
use Rattle.kmipa_check.specs.Audits.{AreAccepted}
use Rattle.kmipa_check.specs.declared.auditing.Audited.{Audited}
use Rattle.kmipa_check.specs.declared.auditing.AuditFault.{AuditFault}
use Rattle.kmipa_check.specs.declared.auditing.AuditFault.TheVariants as audit
use Rattle.kmipa_check.specs.declared.fault.CheckFault.TheVariants as check
use Rattle.kmipa_check.specs.declared.verdict.Verdict.{Verdict}
use Rattle.kmipa_check.specs.declared.verdict.Verdict.TheVariants as verdict
use Rattle.kmipa_check.proofs.AuditLemmas.{yes_accepted}
use Rattle.kmipa_runs.specs.Lines.{fault_status, record_status}
use Rattle.kmipa_jobs.specs.Statuses.{IsSilent}
use Rattle.kmipa_jobs.specs.declared.status.Status.{Status}
use Rattle.kmipa_jobs.specs.declared.status.Status.TheVariants as status
use Rattle.kmipa_telling.specs.Judging.{AreEnded, AuditsInputs}
use Rattle.kmipa_telling.specs.Telling.{PrintsJson, TellsVerdict}
use Rattle.serde_json.specs.Data.{Members}

-- ---- no fault ends well

record_ends : (kind : RecordKind) → (record_status kind ≡ status.Refused) ⊎ (record_status kind ≡ status.Failed)
record_ends (Ttlv flaw) = inl refl
record_ends Header = inl refl
record_ends Number = inl refl
record_ends EndWithoutBegin = inl refl
record_ends SecondEnd = inl refl
record_ends Identifier = inl refl
record_ends Entry = inl refl
record_ends Calls = inl refl
record_ends Seal = inl refl
record_ends NoClose = inl refl
record_ends Order = inl refl
record_ends Device = inr refl
record_ends Memory = inr refl

-- a fault is told with one of two statuses
pub fault_ends : (fault : AuditFault) → (fault_status fault ≡ status.Refused) ⊎ (fault_status fault ≡ status.Failed)
fault_ends (audit.Transcript f) = record_ends f.kind
fault_ends (audit.Declaration f) = record_ends f.kind
fault_ends (audit.Witness f) = record_ends f.kind
fault_ends (audit.Check (check.Outside number side o)) = inl refl
fault_ends (audit.Check (check.Witness f)) = inl refl
fault_ends (audit.Check check.Memory) = inr refl

pub fault_not_done : (fault : AuditFault) → fault_status fault ≡ status.Done → ⊥
fault_not_done fault e = go (fault_ends fault)
  where
    go : (fault_status fault ≡ status.Refused) ⊎ (fault_status fault ≡ status.Failed) → ⊥
    go (inl r) = let clash : status.Refused ≡ status.Done = sym r ∙ e in absurd cc
    go (inr f) = let clash : status.Failed ≡ status.Done = sym f ∙ e in absurd cc

pub silent_not_done : (said : Status) (lines : List ℕ) → IsSilent said lines → said ≡ status.Done → ⊥
silent_not_done said lines silent done = let clash : status.Failed ≡ status.Done = sym silent.0 ∙ done in absurd cc

-- where nothing can be appended memory ran out
pub only_silent : {A : Type 0} → ⊥ ⊎ A → A
only_silent (inl none) = absurd none
only_silent (inr silent) = silent

-- ---- checks

yes_told : (audited : Audited) (said : Status) (before after : Members) (v : Verdict) → audited.verdict ≡ v
    → TellsVerdict (transcript_of audited.transcript) (declaration_of audited.declaration) (witness_of audited.witness) v said before after → said ≡ status.Done → audited.verdict ≡ verdict.Yes
yes_told audited said before after verdict.Yes is tells done = is
yes_told audited said before after (verdict.No r) is tells done = let clash : status.No ≡ status.Done = sym tells.0 ∙ done in absurd cc

-- what is printed of what an audit answers
abbrev pub ToldAudit : {R : Type 0} → Option ℕ → Input R → Input R → Input R → Status → List ℕ → Type 0
ToldAudit torn t d w said lines = (outcome : Result Audited AuditFault) × AuditsInputs t d w outcome × PrintsJson torn t d w outcome said lines

judged_done : {R : Type 0} (torn : Option ℕ) (t d w : Input R) (outcome : Result Audited AuditFault) (said : Status) (lines : List ℕ) → AuditsInputs t d w outcome
    → PrintsJson torn t d w outcome said lines → said ≡ status.Done → AreAccepted (came_of t) (came_of d) (came_of w) × AreEnded t d w
judged_done torn t d w (Ok audited) said lines audits (known, told, knows, tells, is) done = (
  yes_accepted (came_of t) (came_of d) (came_of w) audited (yes_told audited said _ told audited.verdict refl tells done)
      (audits.0 (came_of t) (came_of d) (came_of w) (itself t) (itself d) (itself w)),
  audits.1,
)
judged_done torn t d w (Err fault) said lines audits (known, told, knows, tells, is) done = absurd (fault_not_done fault (sym tells.0 ∙ done))

pub done_is_judged : {R : Type 0} (torn : Option ℕ) (t d w : Input R) (said : Status) (lines : List ℕ) → ToldAudit torn t d w said lines ⊎ IsSilent said lines → said ≡ status.Done
    → AreAccepted (came_of t) (came_of d) (came_of w) × AreEnded t d w
done_is_judged torn t d w said lines (inl told) done = judged_done torn t d w told.0 said lines told.1 told.2 done
done_is_judged torn t d w said lines (inr silent) done = absurd (silent_not_done said lines silent done)
