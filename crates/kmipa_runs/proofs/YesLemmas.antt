-- What is printed of accepted bytes.
use Rattle.std.proofs.Common.{◌≡◌, ◌⊎◌, inl, inr, ℕ, Bool, false, List, Result, Ok, Err, ◌∙◌, subst}
use Rattle.std.specs.Prelude.{IfOk, IsOkAnd, codes, string_bytes}
use Rattle.std.specs.declared.alloc.AllocError.{AllocError}
use Rattle.kmipa_record.specs.declared.reach.Reach.TheVariants.{Judged}
use Rattle.kmipa_record.specs.Declarations.{DeclarationOf}
use Rattle.kmipa_record.specs.Marks.{MarkOf}
use Rattle.kmipa_record.specs.Witnesses.{TurnOf}
use Rattle.kmipa_record.specs.declared.fault.RecordKind.{RecordKind}
use Rattle.kmipa_record.specs.declared.fault.RecordKind.TheVariants.{Memory}
use Rattle.kmipa_record.proofs.DeclarationLawLemmas.{one_declaration_lem}
use Rattle.kmipa_record.proofs.TranscriptLawLemmas.{one_transcript_lem}
use Rattle.kmipa_record.proofs.WitnessLawLemmas.{one_witness_lem}
use Rattle.kmipa_check.specs.Audits.{AreAccepted, AreJudgedAs, AuditsAs, IsYes}
use Rattle.kmipa_check.specs.Verdicts.{TellsVerdict}
use Rattle.kmipa_check.specs.declared.auditing.AuditFault.{AuditFault}
use Rattle.kmipa_check.specs.declared.auditing.AuditFault.TheVariants as audit
use Rattle.kmipa_check.specs.declared.fault.CheckFault.{CheckFault}
use Rattle.kmipa_check.specs.declared.fault.CheckFault.TheVariants as check
use Rattle.kmipa_check.specs.declared.verdict.Verdict.{Verdict}
use Rattle.kmipa_check.specs.declared.verdict.Verdict.TheVariants as verdict
use Rattle.kmipa_check.proofs.AcceptedLemmas.{accepted_is_yes_lem}
use Rattle.kmipa_check.proofs.AcceptedAuditLemmas.{accepted_audit_is_yes_lem}
use Rattle.kmipa_jobs.specs.Statuses.{IsSilent}
use Rattle.kmipa_runs.specs.Lines.{PrintsFault, PrintsOutcome, SaysYes, check_status, check_text, record_status, record_text}
use Rattle.kmipa_runs.specs.declared.lines.Lines.{Lines}
use Rattle.kmipa_jobs.specs.declared.status.Status.{Status}
use Rattle.kmipa_jobs.specs.declared.status.Status.TheVariants as status

-- ---- what is said of accepted bytes

verdict_is_yes : (t d w : List ℕ) → AreAccepted t d w → (v : Verdict) → AreJudgedAs v t d w → v ≡ verdict.Yes
verdict_is_yes t d w a v j =
    let P : List MarkOf → Type 0 = λ x. TellsVerdict x j.declared j.turns v in
    let Q : DeclarationOf → Type 0 = λ x. TellsVerdict a.marks x j.turns v in
    let S : List TurnOf → Type 0 = λ x. TellsVerdict a.marks a.declared x v in
    let transcript = one_transcript_lem t j.marks a.marks j.transcript a.transcript in
    let declaration = one_declaration_lem Judged d j.declared a.declared j.declaration a.declaration in
    let witness = one_witness_lem w j.turns a.turns j.witness a.witness in
    elim (accepted_is_yes_lem a.marks a.declared a.turns a.transcript.recorded a.accepted (Ok v) (subst S witness (subst Q declaration (subst P transcript j.verdict)))) [
      | inl e ↦ cc
      | inr e ↦ absurd cc
    ]

-- the verdict is yes, or memory ran out
abbrev SaysYesOrNothing : Result Verdict AuditFault → Type 0
SaysYesOrNothing (Ok v) = v ≡ verdict.Yes
SaysYesOrNothing (Err fault) = IsYes (Err fault)

outcome_is_yes : (t d w : List ℕ) → AreAccepted t d w → (outcome : Result Verdict AuditFault) → AuditsAs t d w false false false outcome → SaysYesOrNothing outcome
outcome_is_yes t d w a (Ok v) audits = verdict_is_yes t d w a v audits
outcome_is_yes t d w a (Err fault) audits = accepted_audit_is_yes_lem t d w a (Err fault) audits

-- ---- what is printed of it

silent_record : (file : List ℕ) (offset : ℕ) (kind : RecordKind) (said : Status) (lines : List ℕ) → kind ≡ Memory
    → (said ≡ record_status kind) × (lines ≡ record_text file offset kind) → IsSilent said lines
silent_record file offset kind said lines is p =
    let P : RecordKind → Type 0 = λ k. (said ≡ record_status k) × (lines ≡ record_text file offset k) in
    subst P is p

silent_check : (fault : CheckFault) (said : Status) (lines : List ℕ) → fault ≡ check.Memory → (said ≡ check_status fault) × (lines ≡ check_text fault) → IsSilent said lines
silent_check fault said lines is p =
    let P : CheckFault → Type 0 = λ f. (said ≡ check_status f) × (lines ≡ check_text f) in
    subst P is p

-- what is printed of a yes, or where memory ran out
yes_printed : (t d w : List ℕ) (outcome : Result Verdict AuditFault) (said : Status) (lines : List ℕ) → SaysYesOrNothing outcome → PrintsOutcome t d w outcome said lines → (said ≡ status.Done) ⊎ IsSilent said lines
yes_printed t d w (Ok verdict.Yes) said lines is prints = inl prints.0
yes_printed t d w (Ok (verdict.No refused)) said lines is prints = absurd cc
yes_printed t d w (Err (audit.Transcript f)) said lines is prints = inr (silent_record (codes "transcript") f.offset f.kind said lines is prints)
yes_printed t d w (Err (audit.Declaration f)) said lines is prints = inr (silent_record (codes "declaration") f.offset f.kind said lines is prints)
yes_printed t d w (Err (audit.Witness f)) said lines is prints = inr (silent_record (codes "witness") f.offset f.kind said lines is prints)
yes_printed t d w (Err (audit.Check f)) said lines is prints = inr (silent_check f said lines is prints)

pub accepted_printed : (came_t came_d came_w t d w : List ℕ) (failed_t failed_d failed_w : Bool) (outcome : Result Verdict AuditFault) (said : Status) (lines : List ℕ)
    → AuditsAs t d w failed_t failed_d failed_w outcome → PrintsOutcome came_t came_d came_w outcome said lines ⊎ IsSilent said lines → SaysYes failed_t failed_d failed_w said lines t d w
accepted_printed came_t came_d came_w t d w failed_t failed_d failed_w outcome said lines audits (inr silent) = λ a e f g. inr silent
accepted_printed came_t came_d came_w t d w failed_t failed_d failed_w outcome said lines audits (inl prints) = λ a e f g.
    let P : Bool → Type 0 = λ x. AuditsAs t d w x failed_d failed_w outcome in
    let Q : Bool → Type 0 = λ x. AuditsAs t d w false x failed_w outcome in
    let R : Bool → Type 0 = λ x. AuditsAs t d w false false x outcome in
    yes_printed came_t came_d came_w outcome said lines (outcome_is_yes t d w a outcome (subst R g (subst Q f (subst P e audits)))) prints

-- what is printed of a fault
pub fault_printed : (made : Result Lines AllocError) (fault : AuditFault) (said : Status) (lines : List ℕ) → IfOk made (λ l. PrintsFault fault l.status (string_bytes l.text))
    → IsOkAnd made (λ l. (said ≡ l.status) × (lines ≡ string_bytes l.text)) ⊎ IsSilent said lines → PrintsFault fault said lines ⊎ IsSilent said lines
fault_printed made fault said lines reported (inr silent) = inr silent
fault_printed (Ok l) fault said lines reported (inl p) = inl (p.0 ∙ reported.0, p.1 ∙ reported.1)
fault_printed (Err e) fault said lines reported (inl p) = absurd p
