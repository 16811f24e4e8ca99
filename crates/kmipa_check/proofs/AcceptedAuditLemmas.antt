-- Where three lists of bytes are accepted, nothing but a yes can be reported of them.
use Rattle.std.proofs.Common.{◌≡◌, ◌⊎◌, inl, inr, ℕ, List, false, IsTrue, Result, Ok, Err, refl, subst}
use Rattle.kmipa_record.specs.Kinds.{ByCause}
use Rattle.kmipa_record.specs.Marks.{MarkOf, AreRecorded}
use Rattle.kmipa_record.specs.Transcripts.{transcript_of}
use Rattle.kmipa_record.specs.Declarations.{DeclarationOf, declaration_of}
use Rattle.kmipa_record.specs.Witnesses.{TurnOf, witness_of}
use Rattle.kmipa_record.specs.declared.reach.Reach.TheVariants.{Judged}
use Rattle.kmipa_record.specs.declared.fault.RecordKind.{RecordKind}
use Rattle.kmipa_record.specs.declared.fault.RecordKind.TheVariants as kind
use Rattle.kmipa_record.proofs.DeclarationLawLemmas.{one_declaration_lem, no_fault_of_declaration_lem}
use Rattle.kmipa_record.proofs.TranscriptLawLemmas.{one_transcript_lem, no_fault_of_transcript_lem}
use Rattle.kmipa_record.proofs.WitnessLawLemmas.{one_witness_lem, no_fault_of_witness_lem}
use Rattle.kmipa_check.specs.Runs.{IsAccepted}
use Rattle.kmipa_check.specs.Verdicts.{Checks}
use Rattle.kmipa_check.specs.Audits.{AreAccepted, Audits, IsYes}
use Rattle.kmipa_check.specs.declared.auditing.Audited.{Audited}
use Rattle.kmipa_check.specs.declared.auditing.AuditFault.{AuditFault}
use Rattle.kmipa_check.specs.declared.auditing.AuditFault.TheVariants as audit
use Rattle.kmipa_check.specs.declared.fault.CheckFault.{CheckFault}
use Rattle.kmipa_check.specs.declared.fault.CheckFault.TheVariants.{Memory}
use Rattle.kmipa_check.specs.declared.verdict.Verdict.{Verdict}
use Rattle.kmipa_check.specs.declared.verdict.Verdict.TheVariants.{Yes}
use Rattle.kmipa_check.proofs.AcceptedLemmas.{accepted_is_yes_lem}

-- of a file without a fault, on a device that works, only want of memory is reported
only_memory : (k : RecordKind) (D M P : Type 0) → (D → ⊥) → (P → ⊥) → ByCause k D M P → k ≡ kind.Memory
only_memory kind.Device D M P d p h = absurd (d h)
only_memory kind.Memory D M P d p h = refl
only_memory (kind.Ttlv flaw) D M P d p h = absurd (p h)
only_memory kind.Header D M P d p h = absurd (p h)
only_memory kind.Number D M P d p h = absurd (p h)
only_memory kind.EndWithoutBegin D M P d p h = absurd (p h)
only_memory kind.SecondEnd D M P d p h = absurd (p h)
only_memory kind.Identifier D M P d p h = absurd (p h)
only_memory kind.Entry D M P d p h = absurd (p h)
only_memory kind.Calls D M P d p h = absurd (p h)
only_memory kind.Seal D M P d p h = absurd (p h)
only_memory kind.NoClose D M P d p h = absurd (p h)
only_memory kind.Order D M P d p h = absurd (p h)

works : {A : Type 0} → IsTrue false × A → ⊥
works (h, a) = absurd cc

-- a check says yes, or memory ran out
abbrev ChecksYes : Result Verdict CheckFault → Type 0
ChecksYes result = (result ≡ Ok Yes) ⊎ (result ≡ Err Memory)

-- what the check says of these records is a yes
said_yes : (marks others : List MarkOf) (declared other : DeclarationOf) (turns more : List TurnOf) (result : Result Verdict CheckFault)
    → others ≡ marks → other ≡ declared → more ≡ turns → AreRecorded marks → IsAccepted marks declared turns → Checks others other more result
    → ChecksYes result
said_yes marks others declared other turns more result m d w r a h =
    let P : List MarkOf → Type 0 = λ x. Checks x other more result in
    let Q : DeclarationOf → Type 0 = λ x. Checks marks x more result in
    let S : List TurnOf → Type 0 = λ x. Checks marks declared x result in
    accepted_is_yes_lem marks declared turns r a result (subst S w (subst Q d (subst P m h)))

verdict_of : (verdict : Verdict) → ChecksYes (Ok verdict) → verdict ≡ Yes
verdict_of verdict (inl e) = cc
verdict_of verdict (inr e) = absurd cc

fault_of : (fault : CheckFault) → ChecksYes (Err fault) → fault ≡ Memory
fault_of fault (inl e) = absurd cc
fault_of fault (inr e) = cc

pub accepted_audit_is_yes_lem : (t d w : List ℕ) → AreAccepted t d w → (result : Result Audited AuditFault) → Audits t d w false false false result → IsYes result
accepted_audit_is_yes_lem t d w a (Ok audited) h =
    verdict_of audited.verdict
    (said_yes a.marks (transcript_of audited.transcript) a.declared (declaration_of audited.declaration) a.turns (witness_of audited.witness) (Ok audited.verdict)
    (one_transcript_lem t (transcript_of audited.transcript) a.marks h.transcript a.transcript) (one_declaration_lem Judged d (declaration_of audited.declaration) a.declared h.declaration a.declaration)
    (one_witness_lem w (witness_of audited.witness) a.turns h.witness a.witness) a.transcript.recorded a.accepted h.verdict)
accepted_audit_is_yes_lem t d w a (Err (audit.Transcript f)) h = only_memory f.kind _ _ _ works (no_fault_of_transcript_lem t a.marks f.offset f.kind a.transcript) h
accepted_audit_is_yes_lem t d w a (Err (audit.Declaration f)) h = only_memory f.kind _ _ _ works (no_fault_of_declaration_lem Judged d a.declared f.offset f.kind a.declaration) h.1
accepted_audit_is_yes_lem t d w a (Err (audit.Witness f)) h = only_memory f.kind _ _ _ works (no_fault_of_witness_lem w a.turns f.offset f.kind a.witness) h.2
accepted_audit_is_yes_lem t d w a (Err (audit.Check f)) h =
    fault_of f
    (said_yes a.marks h.marks a.declared h.declared a.turns h.turns (Err f) (one_transcript_lem t h.marks a.marks h.transcript a.transcript)
    (one_declaration_lem Judged d h.declared a.declared h.declaration a.declaration) (one_witness_lem w h.turns a.turns h.witness a.witness) a.transcript.recorded a.accepted h.checks)
