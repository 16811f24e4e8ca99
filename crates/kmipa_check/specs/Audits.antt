-- What an audit of three inputs tells.
use Rattle.std.specs.Prelude.{◌≡◌, ℕ, List, Bool, false, Result, Ok, Err}
use Rattle.kmipa_record.specs.Marks.{MarkOf}
use Rattle.kmipa_record.specs.Files.{Tells}
use Rattle.kmipa_record.specs.Transcripts.{transcript_of, IsTranscript, TranscriptFault, IsTranscriptUpTo}
use Rattle.kmipa_record.specs.Declarations.{DeclarationOf, declaration_of, IsDeclaration, DeclarationFault, IsDeclarationUpTo}
use Rattle.kmipa_record.specs.Witnesses.{TurnOf, witness_of, IsWitness, WitnessFault, IsWitnessUpTo}
use Rattle.kmipa_check.specs.Runs.{IsAccepted}
use Rattle.kmipa_check.specs.Verdicts.{Checks, TellsVerdict}
use Rattle.kmipa_check.specs.declared.auditing.Audited.{Audited}
use Rattle.kmipa_check.specs.declared.auditing.AuditRecords.{AuditRecords}
use Rattle.kmipa_check.specs.declared.auditing.AuditFault.{AuditFault}
use Rattle.kmipa_check.specs.declared.auditing.AuditFault.TheVariants as audit
use Rattle.kmipa_check.specs.declared.fault.CheckFault.{CheckFault}
use Rattle.kmipa_check.specs.declared.fault.CheckFault.TheVariants.{Memory}
use Rattle.kmipa_check.specs.declared.verdict.Verdict.{Verdict}
use Rattle.kmipa_check.specs.declared.verdict.Verdict.TheVariants.{Yes}
use Rattle.kmipa_record.specs.declared.fault.RecordKind.TheVariants as record_kind

-- The bytes are a transcript, a declaration and a witness, and from some inventory that the declaration describes a run, one call at a
-- time in the witness's order, gives every recorded response.
pub record AreAccepted (t d w : List ℕ) : Type 0 where
  pub marks : List MarkOf
  pub transcript : IsTranscript t marks
  pub declared : DeclarationOf
  pub declaration : IsDeclaration d declared
  pub turns : List TurnOf
  pub witness : IsWitness w turns
  pub accepted : IsAccepted marks declared turns

-- the bytes are the records that the audit hands out, and the verdict is one of them
pub record AreJudged (audited : Audited) (t d w : List ℕ) : Type 0 where
  pub transcript : IsTranscript t (transcript_of audited.transcript)
  pub declaration : IsDeclaration d (declaration_of audited.declaration)
  pub witness : IsWitness w (witness_of audited.witness)
  pub verdict : TellsVerdict (transcript_of audited.transcript) (declaration_of audited.declaration) (witness_of audited.witness) audited.verdict

-- the bytes are some records, and the verdict is right for these
pub record AreJudgedAs (said : Verdict) (t d w : List ℕ) : Type 0 where
  pub marks : List MarkOf
  pub transcript : IsTranscript t marks
  pub declared : DeclarationOf
  pub declaration : IsDeclaration d declared
  pub turns : List TurnOf
  pub witness : IsWitness w turns
  pub verdict : TellsVerdict marks declared turns said

-- the bytes are records of which the check tells this fault
pub record AreUnjudged (fault : CheckFault) (t d w : List ℕ) : Type 0 where
  pub marks : List MarkOf
  pub transcript : IsTranscript t marks
  pub declared : DeclarationOf
  pub declaration : IsDeclaration d declared
  pub turns : List TurnOf
  pub witness : IsWitness w turns
  pub checks : Checks marks declared turns (Err fault)

-- the bytes are a transcript
abbrev pub AreATranscript : List ℕ → Type 0
AreATranscript t = (marks : List MarkOf) × IsTranscript t marks

-- the bytes are a declaration
abbrev pub AreADeclaration : List ℕ → Type 0
AreADeclaration d = (declared : DeclarationOf) × IsDeclaration d declared

-- a fault of reading: the first of the first file that is no record, in the order of the three. The three truths say which inputs failed
abbrev pub ReadingFails : List ℕ → List ℕ → List ℕ → Bool → Bool → Bool → AuditFault → Type 0
ReadingFails t d w failed_t failed_d failed_w (audit.Transcript f) = Tells TranscriptFault IsTranscriptUpTo t failed_t f
ReadingFails t d w failed_t failed_d failed_w (audit.Declaration f) = AreATranscript t × Tells DeclarationFault IsDeclarationUpTo d failed_d f
ReadingFails t d w failed_t failed_d failed_w (audit.Witness f) = AreATranscript t × AreADeclaration d × Tells WitnessFault IsWitnessUpTo w failed_w f
ReadingFails t d w failed_t failed_d failed_w (audit.Check f) = ⊥

-- a fault: one of reading, or one of the check
abbrev pub AuditFails : List ℕ → List ℕ → List ℕ → Bool → Bool → Bool → AuditFault → Type 0
AuditFails t d w failed_t failed_d failed_w (audit.Check f) = AreUnjudged f t d w
AuditFails t d w failed_t failed_d failed_w fault = ReadingFails t d w failed_t failed_d failed_w fault

-- the bytes are these records
pub record AreRecords (records : AuditRecords) (t d w : List ℕ) : Type 0 where
  pub transcript : IsTranscript t (transcript_of records.transcript)
  pub declaration : IsDeclaration d (declaration_of records.declaration)
  pub witness : IsWitness w (witness_of records.witness)

-- what is read of these three files
abbrev pub ReadsRecords : List ℕ → List ℕ → List ℕ → Bool → Bool → Bool → Result AuditRecords AuditFault → Type 0
ReadsRecords t d w failed_t failed_d failed_w (Ok records) = AreRecords records t d w
ReadsRecords t d w failed_t failed_d failed_w (Err fault) = ReadingFails t d w failed_t failed_d failed_w fault

-- what an audit of these three files answers
abbrev pub Audits : List ℕ → List ℕ → List ℕ → Bool → Bool → Bool → Result Audited AuditFault → Type 0
Audits t d w failed_t failed_d failed_w (Ok audited) = AreJudged audited t d w
Audits t d w failed_t failed_d failed_w (Err fault) = AuditFails t d w failed_t failed_d failed_w fault

-- and where it hands out the verdict alone
abbrev pub AuditsAs : List ℕ → List ℕ → List ℕ → Bool → Bool → Bool → Result Verdict AuditFault → Type 0
AuditsAs t d w failed_t failed_d failed_w (Ok verdict) = AreJudgedAs verdict t d w
AuditsAs t d w failed_t failed_d failed_w (Err fault) = AuditFails t d w failed_t failed_d failed_w fault

-- the verdict is yes, or memory ran out
abbrev pub IsYes : Result Audited AuditFault → Type 0
IsYes (Ok audited) = audited.verdict ≡ Yes
IsYes (Err (audit.Transcript f)) = f.kind ≡ record_kind.Memory
IsYes (Err (audit.Declaration f)) = f.kind ≡ record_kind.Memory
IsYes (Err (audit.Witness f)) = f.kind ≡ record_kind.Memory
IsYes (Err (audit.Check f)) = f ≡ Memory

-- of accepted bytes, over inputs that don't fail, an audit says yes, unless memory runs out; so it says yes exactly there
abbrev pub AcceptedAuditIsYes : Type 0
AcceptedAuditIsYes = (t d w : List ℕ) (result : Result Audited AuditFault)
    → AreAccepted t d w → Audits t d w false false false result → IsYes result
