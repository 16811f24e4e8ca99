-- A check that also says what its no means.
use Rattle.std.specs.Prelude.{◌≡◌, ℕ, List, [], ◌++◌, Bool, Option, Some, None, Result, Ok, Err}
use Rattle.kmipa_record.specs.Declarations.{declaration_of}
use Rattle.kmipa_record.specs.Transcripts.{transcript_of}
use Rattle.kmipa_record.specs.Witnesses.{witness_of}
use Rattle.kmipa_check.specs.Audits.{AreRecords, AuditFails}
use Rattle.kmipa_check.specs.Verdicts.{TellsVerdict}
use Rattle.kmipa_check.specs.declared.auditing.AuditRecords.{AuditRecords}
use Rattle.kmipa_check.specs.declared.verdict.Refused.{Refused}
use Rattle.kmipa_check.specs.declared.verdict.Verdict.{Verdict}
use Rattle.kmipa_check.specs.declared.verdict.Verdict.TheVariants as verdict
use Rattle.kmipa_explain.specs.Explanations.{Explains}
use Rattle.kmipa_explain.specs.declared.explanation.Explanation.{Explanation}
use Rattle.kmipa_runs.specs.Lines.{PrintsVerdict}
use Rattle.kmipa_jobs.specs.declared.status.Status.{Status}
use Rattle.kmipa_telling.specs.Explained.{PrintsExplanation}
use Rattle.kmipa_telling.specs.FaultsTold.{IsAuditMeaning, PrintsFaultTold}
use Rattle.kmipa_telling.specs.declared.explained.Explained.{Explained}
use Rattle.kmipa_telling.specs.declared.meaning.FaultTold.{FaultTold}

-- ---- what is explained

-- each claim of an explanation holds of a no on these records
abbrev pub ExplainsRecords : AuditRecords → Refused → Explanation → Type 0
ExplainsRecords records = Explains (transcript_of records.transcript) (declaration_of records.declaration) (witness_of records.witness)

-- a no has an explanation that holds of it, and a yes has none
abbrev pub IsExplained : AuditRecords → Verdict → Option Explanation → Type 0
IsExplained records verdict.Yes None = Unit {0}
IsExplained records verdict.Yes (Some e) = ⊥
IsExplained records (verdict.No refused) None = ⊥
IsExplained records (verdict.No refused) (Some e) = ExplainsRecords records refused e

-- the verdict is right for these records
abbrev pub TellsRecords : AuditRecords → Verdict → Type 0
TellsRecords records = TellsVerdict (transcript_of records.transcript) (declaration_of records.declaration) (witness_of records.witness)

-- these records are the bytes, the verdict is right for them, and it is explained
pub record AreExplained (judged : Explained) (t d w : List ℕ) : Type 0 where
  pub records : AreRecords judged.records t d w
  pub verdict : TellsRecords judged.records judged.verdict
  pub explained : IsExplained judged.records judged.verdict judged.explanation

-- what a check with explanations answers of these three files; its faults are those of an audit, with what they mean
abbrev pub AuditsExplained : List ℕ → List ℕ → List ℕ → Bool → Bool → Bool → Result Explained FaultTold → Type 0
AuditsExplained t d w failed_t failed_d failed_w (Ok explained) = AreExplained explained t d w
AuditsExplained t d w failed_t failed_d failed_w (Err told) = AuditFails t d w failed_t failed_d failed_w told.fault × IsAuditMeaning t d w told.fault told.meaning

-- ---- what is printed

-- of a yes nothing more is printed
abbrev pub PrintsMore : Option Explanation → List ℕ → Type 0
PrintsMore None lines = lines ≡ []
PrintsMore (Some e) lines = PrintsExplanation e lines

-- the lines of the verdict, and behind them those of its explanation; or the line of a fault, and behind it those of what it means
abbrev pub PrintsExplained : Result Explained FaultTold → Status → List ℕ → Type 0
PrintsExplained (Ok explained) said lines = (front more : List ℕ)
    × PrintsVerdict (transcript_of explained.records.transcript) (declaration_of explained.records.declaration) (witness_of explained.records.witness) explained.verdict said front
    × PrintsMore explained.explanation more × (lines ≡ front ++ more)
PrintsExplained (Err told) said lines = PrintsFaultTold told said lines
