-- What the three readers and the check come to together.
use Rattle.std.proofs.Common.{◌≡◌, ℕ, List, Bool, IsTrue, refl, subst, Ok, Err}
use Rattle.kmipa_ttlv.specs.Input.{came_of, is_ended, IsFileOf}
use Rattle.kmipa_ttlv.specs.declared.input.Input.{Input}
use Rattle.kmipa_ttlv.proofs.ReadLemmas.{whole_file}
use Rattle.kmipa_record.specs.Transcripts.{transcript_of, IsTranscript}
use Rattle.kmipa_record.specs.Declarations.{declaration_of, IsDeclaration}
use Rattle.kmipa_record.specs.Witnesses.{witness_of, IsWitness}
use Rattle.kmipa_record.specs.declared.declaration.Declaration.{Declaration}
use Rattle.kmipa_record.specs.declared.transcript.Transcript.{Transcript}
use Rattle.kmipa_check.specs.Audits.{AreAccepted, AreRecords, AreJudged, AreJudgedAs, AreUnjudged, AreATranscript, AreADeclaration, ReadingFails, AuditFails}
use Rattle.kmipa_check.specs.Verdicts.{Checks, TellsVerdict}
use Rattle.kmipa_check.specs.declared.auditing.Audited.{Audited}
use Rattle.kmipa_check.specs.declared.auditing.AuditRecords.{AuditRecords}
use Rattle.kmipa_check.specs.declared.auditing.AuditFault.{AuditFault}
use Rattle.kmipa_check.specs.declared.auditing.AuditFault.TheVariants as audit
use Rattle.kmipa_check.specs.declared.fault.CheckFault.{CheckFault}
use Rattle.kmipa_check.specs.declared.verdict.Verdict.{Verdict}
use Rattle.kmipa_check.specs.declared.verdict.Verdict.TheVariants.{Yes, No}

-- the three records that were read
pub are_records : {R : Type 0} (ti di wi : Input R) (t d w : List ℕ) (records : AuditRecords)
    → IsFileOf t ti → IsFileOf d di → IsFileOf w wi
    → IsTranscript (came_of ti) (transcript_of records.transcript) × IsTrue (is_ended ti) → IsDeclaration (came_of di) (declaration_of records.declaration) × IsTrue (is_ended di)
    → IsWitness (came_of wi) (witness_of records.witness) × IsTrue (is_ended wi) → AreRecords records t d w
are_records ti di wi t d w records tf df wf p q s = record {
  transcript = whole_file t ti (λ bytes. IsTranscript bytes (transcript_of records.transcript)) p.1 tf p.0;
  declaration = whole_file d di (λ bytes. IsDeclaration bytes (declaration_of records.declaration)) q.1 df q.0;
  witness = whole_file w wi (λ bytes. IsWitness bytes (witness_of records.witness)) s.1 wf s.0;
}

-- a verdict on them
pub judged : (t d w : List ℕ) (records : AuditRecords) (verdict : Verdict) → AreRecords records t d w
    → Checks (transcript_of records.transcript) (declaration_of records.declaration) (witness_of records.witness) (Ok verdict)
    → AreJudged (record { verdict = verdict; transcript = records.transcript; declaration = records.declaration; witness = records.witness }) t d w
judged t d w records verdict are checks = record {
  transcript = are.transcript;
  declaration = are.declaration;
  witness = are.witness;
  verdict = checks;
}

-- a fault of the check of them
pub unjudged : (t d w : List ℕ) (records : AuditRecords) (fault : CheckFault) → AreRecords records t d w
    → Checks (transcript_of records.transcript) (declaration_of records.declaration) (witness_of records.witness) (Err fault)
    → AreUnjudged fault t d w
unjudged t d w records fault are checks = record {
  marks = transcript_of records.transcript;
  transcript = are.transcript;
  declared = declaration_of records.declaration;
  declaration = are.declaration;
  turns = witness_of records.witness;
  witness = are.witness;
  checks = checks;
}

-- a fault of reading is one of the audit
pub fails : (t d w : List ℕ) (ft fd fw : Bool) (fault : AuditFault) → ReadingFails t d w ft fd fw fault → AuditFails t d w ft fd fw fault
fails t d w ft fd fw (audit.Transcript f) told = told
fails t d w ft fd fw (audit.Declaration f) told = told
fails t d w ft fd fw (audit.Witness f) told = told
fails t d w ft fd fw (audit.Check f) told = absurd told

-- a yes is accepted
accepted_at : (verdict : Verdict) → verdict ≡ Yes → (audited : Audited) → audited.verdict ≡ verdict → (t d w : List ℕ) → AreJudged audited t d w → AreAccepted t d w
accepted_at (No r) e audited is t d w j = absurd cc
accepted_at Yes e audited is t d w j =
    let P : Verdict → Type 0 = λ v. TellsVerdict (transcript_of audited.transcript) (declaration_of audited.declaration) (witness_of audited.witness) v in
    record { marks = transcript_of audited.transcript; transcript = j.transcript; declared = declaration_of audited.declaration; declaration = j.declaration; turns = witness_of audited.witness; witness = j.witness; accepted = subst P is j.verdict }

pub yes_accepted : (t d w : List ℕ) (audited : Audited) → audited.verdict ≡ Yes → AreJudged audited t d w → AreAccepted t d w
yes_accepted t d w audited said j = accepted_at Yes refl audited said t d w j

-- the verdict without the records
pub judged_as : (t d w : List ℕ) (audited : Audited) → AreJudged audited t d w → AreJudgedAs audited.verdict t d w
judged_as t d w audited j = record {
  marks = transcript_of audited.transcript;
  transcript = j.transcript;
  declared = declaration_of audited.declaration;
  declaration = j.declaration;
  turns = witness_of audited.witness;
  witness = j.witness;
  verdict = j.verdict;
}

-- the file whose bytes came to the end that was seen is the transcript that was read
pub a_transcript : {R : Type 0} (ti : Input R) (t : List ℕ) (transcript : Transcript) → IsFileOf t ti → IsTranscript (came_of ti) (transcript_of transcript) × IsTrue (is_ended ti)
    → AreATranscript t
a_transcript ti t transcript tf p = (transcript_of transcript, whole_file t ti (λ bytes. IsTranscript bytes (transcript_of transcript)) p.1 tf p.0)

pub a_declaration : {R : Type 0} (di : Input R) (d : List ℕ) (declaration : Declaration) → IsFileOf d di → IsDeclaration (came_of di) (declaration_of declaration) × IsTrue (is_ended di)
    → AreADeclaration d
a_declaration di d declaration df q = (declaration_of declaration, whole_file d di (λ bytes. IsDeclaration bytes (declaration_of declaration)) q.1 df q.0)
