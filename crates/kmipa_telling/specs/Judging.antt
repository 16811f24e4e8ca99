-- What is judged of files whose bytes are held in memory as they are read.
use Rattle.std.specs.Prelude.{◌≡◌, ℕ, List, [], ◌++◌, Bool, false, IsTrue, Result, Ok, Err, OnOk}
use Rattle.kmipa_ttlv.specs.Input.{is_ended, is_failed, IsFileOf}
use Rattle.kmipa_ttlv.specs.declared.input.Input.{Input}
use Rattle.kmipa_record.specs.Files.{Tells}
use Rattle.kmipa_record.specs.declared.fault.RecordFault.{RecordFault}
use Rattle.kmipa_record.specs.declared.fault.RecordKind.{RecordKind}
use Rattle.kmipa_check.specs.Audits.{Audits, ReadsRecords}
use Rattle.kmipa_check.specs.declared.auditing.Audited.{Audited}
use Rattle.kmipa_check.specs.declared.auditing.AuditFault.{AuditFault}
use Rattle.kmipa_check.specs.declared.auditing.AuditFault.TheVariants as audit
use Rattle.kmipa_check.specs.declared.auditing.AuditRecords.{AuditRecords}

-- What is read of bytes: what they are; or their first fault, whatever follows them, and nothing where all of them were read for it; or that memory ran out.
abbrev pub ReadsBytes : {T : Type 0} → (List ℕ → T → Type 0) → (List ℕ → ℕ → RecordKind → Type 0) → (List ℕ → ℕ → Type 0) → List ℕ → Result T RecordFault → Bool → Type 0
ReadsBytes Is Flaw Right bytes (Ok kept) all = Is bytes kept
ReadsBytes Is Flaw Right bytes (Err f) all = (after : List ℕ) → (IsTrue all → after ≡ []) → Tells Flaw Right (bytes ++ after) false f

-- the ends of three inputs were seen
abbrev pub AreEnded : {R : Type 0} → Input R → Input R → Input R → Type 0
AreEnded t d w = IsTrue (is_ended t) × IsTrue (is_ended d) × IsTrue (is_ended w)

-- what is read of three inputs, whatever follows what came
abbrev pub ReadsInputs : {R : Type 0} → Input R → Input R → Input R → Result AuditRecords AuditFault → Type 0
ReadsInputs t d w outcome = ((a b c : List ℕ) → IsFileOf a t → IsFileOf b d → IsFileOf c w → ReadsRecords a b c (is_failed t) (is_failed d) (is_failed w) outcome)
    × OnOk outcome (AreEnded t d w)

-- a fact where all files were read, and none of them has a fault
abbrev pub WhereRead : {T : Type 0} → Result T AuditFault → Type 0 → Type 0
WhereRead (Ok x) fact = fact
WhereRead (Err (audit.Transcript f)) fact = Unit {0}
WhereRead (Err (audit.Declaration f)) fact = Unit {0}
WhereRead (Err (audit.Witness f)) fact = Unit {0}
WhereRead (Err (audit.Check f)) fact = fact

-- what an audit of three inputs answers, whatever follows what came
abbrev pub AuditsInputs : {R : Type 0} → Input R → Input R → Input R → Result Audited AuditFault → Type 0
AuditsInputs t d w outcome = ((a b c : List ℕ) → IsFileOf a t → IsFileOf b d → IsFileOf c w → Audits a b c (is_failed t) (is_failed d) (is_failed w) outcome)
    × WhereRead outcome (AreEnded t d w)
