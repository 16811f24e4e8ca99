-- Of a check that says what its no means.
use Rattle.std.proofs.Common.{◌≡◌, ◌⊎◌, inl, inr, ℕ, Bool, List, [], ◌++◌, codes, Option, Some, None, Result, Ok, Err, length, take, refl, sym, ap, subst, ◌∙◌}
use Rattle.std.specs.Prelude.{IfOk, IsOkAnd, string_bytes}
use Rattle.std.specs.declared.alloc.AllocError.{AllocError}
use Rattle.kmipa_record.specs.Marks.{MarkOf}
use Rattle.kmipa_record.specs.Declarations.{DeclarationOf, declaration_of}
use Rattle.kmipa_record.specs.Transcripts.{transcript_of}
use Rattle.kmipa_record.specs.Witnesses.{TurnOf, witness_of}
use Rattle.std.proofs.lemmas.List.{append-nil}
use Rattle.kmipa_check.specs.Audits.{AreAccepted, AreRecords, AreUnjudged, AuditFails}
use Rattle.kmipa_check.specs.Grants.{GrantsOf, grants_declared}
use Rattle.kmipa_check.specs.Verdicts.{Checks}
use Rattle.kmipa_check.specs.declared.auditing.AuditFault.TheVariants as audit
use Rattle.kmipa_check.specs.declared.fault.CheckFault.{CheckFault}
use Rattle.kmipa_check.specs.declared.fault.CheckFault.TheVariants as check
use Rattle.kmipa_check.specs.declared.fault.WitnessFault.{WitnessFault}
use Rattle.kmipa_check.specs.declared.auditing.AuditFault.{AuditFault}
use Rattle.kmipa_check.specs.declared.auditing.AuditRecords.{AuditRecords}
use Rattle.kmipa_check.specs.declared.verdict.Verdict.{Verdict}
use Rattle.kmipa_check.specs.declared.verdict.Verdict.TheVariants as verdict
use Rattle.kmipa_explain.specs.declared.explanation.Explanation.{Explanation}
use Rattle.kmipa_runs.specs.Lines.{FitsStatus, PrintsFault, PrintsVerdict, check_status, check_text}
use Rattle.kmipa_jobs.specs.Statuses.{IsSilent}
use Rattle.kmipa_runs.specs.declared.lines.Lines.{Lines}
use Rattle.kmipa_jobs.specs.declared.status.Status.{Status}
use Rattle.kmipa_jobs.specs.declared.status.Status.TheVariants as status
use Rattle.kmipa_runs.proofs.LineLemmas.{done_is_yes, record_fits}
use Rattle.kmipa_telling.specs.Explaining.{AreExplained, AuditsExplained, IsExplained, PrintsExplained, PrintsMore, TellsRecords}
use Rattle.kmipa_telling.specs.FaultsTold.{IsAuditMeaning, IsCheckFaultOf, IsCheckMeaning, IsCheckToldOf, IsFaultOf, IsFaultToldOf, PrintsFaultMeaning, bare_fault}
use Rattle.kmipa_telling.specs.declared.explained.Explained.{Explained}
use Rattle.kmipa_telling.specs.declared.meaning.FaultMeaning.{FaultMeaning}
use Rattle.kmipa_telling.specs.declared.meaning.FaultTold.{FaultTold}
use Rattle.kmipa_telling.proofs.JsonLemmas.{fault_not_done}

-- ---- status 0

-- what is explained as a yes is accepted
pub yes_explained : (t d w : List ℕ) (explained : Explained) (v : Verdict) → explained.verdict ≡ v → v ≡ verdict.Yes → AreExplained explained t d w → AreAccepted t d w
yes_explained t d w explained (verdict.No r) is e a = absurd cc
yes_explained t d w explained verdict.Yes is e a =
    let P : Verdict → Type 0 = λ x. TellsRecords explained.records x in
    record {
      marks = transcript_of explained.records.transcript;
      transcript = a.records.transcript;
      declared = declaration_of explained.records.declaration;
      declaration = a.records.declaration;
      turns = witness_of explained.records.witness;
      witness = a.records.witness;
      accepted = subst P is a.verdict;
    }

-- status 0 is reported of accepted bytes alone
pub done_accepted : (t d w : List ℕ) (ft fd fw : Bool) (outcome : Result Explained FaultTold) (said : Status) (lines : List ℕ) → AuditsExplained t d w ft fd fw outcome
    → PrintsExplained outcome said lines ⊎ IsSilent said lines → said ≡ status.Done → AreAccepted t d w
done_accepted t d w ft fd fw outcome said lines audits (inr silent) done = let clash : status.Failed ≡ status.Done = sym silent.0 ∙ done in absurd cc
done_accepted t d w ft fd fw (Err told) said lines audits (inl (front, more, prints, outside, e)) done = absurd (fault_not_done told.fault (sym prints.0 ∙ done))
done_accepted t d w ft fd fw (Ok explained) said lines audits (inl prints) done =
    let yes = done_is_yes (transcript_of explained.records.transcript) (declaration_of explained.records.declaration) (witness_of explained.records.witness) explained.verdict said prints.0 (inl prints.2) done in
    yes_explained t d w explained explained.verdict refl yes audits

-- ---- what is appended

pub explained_reported : (made : Result Lines AllocError) (outcome : Result Explained FaultTold) (said : Status) (lines : List ℕ)
    → IfOk made (λ l. PrintsExplained outcome l.status (string_bytes l.text))
    → IsOkAnd made (λ l. (said ≡ l.status) × (lines ≡ string_bytes l.text)) ⊎ IsSilent said lines → PrintsExplained outcome said lines ⊎ IsSilent said lines
explained_reported made outcome said lines told (inr silent) = inr silent
explained_reported (Err e) outcome said lines told (inl p) = absurd p
explained_reported (Ok l) outcome said lines told (inl p) =
    let P : Status → Type 0 = λ s. PrintsExplained outcome s (string_bytes l.text) in
    let Q : List ℕ → Type 0 = λ text. PrintsExplained outcome said text in
    inl (subst Q (sym p.1) (subst P (sym p.0) told))

-- ---- what stands on standard output

-- the lines of a verdict, and behind those of a no what it means
fits_at : (records : AuditRecords) (marks : List MarkOf) (declared : DeclarationOf) (turns : List TurnOf) (v : Verdict) (o : Option Explanation) (said : Status) (front more lines : List ℕ) → IsExplained records v o
    → PrintsVerdict marks declared turns v said front → PrintsMore o more → lines ≡ front ++ more → FitsStatus said lines
fits_at records marks declared turns verdict.Yes None said front more lines is prints none e =
    let P : Status → Type 0 = λ s. FitsStatus s lines in
    subst P (sym prints.0) (prints.1.0, e ∙ ap (λ (l : List ℕ). front ++ l) none ∙ append-nil front ∙ prints.1.2)
fits_at records marks declared turns verdict.Yes (Some x) said front more lines is prints none e = absurd is
fits_at records marks declared turns (verdict.No r) o said front more lines is prints tells e =
    let P : Status → Type 0 = λ s. FitsStatus s lines in
    subst P (sym prints.0) (ap (take (length (codes "no: turn "))) (e ∙ ap (λ (l : List ℕ). l ++ more) prints.1.2.2))

pub explained_fits : (explained : Explained) (t d w : List ℕ) (said : Status) (lines : List ℕ) → AreExplained explained t d w
    → PrintsExplained (Ok explained) said lines ⊎ IsSilent said lines → FitsStatus said lines
explained_fits explained t d w said lines a (inl (front, more, prints, tells, e)) =
    fits_at explained.records (transcript_of explained.records.transcript) (declaration_of explained.records.declaration) (witness_of explained.records.witness) explained.verdict explained.explanation said front more lines
    a.explained prints tells e
explained_fits explained t d w said lines a (inr silent) =
    let P : Status → Type 0 = λ s. FitsStatus s lines in
    subst P (sym silent.0) (inr silent.1)

-- ---- faults

-- nothing stands behind it
alone : (said place : Status) (text front more lines : List ℕ) → FitsStatus place text → said ≡ place → front ≡ text → more ≡ [] → lines ≡ front ++ more → FitsStatus said lines
alone said place text front more lines fits s f m e =
    let P : Status → Type 0 = λ x. FitsStatus x lines in
    let Q : List ℕ → Type 0 = λ x. FitsStatus place x in
    subst P (sym s) (subst Q (sym (e ∙ ap (λ (l : List ℕ). front ++ l) m ∙ append-nil front ∙ f)) fits)

check_fits : (g : GrantsOf) (marks : List MarkOf) (turns : List TurnOf) (fault : CheckFault) (m : Option FaultMeaning) (said : Status) (front more lines : List ℕ) → IsCheckMeaning g marks turns fault m → said ≡ check_status fault
    → front ≡ check_text fault → PrintsFaultMeaning m more → lines ≡ front ++ more → FitsStatus said lines
check_fits g marks turns (check.Outside number side x) m said front more lines is s f tells e =
    let P : Status → Type 0 = λ y. FitsStatus y lines in
    subst P (sym s) (inl (ap (take (length (codes "outside: call "))) (e ∙ ap (λ (l : List ℕ). l ++ more) f)))
check_fits g marks turns (check.Witness w) m said front more lines is s f tells e =
    let P : Status → Type 0 = λ y. FitsStatus y lines in
    subst P (sym s) (inr (inl (ap (take (length (codes "witness: at "))) (e ∙ ap (λ (l : List ℕ). l ++ more) f))))
check_fits g marks turns check.Memory None said front more lines is s f tells e = alone said status.Failed [] front more lines (inr refl) s f tells e
check_fits g marks turns check.Memory (Some x) said front more lines is s f tells e = absurd is

fault_fits : (t d w : List ℕ) (fault : AuditFault) (m : Option FaultMeaning) (said : Status) (front more lines : List ℕ) → IsAuditMeaning t d w fault m → PrintsFault fault said front → PrintsFaultMeaning m more
    → lines ≡ front ++ more → FitsStatus said lines
fault_fits t d w (audit.Transcript f) None said front more lines is prints tells e = alone said _ _ front more lines (record_fits (codes "transcript") f.offset f.kind) prints.0 prints.1 tells e
fault_fits t d w (audit.Declaration f) None said front more lines is prints tells e = alone said _ _ front more lines (record_fits (codes "declaration") f.offset f.kind) prints.0 prints.1 tells e
fault_fits t d w (audit.Witness f) None said front more lines is prints tells e = alone said _ _ front more lines (record_fits (codes "witness") f.offset f.kind) prints.0 prints.1 tells e
fault_fits t d w (audit.Transcript f) (Some x) said front more lines is prints tells e = absurd is
fault_fits t d w (audit.Declaration f) (Some x) said front more lines is prints tells e = absurd is
fault_fits t d w (audit.Witness f) (Some x) said front more lines is prints tells e = absurd is
fault_fits t d w (audit.Check f) m said front more lines is prints tells e = check_fits (grants_declared is.1) is.0 is.2 f m said front more lines is.6 prints.0 prints.1 tells e

pub told_fits : (told : FaultTold) (t d w : List ℕ) (said : Status) (lines : List ℕ) → IsAuditMeaning t d w told.fault told.meaning → PrintsExplained (Err told) said lines ⊎ IsSilent said lines → FitsStatus said lines
told_fits told t d w said lines is (inl (front, more, prints, tells, e)) = fault_fits t d w told.fault told.meaning said front more lines is prints tells e
told_fits told t d w said lines is (inr silent) =
    let P : Status → Type 0 = λ s. FitsStatus s lines in
    subst P (sym silent.0) (inr silent.1)

-- what a check of these records tells of its fault
module _ (records : AuditRecords) (t d w : List ℕ) (r : AreRecords records t d w) where
  unjudged : (f : CheckFault) → Checks (transcript_of records.transcript) (declaration_of records.declaration) (witness_of records.witness) (Err f) → AreUnjudged f t d w
  unjudged f h = record {
    marks = transcript_of records.transcript;
    transcript = r.transcript;
    declared = declaration_of records.declaration;
    declaration = r.declaration;
    turns = witness_of records.witness;
    witness = r.witness;
    checks = h;
  }

  -- memory ran out
  pub bare_memory : (ft fd fw : Bool) → AuditsExplained t d w ft fd fw (Err (bare_fault (audit.Check check.Memory)))
  bare_memory ft fd fw = (unjudged check.Memory tt, (transcript_of records.transcript, declaration_of records.declaration, witness_of records.witness, r.transcript, r.declaration, r.witness, tt))

  pub memory_audited : (ft fd fw : Bool) (fault : CheckFault) (told : FaultTold) → fault ≡ check.Memory → told ≡ bare_fault (audit.Check fault) → AuditsExplained t d w ft fd fw (Err told)
  memory_audited ft fd fw fault told is bare =
      let P : FaultTold → Type 0 = λ x. AuditsExplained t d w ft fd fw (Err x) in
      subst P (sym (bare ∙ ap (λ (f : CheckFault). bare_fault (audit.Check f)) is)) (bare_memory ft fd fw)

  pub fault_audited : (ft fd fw : Bool) (fault : CheckFault) (told : FaultTold) → Checks (transcript_of records.transcript) (declaration_of records.declaration) (witness_of records.witness) (Err fault)
      → IsCheckToldOf (grants_declared (declaration_of records.declaration)) (transcript_of records.transcript) (witness_of records.witness) fault told → AuditsExplained t d w ft fd fw (Err told)
  fault_audited ft fd fw fault told checks (inl is) =
      let P : AuditFault → Type 0 = λ f. AuditFails t d w ft fd fw f × IsAuditMeaning t d w f told.meaning in
      subst P (sym is.0) (unjudged fault checks, (transcript_of records.transcript, declaration_of records.declaration, witness_of records.witness, r.transcript, r.declaration, r.witness, is.1))
  fault_audited ft fd fw fault told checks (inr is) =
      let P : FaultTold → Type 0 = λ x. AuditsExplained t d w ft fd fw (Err x) in
      subst P (sym is) (bare_memory ft fd fw)

-- the fault of a check, where it is of a message or of the witness
pub fault_of : (marks : List MarkOf) (declared : DeclarationOf) (turns : List TurnOf) (fault : CheckFault) → Checks marks declared turns (Err fault) → IsCheckFaultOf (grants_declared declared) marks turns fault
fault_of marks declared turns (check.Outside number side o) h = h
fault_of marks declared turns (check.Witness w) h = h
fault_of marks declared turns check.Memory h = tt

-- a fault of a message, and what it means, is told so of a check
pub message_fault : (g : GrantsOf) (marks : List MarkOf) (turns : List TurnOf) (fault : CheckFault) → ((w : WitnessFault) → fault ≡ check.Witness w → ⊥) → IsCheckFaultOf g marks turns fault → IsFaultOf marks fault
message_fault g marks turns (check.Outside number side o) apart h = h
message_fault g marks turns (check.Witness w) apart h = absurd (apart w refl)
message_fault g marks turns check.Memory apart h = h

pub message_told : (g : GrantsOf) (marks : List MarkOf) (turns : List TurnOf) (fault : CheckFault) (told : FaultTold) → ((w : WitnessFault) → fault ≡ check.Witness w → ⊥) → IsFaultToldOf marks fault told
    → IsCheckToldOf g marks turns fault told
message_told g marks turns (check.Outside number side o) told apart h = h
message_told g marks turns (check.Witness w) told apart h = absurd (apart w refl)
message_told g marks turns check.Memory told apart h = h
