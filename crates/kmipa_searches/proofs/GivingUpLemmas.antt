-- What is made and printed of a search that says what its giving up means.
use Rattle.std.proofs.Common.{◌≡◌, ◌⊎◌, inl, inr, ℕ, List, [], Bool, IsTrue, Result, Ok, Err, refl, sym, ap, subst, ◌∙◌}
use Rattle.std.specs.Prelude.{IfOk, IsOkAnd, string_bytes}
use Rattle.std.specs.declared.alloc.AllocError.{AllocError}
use Rattle.kmipa_ttlv.specs.Input.{came_of, is_ended, IsFileOf}
use Rattle.kmipa_ttlv.specs.declared.input.Input.{Input}
use Rattle.kmipa_ttlv.proofs.ReadLemmas.{whole_file}
use Rattle.kmipa_record.specs.Marks.{AreRecorded, MarkOf}
use Rattle.kmipa_record.specs.Transcripts.{transcript_of, IsTranscript}
use Rattle.kmipa_record.specs.Declarations.{declaration_of, IsDeclaration}
use Rattle.kmipa_record.specs.Witnesses.{witness_of}
use Rattle.kmipa_record.specs.declared.declaration.Declaration.{Declaration}
use Rattle.kmipa_record.specs.declared.transcript.Transcript.{Transcript}
use Rattle.kmipa_record.specs.declared.fault.RecordFault.{RecordFault}
use Rattle.kmipa_check.specs.Audits.{AreAccepted}
use Rattle.kmipa_check.specs.declared.auditing.AuditFault.{AuditFault}
use Rattle.kmipa_check.specs.declared.auditing.AuditFault.TheVariants as audit
use Rattle.kmipa_check.specs.declared.fault.CheckFault.{CheckFault}
use Rattle.kmipa_check.specs.declared.fault.CheckFault.TheVariants as check
use Rattle.kmipa_orders.specs.Found.{FindsIn}
use Rattle.kmipa_orders.specs.declared.found.Found.{Found}
use Rattle.kmipa_orders.specs.declared.found.Found.TheVariants.{Yes, GaveUp, Refuted, Impossible, OutOfTime}
use Rattle.kmipa_searches.specs.Searches.{AreUnsearched, SearchFails, SearchStops, found_status, Makes}
use Rattle.kmipa_jobs.specs.Statuses.{IsSilent}
use Rattle.kmipa_runs.specs.declared.lines.Lines.{Lines}
use Rattle.kmipa_jobs.specs.declared.status.Status.{Status}
use Rattle.kmipa_jobs.specs.declared.status.Status.TheVariants as status
use Rattle.kmipa_searches.specs.Deciding.{AreDecided, DecidesFiles, DecidesRecords}
use Rattle.kmipa_telling.specs.FaultsTold.{IsFaultOf, IsFaultToldOf, IsSearchMeaning, PrintsFaultTold, bare_fault}
use Rattle.kmipa_searches.specs.GivingUp.{PrintsGivingUp}
use Rattle.kmipa_telling.specs.declared.meaning.FaultTold.{FaultTold}
use Rattle.kmipa_searches.specs.declared.judged.Judged.{Judged}

-- ---- the inputs

-- what was found in the two records that were read
pub decided_files : {R : Type 0} (ti di : Input R) (t d : List ℕ) (transcript : Transcript) (declaration : Declaration) (judged : Judged) (seconds budget : ℕ) (asked : Bool)
    → IsFileOf t ti → IsFileOf d di → IsTranscript (came_of ti) (transcript_of transcript) × IsTrue (is_ended ti)
    → IsDeclaration (came_of di) (declaration_of declaration) × IsTrue (is_ended di)
    → (AreRecorded (transcript_of transcript) → DecidesRecords (transcript_of transcript) (declaration_of declaration) seconds budget asked (Ok judged))
    → AreDecided judged t d seconds budget asked
decided_files ti di t d transcript declaration judged seconds budget asked tf df p q judges = record {
  marks = transcript_of transcript;
  transcript = whole_file t ti (λ bytes. IsTranscript bytes (transcript_of transcript)) p.1 tf p.0;
  declared = declaration_of declaration;
  declaration = whole_file d di (λ bytes. IsDeclaration bytes (declaration_of declaration)) q.1 df q.0;
  judges = judges p.0.recorded;
}

-- ---- status 0

-- status 0 is reported where a witness was found, and of it alone
pub done_accepted : (judged : Judged) (t d : List ℕ) (seconds budget : ℕ) (asked : Bool) (said : Status) (made : List ℕ) → AreDecided judged t d seconds budget asked
    → said ≡ found_status judged.searched.found → Makes judged.searched.found made → said ≡ status.Done → AreAccepted t d made
done_accepted judged t d seconds budget asked said made a is makes done = go judged.searched.found refl
  where
    go : (f : Found) → judged.searched.found ≡ f → AreAccepted t d made
    go (GaveUp count) e = let clash : status.GaveUp ≡ status.Done = sym (ap found_status e) ∙ sym is ∙ done in absurd cc
    go (OutOfTime count after) e = let clash : status.GaveUp ≡ status.Done = sym (ap found_status e) ∙ sym is ∙ done in absurd cc
    go (Refuted count object) e = let clash : status.GaveUp ≡ status.Done = sym (ap found_status e) ∙ sym is ∙ done in absurd cc
    go (Impossible count number) e = let clash : status.GaveUp ≡ status.Done = sym (ap found_status e) ∙ sym is ∙ done in absurd cc
    go (Yes witness count) e =
        let M : Found → Type 0 = λ f. Makes f made in
        let F : Found → Type 0 = λ f. FindsIn seconds a.marks a.declared budget f in
        record {
          marks = a.marks;
          transcript = a.transcript;
          declared = a.declared;
          declaration = a.declaration;
          turns = witness_of witness;
          witness = subst M e makes;
          accepted = (subst F e a.judges.0.1).0;
        }

pub done_is_decided : (judged : Judged) (t d : List ℕ) (seconds budget : ℕ) (asked : Bool) (said : Status) (lines made : List ℕ) → AreDecided judged t d seconds budget asked
    → PrintsGivingUp (Ok judged) said lines made ⊎ (IsSilent said lines × (made ≡ [])) → said ≡ status.Done → AreAccepted t d made
done_is_decided judged t d seconds budget asked said lines made a (inr p) done = let clash : status.Failed ≡ status.Done = sym p.0.0 ∙ done in absurd cc
done_is_decided judged t d seconds budget asked said lines made a (inl p) done = done_accepted judged t d seconds budget asked said made a p.0 p.2 done

-- ---- faults

-- the fault of a search, where it is of a message
pub stop_of : (marks : List MarkOf) (fault : CheckFault) → SearchStops marks fault → IsFaultOf marks fault
stop_of marks (check.Outside number side o) h = h
stop_of marks (check.Witness w) h = absurd h
stop_of marks check.Memory h = tt

-- a fault of a file is told alone
pub bare_transcript : (t d : List ℕ) (ft fd : Bool) (seconds budget : ℕ) (asked : Bool) (fault : RecordFault) → SearchFails t d ft fd (audit.Transcript fault)
    → DecidesFiles t d ft fd seconds budget asked (Err (bare_fault (audit.Transcript fault)))
bare_transcript t d ft fd seconds budget asked fault h = (h, tt)

pub bare_declaration : (t d : List ℕ) (ft fd : Bool) (seconds budget : ℕ) (asked : Bool) (fault : RecordFault) → SearchFails t d ft fd (audit.Declaration fault)
    → DecidesFiles t d ft fd seconds budget asked (Err (bare_fault (audit.Declaration fault)))
bare_declaration t d ft fd seconds budget asked fault h = (h, tt)

-- what a search of records tells of its fault
pub stop_told : (t d : List ℕ) (ft fd : Bool) (seconds budget : ℕ) (asked : Bool) (marks : List MarkOf) (fault : CheckFault) (told : FaultTold) → AreUnsearched fault t d → IsTranscript t marks
    → IsFaultToldOf marks fault told → DecidesFiles t d ft fd seconds budget asked (Err told)
stop_told t d ft fd seconds budget asked marks fault told a is (inl p) =
    let P : AuditFault → Type 0 = λ f. SearchFails t d ft fd f × IsSearchMeaning t f told.meaning in
    subst P (sym p.0) (a, (marks, is, p.1))
stop_told t d ft fd seconds budget asked marks fault told a is (inr p) =
    let P : FaultTold → Type 0 = λ x. DecidesFiles t d ft fd seconds budget asked (Err x) in
    let memory : AreUnsearched check.Memory t d = record { marks = a.marks; transcript = a.transcript; declared = a.declared; declaration = a.declaration; stops = tt } in
    subst P (sym p) (memory, (marks, is, tt))

-- what is appended of a fault
pub fault_reported : (made : Result Lines AllocError) (told : FaultTold) (said : Status) (lines file : List ℕ) → IfOk made (λ l. PrintsFaultTold told l.status (string_bytes l.text))
    → IsOkAnd made (λ l. (said ≡ l.status) × (lines ≡ string_bytes l.text)) ⊎ IsSilent said lines → file ≡ [] → PrintsGivingUp (Err told) said lines file ⊎ (IsSilent said lines × (file ≡ []))
fault_reported made told said lines file prints (inr silent) none = inr (silent, none)
fault_reported (Err e) told said lines file prints (inl p) none = absurd p
fault_reported (Ok l) told said lines file prints (inl p) none =
    let P : Status → Type 0 = λ s. PrintsFaultTold told s (string_bytes l.text) in
    let Q : List ℕ → Type 0 = λ text. PrintsFaultTold told said text in
    inl (subst Q (sym p.1) (subst P (sym p.0) prints), none)
