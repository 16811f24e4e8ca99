-- What is made and printed of a search.
use Rattle.std.proofs.Common.{◌≡◌, ◌≢◌, ◌⊎◌, inl, inr, ℕ, List, [], ◌++◌, Bool, IsTrue, Ok, Err, refl, sym, ap, subst, ◌∙◌}
use Rattle.std.specs.Prelude.{string_bytes}
use Rattle.std.specs.Io.{appended_bytes}
use Rattle.kmipa_ttlv.specs.Input.{came_of, is_ended, IsFileOf}
use Rattle.kmipa_ttlv.specs.declared.input.Input.{Input}
use Rattle.kmipa_ttlv.proofs.ReadLemmas.{whole_file}
use Rattle.kmipa_record.specs.Marks.{AreRecorded}
use Rattle.kmipa_record.specs.Transcripts.{transcript_of, IsTranscript}
use Rattle.kmipa_record.specs.Declarations.{declaration_of, IsDeclaration}
use Rattle.kmipa_record.specs.Witnesses.{witness_of, IsWitness}
use Rattle.kmipa_record.specs.Writing.{Appends, IsWrittenWitness}
use Rattle.kmipa_record.specs.declared.declaration.Declaration.{Declaration}
use Rattle.kmipa_record.specs.declared.transcript.Transcript.{Transcript}
use Rattle.kmipa_record.specs.declared.witness.Witness.{Witness}
use Rattle.kmipa_check.specs.Audits.{AreAccepted}
use Rattle.kmipa_check.specs.declared.auditing.AuditFault.{AuditFault}
use Rattle.kmipa_check.specs.declared.fault.CheckFault.{CheckFault}
use Rattle.kmipa_orders.specs.Found.{FindsIn}
use Rattle.kmipa_orders.specs.declared.found.Found.{Found}
use Rattle.kmipa_orders.specs.declared.found.Found.TheVariants.{Yes, GaveUp, Refuted, Impossible, OutOfTime}
use Rattle.kmipa_runs.specs.Lines.{PrintsFault}
use Rattle.kmipa_searches.specs.Searches.{found_status, AreSearched, AreUnsearched, Makes, PrintsSearch, SearchesRecords, searched_text}
use Rattle.kmipa_jobs.specs.Statuses.{IsSilent}
use Rattle.kmipa_runs.specs.declared.lines.Lines.{Lines}
use Rattle.kmipa_searches.specs.declared.searched.Searched.{Searched}
use Rattle.kmipa_jobs.specs.declared.status.Status.{Status}
use Rattle.kmipa_jobs.specs.declared.status.Status.TheVariants as status
use Rattle.kmipa_runs.proofs.AppendLemmas.{since}

-- ---- the inputs

-- what was found in the two records that were read
pub searched_files : {R : Type 0} (ti di : Input R) (t d : List ℕ) (transcript : Transcript) (declaration : Declaration) (searched : Searched) (seconds budget : ℕ) (asked : Bool)
    → IsFileOf t ti → IsFileOf d di → IsTranscript (came_of ti) (transcript_of transcript) × IsTrue (is_ended ti)
    → IsDeclaration (came_of di) (declaration_of declaration) × IsTrue (is_ended di)
    → (AreRecorded (transcript_of transcript) → SearchesRecords (transcript_of transcript) (declaration_of declaration) seconds budget asked (Ok searched))
    → AreSearched searched t d seconds budget asked
searched_files ti di t d transcript declaration searched seconds budget asked tf df p q searches = record {
  marks = transcript_of transcript;
  transcript = whole_file t ti (λ bytes. IsTranscript bytes (transcript_of transcript)) p.1 tf p.0;
  declared = declaration_of declaration;
  declaration = whole_file d di (λ bytes. IsDeclaration bytes (declaration_of declaration)) q.1 df q.0;
  forced = (searches p.0.recorded).0;
  found = (searches p.0.recorded).1;
  tallied = (searches p.0.recorded).2;
}

-- a fault of them
pub unsearched_files : {R : Type 0} (ti di : Input R) (t d : List ℕ) (transcript : Transcript) (declaration : Declaration) (fault : CheckFault) (seconds budget : ℕ) (asked : Bool)
    → IsFileOf t ti → IsFileOf d di → IsTranscript (came_of ti) (transcript_of transcript) × IsTrue (is_ended ti)
    → IsDeclaration (came_of di) (declaration_of declaration) × IsTrue (is_ended di)
    → (AreRecorded (transcript_of transcript) → SearchesRecords (transcript_of transcript) (declaration_of declaration) seconds budget asked (Err fault))
    → AreUnsearched fault t d
unsearched_files ti di t d transcript declaration fault seconds budget asked tf df p q searches = record {
  marks = transcript_of transcript;
  transcript = whole_file t ti (λ bytes. IsTranscript bytes (transcript_of transcript)) p.1 tf p.0;
  declared = declaration_of declaration;
  declaration = whole_file d di (λ bytes. IsDeclaration bytes (declaration_of declaration)) q.1 df q.0;
  stops = searches p.0.recorded;
}

-- ---- what is made

-- the witness that was appended
pub appended_witness : (old new : List ℕ) (witness : Witness) → Appends (IsWrittenWitness (witness_of witness)) old new → IsWitness (appended_bytes old new) (witness_of witness)
appended_witness old new witness a =
    let P : List ℕ → Type 0 = λ bytes. IsWitness bytes (witness_of witness) in
    subst P (sym (since old a.appended new a.after)) a.is.is

-- what is reported of a witness
abbrev pub TellsWitness : Witness → Lines → Status → List ℕ → List ℕ → List ℕ → List ℕ → Type 0
TellsWitness witness reported said lines made old new = ((said ≡ reported.status) × (lines ≡ string_bytes reported.text) × IsWitness made (witness_of witness))
    ⊎ (IsSilent said lines × (new ≡ old))

-- of a search that found one
pub reported_witness : (searched : Searched) (reported : Lines) (witness : Witness) (count : ℕ) (said : Status) (lines old new : List ℕ)
    → searched.found ≡ Yes witness count → reported.status ≡ found_status searched.found
    → string_bytes reported.text ≡ searched_text searched
    → TellsWitness witness reported said lines (appended_bytes old new) old new
    → appended_bytes old old ≡ []
    → PrintsSearch (Ok searched) said lines (appended_bytes old new) ⊎ (IsSilent said lines × (appended_bytes old new ≡ []))
reported_witness searched reported witness count said lines old new is ended reads (inl p) nothing =
    let P : Found → Type 0 = λ f. Makes f (appended_bytes old new) in
    inl (p.0 ∙ ended, p.1 ∙ reads, subst P (sym is) p.2)
reported_witness searched reported witness count said lines old new is ended reads (inr p) nothing =
    inr (p.0, ap (λ (l : List ℕ). appended_bytes old l) p.1 ∙ nothing)

pub reported_nothing : (searched : Searched) (reported : Lines) (witness : Witness) (count : ℕ) (said : Status) (lines old new : List ℕ)
    → searched.found ≡ Yes witness count → reported.status ≡ found_status searched.found
    → TellsWitness witness reported said lines (appended_bytes old new) old new → said ≢ status.Done → new ≡ old
reported_nothing searched reported witness count said lines old new is ended (inl p) other = absurd (other (p.0 ∙ ended ∙ ap found_status is))
reported_nothing searched reported witness count said lines old new is ended (inr p) other = p.1

-- ---- status 0

-- status 0 is reported where a witness was found, and of it alone
pub done_is_accepted : (searched : Searched) (t d : List ℕ) (seconds budget : ℕ) (asked : Bool) (said : Status) (lines made : List ℕ) → AreSearched searched t d seconds budget asked
    → PrintsSearch (Ok searched) said lines made ⊎ (IsSilent said lines × (made ≡ [])) → said ≡ status.Done → AreAccepted t d made
done_is_accepted searched t d seconds budget asked said lines made a (inr p) done = let clash : status.Failed ≡ status.Done = sym p.0.0 ∙ done in absurd cc
done_is_accepted searched t d seconds budget asked said lines made a (inl p) done = go searched.found refl
  where
    go : (f : Found) → searched.found ≡ f → AreAccepted t d made
    go (GaveUp count) e = let clash : status.GaveUp ≡ status.Done = sym (ap found_status e) ∙ sym p.0 ∙ done in absurd cc
    go (OutOfTime count after) e = let clash : status.GaveUp ≡ status.Done = sym (ap found_status e) ∙ sym p.0 ∙ done in absurd cc
    go (Refuted count object) e = let clash : status.GaveUp ≡ status.Done = sym (ap found_status e) ∙ sym p.0 ∙ done in absurd cc
    go (Impossible count number) e = let clash : status.GaveUp ≡ status.Done = sym (ap found_status e) ∙ sym p.0 ∙ done in absurd cc
    go (Yes witness count) e =
        let M : Found → Type 0 = λ f. Makes f made in
        let F : Found → Type 0 = λ f. FindsIn seconds a.marks a.declared budget f in
        record {
          marks = a.marks;
          transcript = a.transcript;
          declared = a.declared;
          declaration = a.declaration;
          turns = witness_of witness;
          witness = subst M e p.2;
          accepted = (subst F e a.found).0;
        }

-- where nothing is made, what is printed of a fault is what is printed of a search that ends with it
pub fault_ends_search : (fault : AuditFault) (said : Status) (lines made : List ℕ) → made ≡ [] → PrintsFault fault said lines ⊎ IsSilent said lines
    → PrintsSearch (Err fault) said lines made ⊎ (IsSilent said lines × (made ≡ []))
fault_ends_search fault said lines made none (inl prints) = inl (prints, none)
fault_ends_search fault said lines made none (inr silent) = inr (silent, none)
