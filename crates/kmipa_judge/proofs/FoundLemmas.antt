-- What a search says of two files, by what it comes to for their records; and what its status 0 means.
use Rattle.std.proofs.Common.{◌≡◌, ◌≢◌, ◌⊎◌, inl, inr, ℕ, ℤ, List, [], Bool, IsTrue, Option, Result, Ok, Err, refl, sym, ap, subst, ◌∙◌, arith}
use Rattle.kmipa_msgs.specs.declared.rules.Unjudged.TheVariants.{Refused}
use Rattle.kmipa_ttlv.specs.Input.{came_of, is_ended, is_failed, IsFileOf}
use Rattle.kmipa_ttlv.specs.declared.input.Input.{Input}
use Rattle.kmipa_ttlv.proofs.ReadLemmas.{itself}
use Rattle.kmipa_record.specs.Declarations.{DeclarationOf, IsDeclarationWithin, declaration_of}
use Rattle.kmipa_record.specs.Marks.{AreRecorded, MarkOf}
use Rattle.kmipa_record.specs.Transcripts.{IsTranscript, transcript_of}
use Rattle.kmipa_record.specs.Witnesses.{witness_of}
use Rattle.kmipa_record.specs.declared.declaration.Declaration.{Declaration}
use Rattle.kmipa_record.specs.declared.reach.Reach.TheVariants.{Aside}
use Rattle.kmipa_record.specs.declared.transcript.Transcript.{Transcript}
use Rattle.kmipa_check.specs.Audits.{AreAccepted}
use Rattle.kmipa_check.specs.Calls.{AreCalls, CallOf}
use Rattle.kmipa_check.specs.declared.auditing.AuditFault.{AuditFault}
use Rattle.kmipa_check.specs.declared.auditing.AuditFault.TheVariants as audit
use Rattle.kmipa_check.specs.declared.fault.CheckFault.{CheckFault}
use Rattle.kmipa_check.specs.declared.fault.Side.{Side}
use Rattle.kmipa_msgs.specs.declared.fault.Outside.{Outside}
use Rattle.kmipa_check.specs.declared.fault.CheckFault.TheVariants as check
use Rattle.kmipa_trail.specs.Told.{tally_of}
use Rattle.kmipa_findings.specs.Seeking.{Seeks}
use Rattle.kmipa_findings.specs.declared.seeking.Sought.{Sought}
use Rattle.kmipa_findings.specs.declared.seeking.Sought.TheVariants as sought
use Rattle.kmipa_runs.specs.Lines.{PrintsFault}
use Rattle.kmipa_beside.proofs.StatusLemmas.{never_done}
use Rattle.kmipa_searches.specs.Searches.{PrintsSearch, SearchStops, SearchesFiles, SearchesRecords}
use Rattle.kmipa_searches.specs.declared.searched.Searched.{Searched}
use Rattle.kmipa_searches.proofs.SearchLemmas.{done_is_accepted, searched_files, unsearched_files}
use Rattle.kmipa_jobs.specs.Statuses.{IsSilent}
use Rattle.kmipa_jobs.specs.declared.status.Status.{Status}
use Rattle.kmipa_jobs.specs.declared.status.Status.TheVariants as status
use Rattle.kmipa_judge.specs.Runs.{IsReadAs}
use Rattle.kmipa_judge.specs.Declaring.{IsPlain}
use Rattle.kmipa_judge.specs.Searches.{IsFound, IsForcedTold, IsFoundBeside, IsGivenAs, IsSoughtBeside, MakesOrder, SaysNothing, SearchesAny, SearchesAsEver, SearchesBeside, SearchesEver, SearchesRecordsAny, TellsBeside, TellsOrNot, IsNoMore, as_ever, beside, unread, ever_so, beside_so, found, outside, no_memory, of_check, sought_status, tells, not_told}
use Rattle.kmipa_judge.specs.declared.beside.Beside.{Beside}
use Rattle.kmipa_judge.proofs.PlainLemmas.{within_plain}

-- ---- as ever

module _ {R : Type 0} (seconds budget : ℕ) (asked : Bool) (t d : Input R) (transcript : Transcript) (declaration : Declaration)
    (read : IsTranscript (came_of t) (transcript_of transcript) × IsTrue (is_ended t)) (given : IsDeclarationWithin Aside (came_of d) (declaration_of declaration) × IsTrue (is_ended d))
    (plain : IsPlain (declaration_of declaration)) where
  -- what is said of the records is said of the files
  files_of : (outcome : Result Searched CheckFault) → SearchesRecords (transcript_of transcript) (declaration_of declaration) seconds budget asked outcome
      → (a b : List ℕ) → IsFileOf a t → IsFileOf b d → SearchesFiles a b (is_failed t) (is_failed d) seconds budget asked (of_check outcome)
  files_of (Ok searched) s a b af bf =
      searched_files t d a b transcript declaration searched seconds budget asked af bf read (within_plain (came_of d) (declaration_of declaration) plain given.0, given.1) (λ recorded. s)
  files_of (Err fault) s a b af bf =
      unsearched_files t d a b transcript declaration fault seconds budget asked af bf read (within_plain (came_of d) (declaration_of declaration) plain given.0, given.1) (λ recorded. s)

  -- and status 0 is that of an accepted witness
  accepts_of : (outcome : Result Searched CheckFault) (said : Status) (lines made : List ℕ) → SearchesRecords (transcript_of transcript) (declaration_of declaration) seconds budget asked outcome
      → PrintsSearch (of_check outcome) said lines made ⊎ SaysNothing said lines made → said ≡ status.Done → AreAccepted (came_of t) (came_of d) made
  accepts_of (Ok searched) said lines made s printed done =
      done_is_accepted searched (came_of t) (came_of d) seconds budget asked said lines made (files_of (Ok searched) s (came_of t) (came_of d) (itself t) (itself d)) printed done
  accepts_of (Err fault) said lines made s (inl p) done = absurd (never_done (audit.Check fault) said lines (inl p.0) done)
  accepts_of (Err fault) said lines made s (inr n) done = absurd (never_done (audit.Check fault) said lines (inr n.0) done)

  ever_files : (said : Status) (lines made : List ℕ) → SearchesEver seconds budget asked (transcript_of transcript) (declaration_of declaration) said lines made
      → SearchesAsEver seconds budget asked t d said lines made
  ever_files said lines made s = record {
    prints = (of_check s.0, files_of s.0 s.1, s.2);
    accepts = λ done. (accepts_of s.0 said lines made s.1 s.2 done, read.1, given.1);
  }

-- what a search of the records comes to is said of the files
pub any_files : {R : Type 0} (seconds budget : ℕ) (asked : Bool) (t d : Input R) (transcript : Transcript) (declaration : Declaration) (said : Status) (lines made : List ℕ)
    → IsTranscript (came_of t) (transcript_of transcript) × IsTrue (is_ended t) → IsDeclarationWithin Aside (came_of d) (declaration_of declaration) × IsTrue (is_ended d)
    → SearchesRecordsAny seconds budget asked (transcript_of transcript) (declaration_of declaration) said lines made → SearchesAny seconds budget asked t d said lines made
any_files seconds budget asked t d transcript declaration said lines made read given (ever_so plain s) =
    as_ever (declaration_of declaration) (record { declaration = given.0; ended = given.1 }) plain (ever_files seconds budget asked t d transcript declaration read given plain said lines made s)
any_files seconds budget asked t d transcript declaration said lines made read given (beside_so s) =
    beside (transcript_of transcript) (record { transcript = read.0; ended = read.1 }) (declaration_of declaration) (record { declaration = given.0; ended = given.1 }) s

-- ---- status 0

found_beside : {R : Type 0} (seconds budget : ℕ) (asked : Bool) (t d : Input R) (marks : List MarkOf) (declared : DeclarationOf) (said : Status) (lines made : List ℕ)
    → IsReadAs t marks → IsGivenAs d declared → SearchesBeside seconds budget asked marks declared said lines made → said ≡ status.Done → IsFoundBeside t d made
found_beside seconds budget asked t d marks declared said lines made read given (outside refused number side o first printed none) done =
    absurd (never_done (audit.Check (check.Outside number side o)) said lines (inl printed) done)
found_beside seconds budget asked t d marks declared said lines made read given (no_memory silent) done =
    let clash : status.Failed ≡ status.Done = sym silent.0.0 ∙ done in absurd cc
found_beside {R} seconds budget asked t d marks declared said lines made read given (found b s inside told) done = go b.sought refl
  where
    go : (o : Sought) → b.sought ≡ o → IsFoundBeside t d made
    go (sought.GaveUp steps) e = let clash : status.GaveUp ≡ status.Done = sym (ap sought_status e) ∙ sym told.ends ∙ done in absurd cc
    go (sought.OutOfTime steps after) e = let clash : status.GaveUp ≡ status.Done = sym (ap sought_status e) ∙ sym told.ends ∙ done in absurd cc
    go (sought.Found order) e =
        let M : Sought → Type 0 = λ o. MakesOrder o made in
        let S : Sought → Type 0 = λ o. Seeks seconds budget marks declared o in
        record {
          marks = marks;
          read = read;
          declared = declared;
          given = given;
          turns = witness_of order.witness;
          written = subst M e told.makes;
          tally = tally_of order.tally;
          explains = (subst S e s.sought).0;
          inside = inside;
        }

pub found_when_done : {R : Type 0} (seconds budget : ℕ) (asked : Bool) (t d : Input R) (said : Status) (lines made : List ℕ) → SearchesAny seconds budget asked t d said lines made
    → said ≡ status.Done → IsFound t d made
found_when_done seconds budget asked t d said lines made (as_ever declared given plain s) done = inl (s.accepts done)
found_when_done seconds budget asked t d said lines made (beside marks read declared given s) done =
    inr (found_beside seconds budget asked t d marks declared said lines made read given s done)
found_when_done seconds budget asked t d said lines made (unread n none) done = absurd (n.unaccepted done)

-- ---- what was found beside is told

sought_less : (seconds budget : ℕ) (marks : List MarkOf) (declared : DeclarationOf) (a b : Sought) → Seeks seconds budget marks declared a → IsNoMore budget a b → Seeks seconds budget marks declared b
sought_less seconds budget marks declared (sought.Found order) b s (inl e) = let S : Sought → Type 0 = λ o. Seeks seconds budget marks declared o in subst S (sym e) s
sought_less seconds budget marks declared (sought.Found order) b s (inr e) =
    let S : Sought → Type 0 = λ o. Seeks seconds budget marks declared o in
    subst S (sym e) (omega arith, λ below. absurd (omega (arith, below)))
sought_less seconds budget marks declared (sought.GaveUp steps) b s e = let S : Sought → Type 0 = λ o. Seeks seconds budget marks declared o in subst S (sym e) s
sought_less seconds budget marks declared (sought.OutOfTime steps after) b s e = let S : Sought → Type 0 = λ o. Seeks seconds budget marks declared o in subst S (sym e) s

pub told_beside : (seconds budget : ℕ) (asked : Bool) (marks : List MarkOf) (declared : DeclarationOf) (b : Beside) (said : Status) (lines made : List ℕ)
    → IsSoughtBeside seconds budget asked marks declared b → (declared.settings.unjudged ≡ Refused → (calls : List CallOf) × AreCalls marks calls)
    → TellsOrNot budget declared.settings.unjudged b said lines made → SearchesBeside seconds budget asked marks declared said lines made
told_beside seconds budget asked marks declared b said lines made s inside (not_told n) = no_memory n
told_beside seconds budget asked marks declared b said lines made s inside (tells c same less told) =
    let F : Option Bool → Type 0 = λ x. IsForcedTold marks declared asked x in
    found c (record { forced = subst F (sym same) s.forced; sought = sought_less seconds budget marks declared b.sought c.sought s.sought less }) inside told

pub told_outside : (seconds budget : ℕ) (asked : Bool) (marks : List MarkOf) (declared : DeclarationOf) (fault : CheckFault) (number : ℤ) (side : Side) (o : Outside) (said : Status)
    (lines made : List ℕ) → declared.settings.unjudged ≡ Refused → fault ≡ check.Outside number side o → SearchStops marks fault
    → PrintsFault (audit.Check fault) said lines ⊎ IsSilent said lines → made ≡ [] → SearchesBeside seconds budget asked marks declared said lines made
told_outside seconds budget asked marks declared fault number side o said lines made refused is stops (inr silent) none = no_memory (silent, none)
told_outside seconds budget asked marks declared fault number side o said lines made refused is stops (inl printed) none =
    let S : CheckFault → Type 0 = λ f. SearchStops marks f in
    let P : CheckFault → Type 0 = λ f. PrintsFault (audit.Check f) said lines in
    outside refused number side o (subst S is stops) (subst P is printed) none
