-- What the statuses of a judging mean.
use Rattle.std.proofs.Common.{◌≡◌, ◌≢◌, ◌⊎◌, inl, inr, ◌==◌, ℕ, Bool, true, false, if◌then◌else◌, IsTrue, List, Option, Some, None, length, refl, sym, ap, ◌∙◌}
use Rattle.std.proofs.lemmas.Bool.{eqb-true}
use Rattle.kmipa_ttlv.specs.declared.input.Input.{Input}
use Rattle.kmipa_record.specs.Declarations.{DeclarationOf}
use Rattle.kmipa_record.specs.Marks.{MarkOf}
use Rattle.kmipa_record.specs.Witnesses.{witness_of}
use Rattle.kmipa_trail.specs.Tallies.{TallyOf}
use Rattle.kmipa_trail.specs.Told.{tally_of}
use Rattle.kmipa_findings.specs.declared.finding.Outcome.{Outcome}
use Rattle.kmipa_findings.specs.declared.finding.Outcome.TheVariants as outcome
use Rattle.kmipa_jobs.specs.declared.status.Status.{Status}
use Rattle.kmipa_jobs.specs.declared.status.Status.TheVariants as status
use Rattle.kmipa_check.specs.declared.auditing.AuditFault.{AuditFault}
use Rattle.kmipa_runs.specs.Lines.{PrintsFault, fault_text}
use Rattle.serde_json.specs.Data.{Members}
use Rattle.kmipa_beside.proofs.StatusLemmas.{never_done, never_no}
use Rattle.kmipa_judge.specs.Declaring.{is_presumed}
use Rattle.kmipa_judge.specs.Opinions.{IsFair, opinion_by, opinion_found, opinion_of, opinion_status, opinion_unfound}
use Rattle.kmipa_judge.specs.Forms.{ahead}
use Rattle.kmipa_judge.specs.Runs.{IsReadAs, IsUsed, JudgesFiles, judged, unread, unsaid, tells, no_memory, Makes, Prints, PrintsFaultSo, is_assumed}
use Rattle.kmipa_judge.specs.Statuses.{IsConvicted, IsExplained}
use Rattle.kmipa_judge.specs.Unexplained.{ComesTo}
use Rattle.kmipa_judge.specs.declared.form.JudgeForm.{JudgeForm}
use Rattle.kmipa_judge.specs.declared.rule.Rule.{Rule}
use Rattle.kmipa_judge.proofs.RunLemmas.{fault_said}
use Rattle.kmipa_judge.specs.declared.opinion.Opinion.TheVariants.{Explained, NothingJudged, Convicted, Suspected, Undecided}

-- ---- which opinions they are of

unfound_done : (k : TallyOf) → opinion_status (opinion_unfound k) ≡ status.Done → (k.excepted ≡ 0) × (k.counts.judged ≢ 0)
unfound_done k done = by (k.counts.judged == 0) (k.excepted == 0) refl refl done
  where
    by : (a b : Bool) → k.counts.judged == 0 ≡ a → k.excepted == 0 ≡ b → opinion_status (if a then NothingJudged else (if b then Explained else Suspected)) ≡ status.Done
        → (k.excepted ≡ 0) × (k.counts.judged ≢ 0)
    by true b ea eb e = let clash : status.GaveUp ≡ status.Done = e in absurd cc
    by false true ea eb e = (eqb-true k.excepted 0 eb, λ zero. let clash : false ≡ true = sym ea ∙ ap (λ (n : ℕ). n == 0) zero in cc)
    by false false ea eb e = let clash : status.GaveUp ≡ status.Done = e in absurd cc

unfound_no : (k : TallyOf) → opinion_status (opinion_unfound k) ≡ status.No → ⊥
unfound_no k denied = by (k.counts.judged == 0) (k.excepted == 0) denied
  where
    by : (a b : Bool) → opinion_status (if a then NothingJudged else (if b then Explained else Suspected)) ≡ status.No → ⊥
    by true b e = let clash : status.GaveUp ≡ status.No = e in cc
    by false true e = let clash : status.Done ≡ status.No = e in cc
    by false false e = let clash : status.GaveUp ≡ status.No = e in cc

found_done : (decided : Bool) → opinion_status (opinion_found decided) ≡ status.Done → ⊥
found_done true e = let clash : status.No ≡ status.Done = e in cc
found_done false e = let clash : status.GaveUp ≡ status.Done = e in cc

found_no : (decided : Bool) → opinion_status (opinion_found decided) ≡ status.No → decided ≡ true
found_no true e = refl
found_no false e = let clash : status.GaveUp ≡ status.No = e in absurd cc

by_done : (n : ℕ) (k : TallyOf) (decided : Bool) → opinion_status (opinion_by n k decided) ≡ status.Done → (k.excepted ≡ 0) × (k.counts.judged ≢ 0)
by_done n k decided done = by (n == 0) done
  where
    by : (a : Bool) → opinion_status (if a then opinion_unfound k else opinion_found decided) ≡ status.Done → (k.excepted ≡ 0) × (k.counts.judged ≢ 0)
    by true e = unfound_done k e
    by false e = absurd (found_done decided e)

by_no : (n : ℕ) (k : TallyOf) (decided : Bool) → opinion_status (opinion_by n k decided) ≡ status.No → decided ≡ true
by_no n k decided denied = by (n == 0) denied
  where
    by : (a : Bool) → opinion_status (if a then opinion_unfound k else opinion_found decided) ≡ status.No → decided ≡ true
    by true e = absurd (unfound_no k e)
    by false e = found_no decided e

-- ---- of an outcome

outcome_done : {R : Type 0} (seconds : ℕ) (t : Input R) (d : Option (Input R)) (marks : List MarkOf) (declared : DeclarationOf) (o : Outcome) (said : Status) (witness used : List ℕ)
    → IsReadAs t marks → IsUsed d declared → ComesTo seconds marks declared o → said ≡ opinion_status (opinion_of o) → Makes declared o witness used → said ≡ status.Done
    → IsExplained t d witness
outcome_done seconds t d marks declared (outcome.Undecided u) said witness used read is judges ends makes done = let clash : status.GaveUp ≡ status.Done = sym ends ∙ done in absurd cc
outcome_done seconds t d marks declared (outcome.Judged j) said witness used read is judges ends makes done =
    let told = by_done (length j.findings.items) (tally_of j.tally) j.is_decided (sym ends ∙ done) in
    record {
      marks = marks;
      read = read;
      declared = declared;
      used = is;
      turns = witness_of j.witness;
      written = makes.0.is;
      tally = tally_of j.tally;
      accepted = judges.0.accepted;
      unexcepted = told.0;
      some = told.1;
    }

outcome_no : {R : Type 0} (seconds : ℕ) (t : Input R) (d : Option (Input R)) (marks : List MarkOf) (declared : DeclarationOf) (o : Outcome) (said : Status)
    → IsReadAs t marks → IsUsed d declared → ComesTo seconds marks declared o → IsFair (is_presumed (is_assumed d) declared.settings.visibility) marks o → said ≡ opinion_status (opinion_of o)
    → said ≡ status.No → IsConvicted t d
outcome_no seconds t d marks declared (outcome.Undecided u) said read is judges fair ends denied = let clash : status.GaveUp ≡ status.No = sym ends ∙ denied in absurd cc
outcome_no seconds t d marks declared (outcome.Judged j) said read is judges fair ends denied =
    let told = by_no (length j.findings.items) (tally_of j.tally) j.is_decided (sym ends ∙ denied) in
    record {
      marks = marks;
      read = read;
      declared = declared;
      used = is;
      unexplained = judges.1 told;
      of_one = fair told;
    }

-- ---- of files

-- in which form so ever the status is that of the opinion
prints_end : (before : Option Members) (assumed : Bool) (marks : List MarkOf) (declared : DeclarationOf) (o : Outcome) (rules : List Rule) (said : Status) (lines : List ℕ)
    → Prints before assumed marks declared o rules said lines → said ≡ opinion_status (opinion_of o)
prints_end None assumed marks declared o rules said lines p = p.prints.ends
prints_end (Some before) assumed marks declared o rules said lines p = p.found.ends

fault_never : (before : Option Members) (fault : AuditFault) (said : Status) (lines : List ℕ) → PrintsFaultSo before fault said lines
    → (said ≡ status.Done → ⊥) × (said ≡ status.No → ⊥)
fault_never before fault said lines p =
    let line : PrintsFault fault said (fault_text fault) = (fault_said before fault said lines p, refl) in
    (never_done fault said (fault_text fault) (inl line), never_no fault said (fault_text fault) (inl line))

pub done_is_explained : {R : Type 0} (seconds : ℕ) (form : JudgeForm) (t : Input R) (d : Option (Input R)) (said : Status) (lines witness used : List ℕ)
    → JudgesFiles seconds form t d said lines witness used → said ≡ status.Done → IsExplained t d witness
done_is_explained seconds form t d said lines witness used (unsaid silent nothing) done = let clash : status.Failed ≡ status.Done = sym silent.0 ∙ done in absurd cc
done_is_explained seconds form t d said lines witness used (unread fault fails prints nothing) done = absurd ((fault_never (ahead form None t d) fault said lines prints).0 done)
done_is_explained seconds form t d said lines witness used (judged marks read known knows declared is (no_memory silent nothing)) done =
    let clash : status.Failed ≡ status.Done = sym silent.0 ∙ done in absurd cc
done_is_explained seconds form t d said lines witness used (judged marks read known knows declared is (tells o)) done =
    outcome_done seconds t d marks declared o.outcome said witness used read is o.judges
    (prints_end (ahead form known t d) (is_assumed d) marks declared o.outcome o.rules said lines o.prints) o.makes done

pub no_is_convicted : {R : Type 0} (seconds : ℕ) (form : JudgeForm) (t : Input R) (d : Option (Input R)) (said : Status) (lines witness used : List ℕ)
    → JudgesFiles seconds form t d said lines witness used → said ≡ status.No → IsConvicted t d
no_is_convicted seconds form t d said lines witness used (unsaid silent nothing) denied = let clash : status.Failed ≡ status.No = sym silent.0 ∙ denied in absurd cc
no_is_convicted seconds form t d said lines witness used (unread fault fails prints nothing) denied = absurd ((fault_never (ahead form None t d) fault said lines prints).1 denied)
no_is_convicted seconds form t d said lines witness used (judged marks read known knows declared is (no_memory silent nothing)) denied =
    let clash : status.Failed ≡ status.No = sym silent.0 ∙ denied in absurd cc
no_is_convicted seconds form t d said lines witness used (judged marks read known knows declared is (tells o)) denied =
    outcome_no seconds t d marks declared o.outcome said read is o.judges o.fair
    (prints_end (ahead form known t d) (is_assumed d) marks declared o.outcome o.rules said lines o.prints) denied
