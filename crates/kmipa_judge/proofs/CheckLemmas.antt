-- What is told of a check in lines with what its no means, or in one object.
use Rattle.std.proofs.Common.{◌≡◌, ◌≢◌, ◌⊎◌, inl, inr, ℕ, ℤ, ◌+◌, suc, Bool, true, false, List, ◌∷◌, ◌++◌, codes, drop, take, slice_get, Option, Some, None, Result, Ok, Err, refl, sym, ap, subst, ◌∙◌, arith}
use Rattle.std.specs.Prelude.{IfOk, IfSome, IsTrue, string_bytes}
use Rattle.std.specs.declared.alloc.AllocError.{AllocError}
use Rattle.std.proofs.lemmas.Result.{IfOk-weaker}
use Rattle.serde_json.specs.Data.{Members, object, put}
use Rattle.kmipa_json.specs.Told.{line_of}
use Rattle.kmipa_ttlv.specs.Input.{came_of, is_ended, is_failed, IsFileOf}
use Rattle.kmipa_ttlv.specs.declared.input.Input.{Input}
use Rattle.kmipa_ttlv.proofs.ReadLemmas.{itself, whole_file}
use Rattle.kmipa_msgs.specs.declared.rules.Unjudged.TheVariants.{Refused}
use Rattle.kmipa_msgs.specs.declared.rules.Visibility.TheVariants.{Everyone}
use Rattle.kmipa_record.specs.Declarations.{DeclarationOf, IsDeclaration, IsDeclarationWithin, declaration_of}
use Rattle.kmipa_record.specs.Marks.{AreRecorded, MarkOf}
use Rattle.kmipa_record.specs.Transcripts.{IsTranscript, transcript_of}
use Rattle.kmipa_record.specs.Witnesses.{IsWitness, TurnOf, witness_of}
use Rattle.kmipa_record.specs.declared.declaration.Declaration.{Declaration}
use Rattle.kmipa_record.specs.declared.head.Head.{Head}
use Rattle.kmipa_record.specs.declared.reach.Reach.TheVariants.{Aside}
use Rattle.kmipa_record.specs.declared.transcript.Transcript.{Transcript}
use Rattle.kmipa_check.specs.Audits.{AreATranscript, AreRecords}
use Rattle.kmipa_check.specs.Grants.{grants_declared}
use Rattle.kmipa_check.specs.Verdicts as ever
use Rattle.kmipa_check.specs.declared.auditing.Audited.{Audited}
use Rattle.kmipa_check.specs.declared.auditing.AuditFault.{AuditFault}
use Rattle.kmipa_check.specs.declared.auditing.AuditFault.TheVariants as audit
use Rattle.kmipa_check.specs.declared.auditing.AuditRecords.{AuditRecords}
use Rattle.kmipa_check.specs.declared.fault.CheckFault.{CheckFault}
use Rattle.kmipa_check.specs.declared.fault.CheckFault.TheVariants as check
use Rattle.kmipa_check.specs.declared.fault.WitnessFault.{WitnessFault}
use Rattle.kmipa_check.specs.declared.verdict.Refused.{Refused as Impossible}
use Rattle.kmipa_check.proofs.AuditLemmas.{judged, unjudged}
use Rattle.kmipa_check.proofs.RecordedLemmas.{cut}
use Rattle.kmipa_explain.specs.declared.explanation.Explanation.{Explanation}
use Rattle.kmipa_findings.specs.Findings.{FindingOf}
use Rattle.kmipa_trail.specs.Ending as sight
use Rattle.kmipa_trail.specs.Verdicts.{Checks, TellsVerdict}
use Rattle.kmipa_trail.specs.declared.fault.Fault.{Fault}
use Rattle.kmipa_trail.specs.declared.fault.Fault.TheVariants as fault
use Rattle.kmipa_trail.specs.Tallies.{TallyOf}
use Rattle.kmipa_trail.specs.Told.{tally_of}
use Rattle.kmipa_trail.specs.declared.tally.Tally.{Tally}
use Rattle.kmipa_trail.specs.declared.verdict.Verdict.{Verdict}
use Rattle.kmipa_trail.specs.declared.verdict.Verdict.TheVariants as verdict
use Rattle.kmipa_runs.specs.Knowing.{Known, KnowsSeals}
use Rattle.kmipa_runs.specs.Lines.{FitsStatus}
use Rattle.kmipa_runs.specs.declared.lines.Lines.{Lines}
use Rattle.kmipa_runs.proofs.KnowingLemmas.{knows}
use Rattle.kmipa_runs.proofs.LineLemmas.{yes_fits}
use Rattle.kmipa_jobs.specs.Statuses.{IsSilent}
use Rattle.kmipa_jobs.specs.declared.status.Status.{Status}
use Rattle.kmipa_jobs.specs.declared.status.Status.TheVariants as status
use Rattle.kmipa_telling.specs.ExplainedJson.{ExplainsInputs, PrintsExplainedJson, explained_head}
use Rattle.kmipa_telling.specs.Explaining.{AuditsExplained, PrintsExplained}
use Rattle.kmipa_telling.specs.FaultsTold.{IsCheckMeaning, IsCheckToldOf, bare_fault, by_fault}
use Rattle.kmipa_telling.specs.Judging.{AuditsInputs, ReadsInputs}
use Rattle.kmipa_telling.specs.Seals.{KnowsJudged}
use Rattle.kmipa_telling.specs.Telling.{PrintsJson, TellsDate, audit_head, check_files, opened, refused_members}
use Rattle.kmipa_telling.specs.declared.explained.Explained.{Explained}
use Rattle.kmipa_telling.specs.declared.meaning.FaultMeaning.{FaultMeaning}
use Rattle.kmipa_telling.specs.declared.meaning.FaultTold.{FaultTold}
use Rattle.kmipa_telling.proofs.ExplainedJsonLemmas.{done_is_explained, where_ended}
use Rattle.kmipa_telling.proofs.ExplainingLemmas.{done_accepted, explained_fits, told_fits}
use Rattle.kmipa_telling.proofs.JsonLemmas.{done_is_judged, fault_not_done, silent_not_done}
use Rattle.kmipa_telling.proofs.SealLemmas.{audit_knows, check_knows, fault_knows, silent_knows, told_knows}
use Rattle.kmipa_beside.specs.Audits.{Fails, FailsInSight, HidesAlone, SetsAside, SetsNothingAside, fault_of}
use Rattle.kmipa_beside.specs.Checks.{AreEnded}
use Rattle.kmipa_beside.proofs.AuditLemmas.{AreThese, these, unjudged_beside, unjudged_in_sight}
use Rattle.kmipa_beside.proofs.ReachLemmas.{within_less}
use Rattle.kmipa_beside.proofs.StatusLemmas.{done_alone}
use Rattle.kmipa_beside.specs.Lines.{yes_status}
use Rattle.kmipa_judge.specs.Reading.{IsGiven, IsRecording}
use Rattle.kmipa_judge.specs.Checks.{AreADeclarationWithin, AreReadAs, ChecksBeside, ChecksInSight, ChecksRecords, ExplainsAsEver, ExplainsJsonAsEver, FailsReading, HoldsOfRead, IsAcceptedAny, IsFaultBeside, IsFaultInSight, IsFaultMeaning, IsInObject, IsSightedMeaning, JsonAsEver, MeansInSight, PrintsFaultAs, TellsAsEver, TellsNo, TellsNoMeaning, TellsYes, TellsBesideAs, TellsCheck, TellsInSightAs, held_as, is_explained, yes_members}
use Rattle.kmipa_judge.specs.Checks as say
use Rattle.kmipa_judge.specs.Object.{TellsAlong, tally_members}
use Rattle.kmipa_judge.specs.Parts.{ExplainsFinding, ExplainsNo, ExplainsTurns, with_tried}
use Rattle.kmipa_judge.specs.declared.checking.reading.ThreeRecords.{ThreeRecords}
use Rattle.kmipa_judge.specs.declared.checking.said.Said.{Said}
use Rattle.kmipa_judge.specs.declared.form.CheckForm.{CheckForm}
use Rattle.kmipa_judge.specs.declared.form.CheckForm.TheVariants as form
use Rattle.kmipa_judge.specs.declared.form.JudgeForm.{JudgeForm}
use Rattle.kmipa_judge.specs.declared.form.JudgeForm.TheVariants as plain

-- ---- what a no means

-- a turn that is put in its own place
with_itself : (turns : List TurnOf) (f : FindingOf) → slice_get turns f.place ≡ Some f.tried → with_tried turns f ≡ turns
with_itself turns f at =
    let next : f.place + 1 ≡ suc f.place = omega arith in
    ap (λ (n : ℕ). take f.place turns ++ f.tried ∷ drop n turns) next ∙ sym (cut turns f.place f.tried at)

no_explained : (marks : List MarkOf) (declared : DeclarationOf) (turns : List TurnOf) (f : FindingOf) (e : Explanation) → slice_get turns f.place ≡ Some f.tried
    → ExplainsFinding marks declared turns f e → ExplainsNo marks declared turns f.refused e
no_explained marks declared turns f e at explains =
    let P : List TurnOf → Type 0 = λ ts. ExplainsTurns marks declared turns ts f.refused e in
    subst P (with_itself turns f at) explains

pub no_meant : (marks : List MarkOf) (declared : DeclarationOf) (turns : List TurnOf) (f : FindingOf) (r : Result (Option Explanation) AllocError) → slice_get turns f.place ≡ Some f.tried
    → IfOk r (λ m. IfSome m (ExplainsFinding marks declared turns f)) → IfOk r (λ m. IfSome m (ExplainsNo marks declared turns f.refused))
no_meant marks declared turns f (Ok (Some e)) at h = no_explained marks declared turns f e at h
no_meant marks declared turns f (Ok None) at h = tt
no_meant marks declared turns f (Err x) at h = tt

-- ---- what is read

pub a_transcript : {R : Type 0} (i : Input R) (file : List ℕ) (t : Transcript) → IsFileOf file i → IsRecording (came_of i) t × IsTrue (is_ended i) → AreATranscript file
a_transcript i file t is read = (transcript_of t, whole_file file i (λ bytes. IsTranscript bytes (transcript_of t)) read.1 is read.0.0)

pub a_declaration : {R : Type 0} (i : Input R) (file : List ℕ) (d : Declaration) → IsFileOf file i → IsGiven (came_of i) d × IsTrue (is_ended i) → AreADeclarationWithin file
a_declaration i file d is read = (declaration_of d, whole_file file i (λ bytes. IsDeclarationWithin Aside bytes (declaration_of d)) read.1 is read.0.0)

-- ---- what is said

-- what is appended
pub check_told : {R : Type 0} (f : CheckForm) (t d w : Input R) (l : Lines) (said : Status) (lines : List ℕ) → TellsCheck f t d w l.status (string_bytes l.text)
    → ((said ≡ l.status) × (lines ≡ string_bytes l.text)) ⊎ IsSilent said lines → TellsCheck f t d w said lines
check_told f t d w l said lines tells (inl p) =
    let P : Status → Type 0 = λ s. TellsCheck f t d w s (string_bytes l.text) in
    let Q : List ℕ → Type 0 = λ text. TellsCheck f t d w said text in
    subst Q (sym p.1) (subst P (sym p.0) tells)
check_told f t d w l said lines tells (inr silent) = say.unsaid silent

pub check_known : (bytes : List ℕ) (l : Lines) (said : Status) (lines : List ℕ) (head : Option Head) → KnowsSeals bytes l.status head
    → ((said ≡ l.status) × (lines ≡ string_bytes l.text)) ⊎ IsSilent said lines → KnowsSeals bytes said head
check_known bytes l said lines head knows (inl p) =
    let P : Status → Type 0 = λ s. KnowsSeals bytes s head in
    subst P (sym p.0) knows
check_known bytes l said lines head knows (inr silent) = silent_knows bytes said lines head silent

-- one text behind another
pub joined : (r : Result Lines AllocError) (P : Status → List ℕ → Type 0) (B : List ℕ → Type 0) (front : Lines) (more : List ℕ) → P front.status (string_bytes front.text) → B more
    → IfOk r (λ l. (l.status ≡ front.status) × (string_bytes l.text ≡ string_bytes front.text ++ more))
    → IfOk r (λ l. (x y : List ℕ) × P l.status x × B y × (string_bytes l.text ≡ x ++ y))
joined r P B front more prints behind are =
    IfOk-weaker r _ _ (λ l p.
    let Q : Status → Type 0 = λ s. P s (string_bytes front.text) in
    (string_bytes front.text, more, subst Q (sym p.0) prints, behind, p.1)) are

-- what is put into an object that has the files
pub in_object : {R : Type 0} (torn : Option ℕ) (known : Option Head) (t d w : Input R) (Tells : Members → Members → Type 0) (before after : Members) (lines : List ℕ)
    → before ≡ opened (check_files torn known t d w) → Tells before after → lines ≡ line_of (object after) → IsInObject torn known t d w Tells lines
in_object torn known t d w Tells before after lines is tells are =
    let P : Members → Type 0 = λ m. Tells m after in
    (after, subst P is tells, are)

-- ---- faults

pub fault_as_knows : {R : Type 0} (f : JudgeForm) (t d w : Input R) (told : FaultTold) (bytes : List ℕ) (said : Status) (lines : List ℕ) (head : Option Head)
    → PrintsFaultAs f t d w told said lines → KnowsSeals bytes said head
fault_as_knows plain.Lines t d w told bytes said lines head prints = told_knows bytes told said lines head (inl prints)
fault_as_knows (plain.Object torn) t d w told bytes said lines head (members, (without, tells, more), is) = fault_knows bytes told.fault said head tells.0

pub none_known : {R : Type 0} (r : Result Said AllocError) (f : JudgeForm) (t d w : Input R) (told : FaultTold) (bytes : List ℕ)
    → IfOk r (λ s. PrintsFaultAs f t d w told s.lines.status (string_bytes s.lines.text)) → IfOk r (λ s. KnowsSeals bytes s.lines.status s.head)
none_known r f t d w told bytes prints = IfOk-weaker r _ _ (λ s p. fault_as_knows f t d w told bytes s.lines.status (string_bytes s.lines.text) s.head p) prints

-- a file that is no record
pub unread_told : {R : Type 0} (r : Result Said AllocError) (f : CheckForm) (p : JudgeForm) (t d w : Input R) (fault : AuditFault) (bare : FaultTold) → p ≡ held_as f → bare ≡ bare_fault fault
    → ((a b c : List ℕ) → IsFileOf a t → IsFileOf b d → IsFileOf c w → FailsReading a b c (is_failed t) (is_failed d) (is_failed w) fault)
    → IfOk r (λ s. PrintsFaultAs p t d w bare s.lines.status (string_bytes s.lines.text)) → IfOk r (λ s. TellsCheck f t d w s.lines.status (string_bytes s.lines.text))
unread_told r f p t d w fault bare so is fails prints =
    IfOk-weaker r _ _ (λ s q.
    let P : FaultTold → Type 0 = λ b. PrintsFaultAs p t d w b s.lines.status (string_bytes s.lines.text) in
    let Q : JudgeForm → Type 0 = λ x. PrintsFaultAs x t d w (bare_fault fault) s.lines.status (string_bytes s.lines.text) in
    say.unread fault fails (subst Q so (subst P is q))) prints

pub bare_beside : (explained : Bool) (marks : List MarkOf) (declared : DeclarationOf) (turns : List TurnOf) (fault : Fault) → IsFaultBeside explained marks declared turns fault (bare_fault (audit.Check (fault_of fault)))
bare_beside explained marks declared turns fault = record { is = inl refl; meaning = tt }

meant_so : (marks : List MarkOf) (declared : DeclarationOf) (turns : List TurnOf) (f : WitnessFault) (fault : AuditFault) (meaning : Option FaultMeaning)
    → fault ≡ audit.Check (check.Witness f) → IsCheckMeaning (grants_declared declared) marks turns (check.Witness f) meaning
    → IfSome meaning (λ m. (true ≡ true) × ((g : CheckFault) × (fault ≡ audit.Check g) × IsCheckMeaning (grants_declared declared) marks turns g (Some m)))
meant_so marks declared turns f fault None e means = absurd means
meant_so marks declared turns f fault (Some m) e means = (refl, (check.Witness f, e, means))

pub unfit_so : (marks : List MarkOf) (declared : DeclarationOf) (turns : List TurnOf) (same f : WitnessFault) (told : FaultTold) → same ≡ f
    → IsCheckToldOf (grants_declared declared) marks turns (check.Witness same) told → IsFaultBeside true marks declared turns (fault.Witness f) told
unfit_so marks declared turns same f told e (inl p) = record {
  is = inl (p.0 ∙ ap (λ (w : WitnessFault). audit.Check (check.Witness w)) e);
  meaning = meant_so marks declared turns same told.fault told.meaning p.0 p.1;
}
unfit_so marks declared turns same f told e (inr bare) =
    let P : FaultTold → Type 0 = λ t. IsFaultBeside true marks declared turns (fault.Witness f) t in
    subst P (sym bare) (record { is = inr refl; meaning = tt })

pub sighted_so : (marks : List MarkOf) (declared : DeclarationOf) (turns : List TurnOf) (f : CheckFault) (told : FaultTold)
    → IsCheckToldOf (grants_declared declared) marks turns f told → IsFaultInSight true marks declared turns f told
sighted_so marks declared turns f told (inl p) = record { now = f; fault_is = p.0; same = inl refl; means = p.1 }
sighted_so marks declared turns f told (inr bare) =
    let P : FaultTold → Type 0 = λ t. IsFaultInSight true marks declared turns f t in
    subst P (sym bare) (record { now = check.Memory; fault_is = refl; same = inr refl; means = tt })

pub bare_sighted : (marks : List MarkOf) (declared : DeclarationOf) (turns : List TurnOf) (f : CheckFault) (told : FaultTold) → told ≡ bare_fault (audit.Check f)
    → IsFaultInSight false marks declared turns f told
bare_sighted marks declared turns f told is =
    let P : FaultTold → Type 0 = λ t. IsFaultInSight false marks declared turns f t in
    subst P (sym is) (record { now = f; fault_is = refl; same = inl refl; means = refl })

-- ---- members

pub no_told : (explained : Bool) (marks : List MarkOf) (declared : DeclarationOf) (turns : List TurnOf) (r : Impossible) (stamp : Option ℤ) (before one two after : Members)
    → one ≡ refused_members r before → TellsDate stamp one two → TellsNoMeaning explained marks declared turns r two after → TellsNo explained marks declared turns r stamp status.No before after
no_told explained marks declared turns r stamp before one two after is dated means =
    let P : Members → Type 0 = λ m. TellsDate stamp m two in
    (refl, (two, subst P is dated, means))

pub yes_told : (marks : List MarkOf) (declared : DeclarationOf) (turns : List TurnOf) (k : TallyOf) (said : Status) (before one two after : Members)
    → said ≡ yes_status k → one ≡ yes_members k.excepted before → two ≡ put (codes "tally") (object (tally_members k.counts)) one → TellsAlong marks declared turns two after
    → TellsYes marks declared turns k said before after
yes_told marks declared turns k said before one two after ends is put_so along =
    let P : Members → Type 0 = λ m. TellsAlong marks declared turns m after in
    (ends, subst P (put_so ∙ ap (λ (m : Members). put (codes "tally") (object (tally_members k.counts)) m) is) along)

-- ---- the records of three files

module _ {R : Type 0} (f : CheckForm) (t d w : Input R) (r : ThreeRecords) (read : AreReadAs t d w r) where
  abbrev marks : List MarkOf
  marks = transcript_of r.records.transcript

  abbrev declared : DeclarationOf
  declared = declaration_of r.records.declaration

  abbrev turns : List TurnOf
  turns = witness_of r.witness

  -- by a declaration of this sort
  read_so : (Is : List ℕ → DeclarationOf → Type 0) (Holds : Option Head → List MarkOf → DeclarationOf → List TurnOf → Type 0) → Is (came_of d) declared
      → Holds r.records.transcript.head marks declared turns → HoldsOfRead Is Holds t d w
  read_so Is Holds is holds = record {
    marks = marks;
    transcript = read.transcript;
    declared = declared;
    declaration = is;
    turns = turns;
    witness = read.witness;
    ended = read.ended;
    known = r.records.transcript.head;
    knows = read.known;
    holds = holds;
  }

  these_so : (Is : List ℕ → DeclarationOf → Type 0) → Is (came_of d) declared → (a b c : List ℕ) → IsFileOf a t → IsFileOf b d → IsFileOf c w → AreThese Is a b c marks declared turns
  these_so Is is a b c af bf cf = these Is t d w a b c marks declared turns af bf cf read.transcript read.ended.0 is read.ended.1 read.witness read.ended.2

  -- ---- where nothing is set aside

  module _ (none : r.records.declaration.settings.unjudged ≡ Refused) (seen : r.records.declaration.settings.visibility ≡ Everyone) where
    pub sets_nothing : SetsNothingAside (came_of d) declared
    sets_nothing = record { declaration = read.declaration; aside = none; seen = seen }

    pub reads_inputs : ReadsInputs t d w (Ok (record { transcript = r.records.transcript; declaration = r.records.declaration; witness = r.witness }))
    reads_inputs = (
      λ a b c af bf cf. record {
        transcript = whole_file a t (λ bytes. IsTranscript bytes marks) read.ended.0 af read.transcript;
        declaration = whole_file b d (λ bytes. IsDeclaration bytes declared) read.ended.1 bf (within_less (came_of d) declared none seen read.declaration);
        witness = whole_file c w (λ bytes. IsWitness bytes turns) read.ended.2 cf read.witness;
      },
      read.ended,
    )

    pub ever_told : (s : Result Said AllocError) → IfOk s (λ x. TellsAsEver f t d w x.lines.status (string_bytes x.lines.text))
        → IfOk s (λ x. TellsCheck f t d w x.lines.status (string_bytes x.lines.text))
    ever_told s h = IfOk-weaker s _ _ (λ x p. say.as_ever declared sets_nothing p) h

  -- ---- where what isn't judged is set aside

  module _ (some : r.records.declaration.settings.unjudged ≢ Refused) where
    sets_some : SetsAside (came_of d) declared
    sets_some = record { declaration = read.declaration; aside = some }

    pub beside_told : (v : Verdict) (said : Status) (lines : List ℕ) → TellsVerdict marks declared turns v
        → TellsBesideAs f r.records.transcript.head t d w marks declared turns v said lines → TellsCheck f t d w said lines
    beside_told v said lines right prints =
        say.beside declared sets_some (say.told_beside (read_so SetsAside _ sets_some (v, right, prints)))

    fails_beside : (g : Fault) → Checks marks declared turns (Err g) → (a b c : List ℕ) → IsFileOf a t → IsFileOf b d → IsFileOf c w
        → Fails a b c (is_failed t) (is_failed w) (audit.Check (fault_of g))
    fails_beside g checks a b c af bf cf = (g, refl, unjudged_beside a b c marks declared turns g (these_so SetsAside sets_some a b c af bf cf) checks)

    meaning_beside : (explained : Bool) (a b c : List ℕ) → IsFileOf a t → IsFileOf b d → IsFileOf c w → (fault : AuditFault) (meaning : Option FaultMeaning)
        → IfSome meaning (λ m. (explained ≡ true) × ((g : CheckFault) × (fault ≡ audit.Check g) × IsCheckMeaning (grants_declared declared) marks turns g (Some m)))
        → IsFaultMeaning explained a b c fault meaning
    meaning_beside explained a b c af bf cf fault None means = tt
    meaning_beside explained a b c af bf cf fault (Some m) means =
        let x = these_so SetsAside sets_some a b c af bf cf in
        let P : AuditFault → Type 0 = λ g. IsFaultMeaning true a b c g (Some m) in
        let Q : Bool → Type 0 = λ e. IsFaultMeaning e a b c fault (Some m) in
        subst Q (sym means.0) (subst P (sym means.1.1) (marks, declared, turns, x.transcript, x.declaration, x.witness, means.1.2))

    so_beside : (g : Fault) (told : FaultTold) → Checks marks declared turns (Err g) → IsFaultBeside (is_explained f) marks declared turns g told
        → (a b c : List ℕ) → IsFileOf a t → IsFileOf b d → IsFileOf c w
        → Fails a b c (is_failed t) (is_failed w) told.fault × IsFaultMeaning (is_explained f) a b c told.fault told.meaning
    so_beside g told checks so a b c af bf cf =
        let F : AuditFault → Type 0 = λ x. Fails a b c (is_failed t) (is_failed w) x in (
          elim so.is [
            | inl e ↦ subst F (sym e) (fails_beside g checks a b c af bf cf)
            | inr e ↦ subst F (sym e) (fails_beside fault.Memory tt a b c af bf cf)
          ],
          meaning_beside (is_explained f) a b c af bf cf told.fault told.meaning so.meaning,
        )

    pub fault_told_beside : (s : Result Said AllocError) (g : Fault) (told : FaultTold) → Checks marks declared turns (Err g) → IsFaultBeside (is_explained f) marks declared turns g told
        → IfOk s (λ x. PrintsFaultAs (held_as f) t d w told x.lines.status (string_bytes x.lines.text)) → IfOk s (λ x. TellsCheck f t d w x.lines.status (string_bytes x.lines.text))
    fault_told_beside s g told checks so prints =
        IfOk-weaker s _ _ (λ x p. say.beside declared sets_some (say.fails_beside told (so_beside g told checks so) p)) prints

  -- ---- where it ends the audit, and a server may hide objects

  module _ (alone : r.records.declaration.settings.unjudged ≡ Refused) (hides : r.records.declaration.settings.visibility ≢ Everyone) where
    hides_alone : HidesAlone (came_of d) declared
    hides_alone = record { declaration = read.declaration; aside = alone; hides = hides }

    pub sighted_told : (v : Verdict) (said : Status) (lines : List ℕ) → sight.TellsInSight marks declared turns v
        → TellsInSightAs f r.records.transcript.head t d w marks declared turns v said lines → TellsCheck f t d w said lines
    sighted_told v said lines right prints =
        say.in_sight declared hides_alone (say.told_in_sight (read_so HidesAlone _ hides_alone (v, right, prints)))

    fails_sighted : (g : CheckFault) → ever.Checks marks declared turns (Err g) → (a b c : List ℕ) → IsFileOf a t → IsFileOf b d → IsFileOf c w
        → FailsInSight a b c (is_failed t) (is_failed w) (audit.Check g)
    fails_sighted g checks a b c af bf cf = unjudged_in_sight a b c marks declared turns g (these_so HidesAlone hides_alone a b c af bf cf) checks

    meaning_sighted : (explained : Bool) (a b c : List ℕ) → IsFileOf a t → IsFileOf b d → IsFileOf c w → (g : CheckFault) (meaning : Option FaultMeaning)
        → MeansInSight explained marks declared turns g meaning → IsSightedMeaning explained a b c (audit.Check g) meaning
    meaning_sighted true a b c af bf cf g meaning means =
        let x = these_so HidesAlone hides_alone a b c af bf cf in (marks, declared, turns, x.transcript, x.declaration, x.witness, means)
    meaning_sighted false a b c af bf cf g meaning means = means

    so_sighted : (g : CheckFault) (told : FaultTold) → ever.Checks marks declared turns (Err g) → IsFaultInSight (is_explained f) marks declared turns g told
        → (a b c : List ℕ) → IsFileOf a t → IsFileOf b d → IsFileOf c w
        → FailsInSight a b c (is_failed t) (is_failed w) told.fault × IsSightedMeaning (is_explained f) a b c told.fault told.meaning
    so_sighted g told checks so a b c af bf cf =
        let F : CheckFault → Type 0 = λ x. ever.Checks marks declared turns (Err x) in
        let now : ever.Checks marks declared turns (Err so.now) = elim so.same [
          | inl e ↦ subst F (sym e) checks
          | inr e ↦ subst F (sym e) tt
        ] in
        let P : AuditFault → Type 0 = λ x. FailsInSight a b c (is_failed t) (is_failed w) x × IsSightedMeaning (is_explained f) a b c x told.meaning in
        subst P (sym so.fault_is) (fails_sighted so.now now a b c af bf cf, meaning_sighted (is_explained f) a b c af bf cf so.now told.meaning so.means)

    pub fault_told_sighted : (s : Result Said AllocError) (g : CheckFault) (told : FaultTold) → ever.Checks marks declared turns (Err g) → IsFaultInSight (is_explained f) marks declared turns g told
        → IfOk s (λ x. PrintsFaultAs (held_as f) t d w told x.lines.status (string_bytes x.lines.text)) → IfOk s (λ x. TellsCheck f t d w x.lines.status (string_bytes x.lines.text))
    fault_told_sighted s g told checks so prints =
        IfOk-weaker s _ _ (λ x p. say.in_sight declared hides_alone (say.fails_in_sight told (so_sighted g told checks so) p)) prints

-- ---- where nothing is set aside, and clients see every object

-- in lines
pub explained_so : {R : Type 0} (t d w : Input R) (outcome : Result Explained FaultTold) (said : Status) (lines : List ℕ)
    → ((a b c : List ℕ) → IsFileOf a t → IsFileOf b d → IsFileOf c w → AuditsExplained a b c (is_failed t) (is_failed d) (is_failed w) outcome) → AreEnded t d w
    → PrintsExplained outcome said lines → ExplainsAsEver t d w said lines
explained_so t d w outcome said lines audits ended prints =
    let here = audits (came_of t) (came_of d) (came_of w) (itself t) (itself d) (itself w) in
    let fits = by outcome here prints in
    record {
      prints = (outcome, audits, prints);
      fits = fits;
      yes = yes_fits said lines fits;
      accepts = λ done. (done_accepted (came_of t) (came_of d) (came_of w) (is_failed t) (is_failed d) (is_failed w) outcome said lines here (inl prints) done, ended);
    }
  where
    by : (o : Result Explained FaultTold) → AuditsExplained (came_of t) (came_of d) (came_of w) (is_failed t) (is_failed d) (is_failed w) o → PrintsExplained o said lines → FitsStatus said lines
    by (Ok e) a p = explained_fits e (came_of t) (came_of d) (came_of w) said lines a (inl p)
    by (Err x) a p = told_fits x (came_of t) (came_of d) (came_of w) said lines a.1 (inl p)

pub explained_known : (bytes : List ℕ) (outcome : Result Explained FaultTold) (said : Status) (lines : List ℕ) (head : Option Head) → head ≡ explained_head outcome
    → KnowsJudged outcome bytes (explained_head outcome) → PrintsExplained outcome said lines → KnowsSeals bytes said head
explained_known bytes (Ok e) said lines head is known prints =
    let P : Option Head → Type 0 = λ h. Known bytes h in
    knows bytes said head (subst P (sym is) known)
explained_known bytes (Err x) said lines head is known prints = told_knows bytes x said lines head (inl prints)

pub explains_inputs : {R : Type 0} (t d w : Input R) (records : AuditRecords) (outcome : Result Explained FaultTold) → ReadsInputs t d w (Ok records)
    → ((a b c : List ℕ) (ft fd fw : Bool) → AreRecords records a b c → AuditsExplained a b c ft fd fw outcome) → ExplainsInputs t d w outcome
explains_inputs t d w records outcome reads audits = (
  λ a b c af bf cf. audits a b c (is_failed t) (is_failed d) (is_failed w) (reads.0 a b c af bf cf),
  where_ended (by_fault outcome) (AreEnded t d w) reads.1,
)

pub recorded_so : {R : Type 0} (t d w : Input R) (records : AuditRecords) → ReadsInputs t d w (Ok records) → AreRecorded (transcript_of records.transcript)
recorded_so t d w records reads = (reads.0 (came_of t) (came_of d) (came_of w) (itself t) (itself d) (itself w)).transcript.recorded

-- in one object
pub audits_inputs : {R : Type 0} (t d w : Input R) (records : AuditRecords) (outcome : Result Audited AuditFault) → ReadsInputs t d w (Ok records) → ChecksRecords records outcome
    → AuditsInputs t d w outcome
audits_inputs t d w records (Ok a) reads (v, is, right) =
    let P : Audited → Type 0 = λ x. AuditsInputs t d w (Ok x) in
    subst P (sym is) (λ x y z xf yf zf. judged x y z records v (reads.0 x y z xf yf zf) right, reads.1)
audits_inputs t d w records (Err (audit.Check g)) reads checks = (λ x y z xf yf zf. unjudged x y z records g (reads.0 x y z xf yf zf) checks, reads.1)
audits_inputs t d w records (Err (audit.Transcript g)) reads checks = absurd checks
audits_inputs t d w records (Err (audit.Declaration g)) reads checks = absurd checks
audits_inputs t d w records (Err (audit.Witness g)) reads checks = absurd checks

pub audited_known : (records : AuditRecords) (outcome : Result Audited AuditFault) (bytes : List ℕ) → ChecksRecords records outcome → Known bytes records.transcript.head
    → KnowsJudged outcome bytes (audit_head outcome)
audited_known records (Ok a) bytes (v, is, right) known =
    let P : Audited → Type 0 = λ x. Known bytes x.transcript.head in
    subst P (sym is) known
audited_known records (Err g) bytes checks known = refl

pub json_so : {R : Type 0} (torn : Option ℕ) (t d w : Input R) (outcome : Result Audited AuditFault) (said : Status) (lines : List ℕ) → AuditsInputs t d w outcome
    → PrintsJson torn t d w outcome said lines → JsonAsEver torn t d w said lines
json_so torn t d w outcome said lines audits prints =
    record { prints = (outcome, audits, prints); accepts = λ done. done_is_judged torn t d w said lines (inl (outcome, audits, prints)) done }

pub json_known : {R : Type 0} (torn : Option ℕ) (t d w : Input R) (outcome : Result Audited AuditFault) (said : Status) (lines : List ℕ) (head : Option Head) → head ≡ audit_head outcome
    → KnowsJudged outcome (came_of t) (audit_head outcome) → PrintsJson torn t d w outcome said lines → KnowsSeals (came_of t) said head
json_known torn t d w outcome said lines head is known prints = audit_knows torn t d w outcome said lines head is known (inl prints)

pub explained_json_so : {R : Type 0} (torn : Option ℕ) (t d w : Input R) (outcome : Result Explained FaultTold) (said : Status) (lines : List ℕ) → ExplainsInputs t d w outcome
    → PrintsExplainedJson torn t d w outcome said lines → ExplainsJsonAsEver torn t d w said lines
explained_json_so torn t d w outcome said lines audits prints =
    record { prints = (outcome, audits, prints); accepts = λ done. done_is_explained torn t d w said lines (inl (outcome, audits, prints)) done }

pub explained_json_known : {R : Type 0} (torn : Option ℕ) (t d w : Input R) (outcome : Result Explained FaultTold) (said : Status) (lines : List ℕ) (head : Option Head)
    → head ≡ explained_head outcome → KnowsJudged outcome (came_of t) (explained_head outcome) → PrintsExplainedJson torn t d w outcome said lines → KnowsSeals (came_of t) said head
explained_json_known torn t d w outcome said lines head is known prints = check_knows torn t d w outcome said lines head is known (inl prints)

-- ---- status 0

refused_not_done : (said : Status) → said ≡ status.No → said ≡ status.Done → ⊥
refused_not_done said is done = let clash : status.No ≡ status.Done = sym is ∙ done in absurd cc

fault_as_not_done : {R : Type 0} (f : JudgeForm) (t d w : Input R) (told : FaultTold) (said : Status) (lines : List ℕ) → PrintsFaultAs f t d w told said lines → said ≡ status.Done → ⊥
fault_as_not_done plain.Lines t d w told said lines (front, more, prints, means, is) done = fault_not_done told.fault (sym prints.0 ∙ done)
fault_as_not_done (plain.Object torn) t d w told said lines (members, (without, tells, more), is) done = fault_not_done told.fault (sym tells.0 ∙ done)

ever_accepted : {R : Type 0} (f : CheckForm) (t d w : Input R) (said : Status) (lines : List ℕ) → TellsAsEver f t d w said lines → said ≡ status.Done → IsAcceptedAny t d w
ever_accepted form.Explained t d w said lines tells done = let a = tells.accepts done in say.accepted a.0 a.1
ever_accepted (form.Json torn) t d w said lines tells done = let a = tells.accepts done in say.accepted a.0 a.1
ever_accepted (form.ExplainedJson torn) t d w said lines tells done = let a = tells.accepts done in say.accepted a.0 a.1

-- of a verdict that is told with it
yes_beside : {R : Type 0} (f : CheckForm) (known : Option Head) (t d w : Input R) (marks : List MarkOf) (declared : DeclarationOf) (turns : List TurnOf) (tally : Tally) (said : Status) (lines : List ℕ)
    → TellsBesideAs f known t d w marks declared turns (verdict.Yes tally) said lines → said ≡ yes_status (tally_of tally)
yes_beside form.Explained known t d w marks declared turns tally said lines (front, more, prints, behind, is) = prints.0
yes_beside (form.Json torn) known t d w marks declared turns tally said lines (members, tells, is) = tells.0
yes_beside (form.ExplainedJson torn) known t d w marks declared turns tally said lines (members, tells, is) = tells.0

no_beside : {R : Type 0} (f : CheckForm) (known : Option Head) (t d w : Input R) (marks : List MarkOf) (declared : DeclarationOf) (turns : List TurnOf) (r : Impossible) (stamp : Option ℤ) (said : Status) (lines : List ℕ)
    → TellsBesideAs f known t d w marks declared turns (verdict.No r stamp) said lines → said ≡ status.No
no_beside form.Explained known t d w marks declared turns r stamp said lines (front, more, prints, behind, is) = prints.0
no_beside (form.Json torn) known t d w marks declared turns r stamp said lines (members, tells, is) = tells.0
no_beside (form.ExplainedJson torn) known t d w marks declared turns r stamp said lines (members, tells, is) = tells.0

no_sighted : {R : Type 0} (f : CheckForm) (known : Option Head) (t d w : Input R) (marks : List MarkOf) (declared : DeclarationOf) (turns : List TurnOf) (r : Impossible) (stamp : Option ℤ) (said : Status) (lines : List ℕ)
    → TellsInSightAs f known t d w marks declared turns (verdict.No r stamp) said lines → said ≡ status.No
no_sighted form.Explained known t d w marks declared turns r stamp said lines (front, more, prints, behind, is) = prints.0
no_sighted (form.Json torn) known t d w marks declared turns r stamp said lines (members, tells, is) = tells.0
no_sighted (form.ExplainedJson torn) known t d w marks declared turns r stamp said lines (members, tells, is) = tells.0

module _ {R : Type 0} (f : CheckForm) (t d w : Input R) (said : Status) (lines : List ℕ) (done : said ≡ status.Done) where
  accepted_beside : ChecksBeside f t d w said lines → IsAcceptedAny t d w
  accepted_beside (say.fails_beside told fails prints) = absurd (fault_as_not_done (held_as f) t d w told said lines prints done)
  accepted_beside (say.told_beside h) = by h.holds.0 h.holds.1 h.holds.2
    where
      by : (v : Verdict) → TellsVerdict h.marks h.declared h.turns v → TellsBesideAs f h.known t d w h.marks h.declared h.turns v said lines → IsAcceptedAny t d w
      by (verdict.Yes tally) right prints =
          say.accepted_beside (tally_of tally) (done_alone (tally_of tally) (sym (yes_beside f h.known t d w h.marks h.declared h.turns tally said lines prints) ∙ done))
          (record { marks = h.marks; transcript = h.transcript; declared = h.declared; declaration = h.declaration; turns = h.turns; witness = h.witness; accepted = right }) h.ended
      by (verdict.No r stamp) right prints = absurd (refused_not_done said (no_beside f h.known t d w h.marks h.declared h.turns r stamp said lines prints) done)

  accepted_sighted : ChecksInSight f t d w said lines → IsAcceptedAny t d w
  accepted_sighted (say.fails_in_sight told fails prints) = absurd (fault_as_not_done (held_as f) t d w told said lines prints done)
  accepted_sighted (say.told_in_sight h) = by h.holds.0 h.holds.1 h.holds.2
    where
      by : (v : Verdict) → sight.TellsInSight h.marks h.declared h.turns v → TellsInSightAs f h.known t d w h.marks h.declared h.turns v said lines → IsAcceptedAny t d w
      by (verdict.Yes tally) right prints =
          say.accepted_in_sight (record { marks = h.marks; transcript = h.transcript; declared = h.declared; declaration = h.declaration; turns = h.turns; witness = h.witness; accepted = right }) h.ended
      by (verdict.No r stamp) right prints = absurd (refused_not_done said (no_sighted f h.known t d w h.marks h.declared h.turns r stamp said lines prints) done)

  pub done_accepted_any : TellsCheck f t d w said lines → IsAcceptedAny t d w
  done_accepted_any (say.as_ever declared is tells) = ever_accepted f t d w said lines tells done
  done_accepted_any (say.in_sight declared is tells) = accepted_sighted tells
  done_accepted_any (say.beside declared is tells) = accepted_beside tells
  done_accepted_any (say.unread fault fails prints) = absurd (fault_as_not_done (held_as f) t d w (bare_fault fault) said lines prints done)
  done_accepted_any (say.unsaid silent) = absurd (silent_not_done said lines silent done)
