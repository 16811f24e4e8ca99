-- WHAT IS TOLD OF A CHECK of three files, in lines with what its no means, or in one object with that or without, whatever their declaration (profile).
use Rattle.std.specs.Prelude.{◌≡◌, ◌⊎◌, ◌==◌, ◌↔◌, ℕ, ℤ, if◌then◌else◌, List, [], ◌++◌, codes, Bool, true, false, IfSome, Option, Some, None, Result, Ok, Err}
use Rattle.serde_json.specs.Data.{Members, object, put}
use Rattle.kmipa_ttlv.specs.Input.{came_of, is_failed, IsFileOf}
use Rattle.kmipa_ttlv.specs.declared.input.Input.{Input}
use Rattle.kmipa_json.specs.Told.{count, line_of}
use Rattle.kmipa_record.specs.Declarations.{AreDeclared, DeclarationOf, IsDeclarationWithin, declaration_of}
use Rattle.kmipa_record.specs.Files.{Tells}
use Rattle.kmipa_record.specs.Marks.{MarkOf}
use Rattle.kmipa_record.specs.Transcripts.{IsTranscript, transcript_of}
use Rattle.kmipa_record.specs.Witnesses.{IsWitness, IsWitnessUpTo, TurnOf, WitnessFault, witness_of}
use Rattle.kmipa_record.specs.declared.head.Head.{Head}
use Rattle.kmipa_record.specs.declared.reach.Reach.TheVariants.{Aside}
use Rattle.kmipa_check.specs.Audits.{AreAccepted, AreATranscript}
use Rattle.kmipa_check.specs.Grants.{grants_declared}
use Rattle.kmipa_check.specs.Verdicts as ever
use Rattle.kmipa_check.specs.declared.auditing.Audited.{Audited}
use Rattle.kmipa_check.specs.declared.auditing.AuditFault.{AuditFault}
use Rattle.kmipa_check.specs.declared.auditing.AuditFault.TheVariants as audit
use Rattle.kmipa_check.specs.declared.auditing.AuditRecords.{AuditRecords}
use Rattle.kmipa_check.specs.declared.fault.CheckFault.{CheckFault}
use Rattle.kmipa_check.specs.declared.fault.CheckFault.TheVariants as check
use Rattle.kmipa_check.specs.declared.verdict.Refused.{Refused}
use Rattle.kmipa_check.specs.declared.verdict.Verdict as plain_verdict
use Rattle.kmipa_trail.specs.Ending.{TellsInSight}
use Rattle.kmipa_trail.specs.Tallies.{TallyOf}
use Rattle.kmipa_trail.specs.Told.{tally_of}
use Rattle.kmipa_trail.specs.Verdicts.{TellsVerdict}
use Rattle.kmipa_trail.specs.declared.fault.Fault.{Fault}
use Rattle.kmipa_trail.specs.declared.verdict.Verdict.{Verdict}
use Rattle.kmipa_trail.specs.declared.verdict.Verdict.TheVariants.{Yes, No}
use Rattle.kmipa_explain.specs.declared.explanation.Explanation.{Explanation}
use Rattle.kmipa_runs.specs.Knowing.{Known}
use Rattle.kmipa_runs.specs.Lines.{AreYesLines, FitsStatus}
use Rattle.kmipa_jobs.specs.Statuses.{IsSilent}
use Rattle.kmipa_jobs.specs.declared.status.Status.{Status}
use Rattle.kmipa_jobs.specs.declared.status.Status.TheVariants as status
use Rattle.kmipa_telling.specs.Claims.{TellsMeaning}
use Rattle.kmipa_telling.specs.ExplainedJson.{ExplainsInputs, PrintsExplainedJson}
use Rattle.kmipa_telling.specs.Explaining.{AuditsExplained, PrintsExplained, PrintsMore}
use Rattle.kmipa_telling.specs.FaultsTold.{IsCheckMeaning, PrintsFaultTold, TellsFaultTold, bare_fault}
use Rattle.kmipa_telling.specs.Judging.{AuditsInputs}
use Rattle.kmipa_telling.specs.Telling.{PrintsJson, TellsDate, check_files, opened, refused_members, verdict_named}
use Rattle.kmipa_telling.specs.declared.explained.Explained.{Explained}
use Rattle.kmipa_telling.specs.declared.held.Held.{Held}
use Rattle.kmipa_telling.specs.declared.meaning.FaultMeaning.{FaultMeaning}
use Rattle.kmipa_telling.specs.declared.meaning.FaultTold.{FaultTold}
use Rattle.kmipa_beside.specs.Audits.{AreAcceptedBeside, AreAcceptedInSight, Fails, FailsFirst, FailsInSight, HidesAlone, SetsAside, SetsNothingAside, fault_of}
use Rattle.kmipa_beside.specs.Checks.{AreEnded}
use Rattle.kmipa_beside.specs.Lines.{PrintsInSight, PrintsVerdict, yes_status}
use Rattle.kmipa_judge.specs.Forms.{IsHeld}
use Rattle.kmipa_judge.specs.Object.{TellsAlong, tally_members}
use Rattle.kmipa_judge.specs.Parts.{ExplainsNo}
use Rattle.kmipa_judge.specs.Unjudged.{PrintsAlong}
use Rattle.kmipa_judge.specs.declared.checking.reading.ThreeRecords.{ThreeRecords}
use Rattle.kmipa_judge.specs.declared.form.CheckForm.{CheckForm}
use Rattle.kmipa_judge.specs.declared.form.CheckForm.TheVariants as form
use Rattle.kmipa_judge.specs.declared.form.JudgeForm.{JudgeForm}
use Rattle.kmipa_judge.specs.declared.form.JudgeForm.TheVariants as plain

-- ---- in which form

-- One object on a line: it has the auditor's version and these files, with the head of a sealed transcript where it is told, and what is told besides.
abbrev pub IsInObject : {R : Type 0} → Option ℕ → Option Head → Input R → Input R → Input R → (Members → Members → Type 0) → List ℕ → Type 0
IsInObject torn known t d w Tells lines = (told : Members) × Tells (opened (check_files torn known t d w)) told × (lines ≡ line_of (object told))

-- whether it is lines, or an object; of a torn transcript so many bytes are its own
abbrev pub held_as : CheckForm → JudgeForm
held_as form.Explained = plain.Lines
held_as (form.Json torn) = plain.Object torn
held_as (form.ExplainedJson torn) = plain.Object torn

-- a fault: its line, or its members; and what it means
abbrev pub PrintsFaultAs : {R : Type 0} → JudgeForm → Input R → Input R → Input R → FaultTold → Status → List ℕ → Type 0
PrintsFaultAs plain.Lines t d w told said lines = PrintsFaultTold told said lines
PrintsFaultAs (plain.Object torn) t d w told said lines = IsInObject torn None t d w (TellsFaultTold told said) lines

-- whether it is told what a no or a fault means
abbrev pub is_explained : CheckForm → Bool
is_explained form.Explained = true
is_explained (form.Json torn) = false
is_explained (form.ExplainedJson torn) = true

-- ---- the files

-- the bytes are a declaration, within reach of what is set aside
abbrev pub AreADeclarationWithin : List ℕ → Type 0
AreADeclarationWithin d = (declared : DeclarationOf) × IsDeclarationWithin Aside d declared

-- The first fault of the first file that is no record, in the order of the three. The truths say which inputs failed.
abbrev pub FailsReading : List ℕ → List ℕ → List ℕ → Bool → Bool → Bool → AuditFault → Type 0
FailsReading t d w failed_t failed_d failed_w (audit.Witness f) = AreATranscript t × AreADeclarationWithin d × Tells WitnessFault IsWitnessUpTo w failed_w f
FailsReading t d w failed_t failed_d failed_w fault = FailsFirst t d failed_t failed_d fault

-- Such an instance holds of the records that the bytes are that came, to the ends that were seen, and of what the transcript is known by.
pub record HoldsOfRead {R : Type 0} (Is : List ℕ → DeclarationOf → Type 0) (Holds : Option Head → List MarkOf → DeclarationOf → List TurnOf → Type 0) (t d w : Input R) : Type 0 where
  pub marks : List MarkOf
  pub transcript : IsTranscript (came_of t) marks
  pub declared : DeclarationOf
  pub declaration : Is (came_of d) declared
  pub turns : List TurnOf
  pub witness : IsWitness (came_of w) turns
  pub ended : AreEnded t d w
  pub known : Option Head
  pub knows : Known (came_of t) known
  pub holds : Holds known marks declared turns

-- ---- what a no means

-- the lines of an explanation, each claim of which holds of a part of the recording; none where it isn't explained
abbrev pub PrintsNoMeaning : List MarkOf → DeclarationOf → List TurnOf → Refused → List ℕ → Type 0
PrintsNoMeaning marks declared turns r lines = (e : Option Explanation) × IfSome e (ExplainsNo marks declared turns r) × PrintsMore e lines

-- the same as a member, where it is asked for
abbrev pub TellsNoMeaning : Bool → List MarkOf → DeclarationOf → List TurnOf → Refused → Members → Members → Type 0
TellsNoMeaning true marks declared turns r before after = (e : Option Explanation) × IfSome e (ExplainsNo marks declared turns r) × TellsMeaning e before after
TellsNoMeaning false marks declared turns r before after = after ≡ before

-- a no, with the Time Stamp of its call's response where that can be read, and what it means
abbrev pub TellsNo : Bool → List MarkOf → DeclarationOf → List TurnOf → Refused → Option ℤ → Status → Members → Members → Type 0
TellsNo explained marks declared turns r stamp said before after = (said ≡ status.No)
    × ((told : Members) × TellsDate stamp (refused_members r before) told × TellsNoMeaning explained marks declared turns r told after)

-- ---- where nothing is set aside, and clients see every object: what an audit answers of whatever the files may be

-- in lines, with what its no means
pub record ExplainsAsEver {R : Type 0} (t d w : Input R) (said : Status) (lines : List ℕ) : Type 0 where
  pub prints : (outcome : Result Explained FaultTold)
      × ((a b c : List ℕ) → IsFileOf a t → IsFileOf b d → IsFileOf c w → AuditsExplained a b c (is_failed t) (is_failed d) (is_failed w) outcome)
      × PrintsExplained outcome said lines
  -- `yes` is printed with status 0, and there alone
  pub fits : FitsStatus said lines
  pub yes : (said ≡ status.Done) ↔ AreYesLines lines
  pub accepts : said ≡ status.Done → AreAccepted (came_of t) (came_of d) (came_of w) × AreEnded t d w

-- in one object
pub record JsonAsEver {R : Type 0} (torn : Option ℕ) (t d w : Input R) (said : Status) (lines : List ℕ) : Type 0 where
  pub prints : (outcome : Result Audited AuditFault) × AuditsInputs t d w outcome × PrintsJson torn t d w outcome said lines
  pub accepts : said ≡ status.Done → AreAccepted (came_of t) (came_of d) (came_of w) × AreEnded t d w

-- in one with what its no means
pub record ExplainsJsonAsEver {R : Type 0} (torn : Option ℕ) (t d w : Input R) (said : Status) (lines : List ℕ) : Type 0 where
  pub prints : (outcome : Result Explained FaultTold) × ExplainsInputs t d w outcome × PrintsExplainedJson torn t d w outcome said lines
  pub accepts : said ≡ status.Done → AreAccepted (came_of t) (came_of d) (came_of w) × AreEnded t d w

abbrev pub TellsAsEver : {R : Type 0} → CheckForm → Input R → Input R → Input R → Status → List ℕ → Type 0
TellsAsEver form.Explained t d w said lines = ExplainsAsEver t d w said lines
TellsAsEver (form.Json torn) t d w said lines = JsonAsEver torn t d w said lines
TellsAsEver (form.ExplainedJson torn) t d w said lines = ExplainsJsonAsEver torn t d w said lines

-- ---- where what isn't judged is set aside

-- behind a yes stands what isn't judged along the witness, and behind a no what it means
abbrev pub PrintsBehind : List MarkOf → DeclarationOf → List TurnOf → Verdict → List ℕ → Type 0
PrintsBehind marks declared turns (Yes tally) lines = PrintsAlong marks declared turns lines
PrintsBehind marks declared turns (No r stamp) lines = PrintsNoMeaning marks declared turns r lines

abbrev pub PrintsBeside : List MarkOf → DeclarationOf → List TurnOf → Verdict → Status → List ℕ → Type 0
PrintsBeside marks declared turns verdict said lines = (front more : List ℕ) × PrintsVerdict verdict said front × PrintsBehind marks declared turns verdict more × (lines ≡ front ++ more)

-- what stands for the first line of a yes, which may be one but for so many items
abbrev pub yes_members : ℕ → Members → Members
yes_members excepted told = if excepted == 0 then verdict_named (codes "yes") told else put (codes "but_for") (count excepted) (verdict_named (codes "yes but for") told)

-- a yes, with how many items are judged, and by what the others aren't; and what isn't judged along the witness
abbrev pub TellsYes : List MarkOf → DeclarationOf → List TurnOf → TallyOf → Status → Members → Members → Type 0
TellsYes marks declared turns k said before after = (said ≡ yes_status k)
    × TellsAlong marks declared turns (put (codes "tally") (object (tally_members k.counts)) (yes_members k.excepted before)) after

abbrev pub TellsBeside : Bool → List MarkOf → DeclarationOf → List TurnOf → Verdict → Status → Members → Members → Type 0
TellsBeside explained marks declared turns (Yes tally) said before after = TellsYes marks declared turns (tally_of tally) said before after
TellsBeside explained marks declared turns (No r stamp) said before after = TellsNo explained marks declared turns r stamp said before after

abbrev pub TellsBesideAs : {R : Type 0} → CheckForm → Option Head → Input R → Input R → Input R → List MarkOf → DeclarationOf → List TurnOf → Verdict → Status → List ℕ → Type 0
TellsBesideAs form.Explained known t d w marks declared turns verdict said lines = PrintsBeside marks declared turns verdict said lines
TellsBesideAs (form.Json torn) known t d w marks declared turns verdict said lines = IsInObject torn known t d w (TellsBeside false marks declared turns verdict said) lines
TellsBesideAs (form.ExplainedJson torn) known t d w marks declared turns verdict said lines = IsInObject torn known t d w (TellsBeside true marks declared turns verdict said) lines

-- the verdict is right for these records, and told
abbrev pub JudgesBeside : {R : Type 0} → CheckForm → Input R → Input R → Input R → Status → List ℕ → Option Head → List MarkOf → DeclarationOf → List TurnOf → Type 0
JudgesBeside form t d w said lines known marks declared turns = (verdict : Verdict) × TellsVerdict marks declared turns verdict × TellsBesideAs form known t d w marks declared turns verdict said lines

-- What a fault of such files means, where that is asked for, and told: why the witness doesn't fit, in claims that hold.
abbrev pub IsFaultMeaning : Bool → List ℕ → List ℕ → List ℕ → AuditFault → Option FaultMeaning → Type 0
IsFaultMeaning explained t d w fault None = Unit {0}
IsFaultMeaning true t d w (audit.Check fault) (Some meaning) = (marks : List MarkOf) × (declared : DeclarationOf) × (turns : List TurnOf)
    × IsTranscript t marks × SetsAside d declared × IsWitness w turns × IsCheckMeaning (grants_declared declared) marks turns fault (Some meaning)
IsFaultMeaning explained t d w fault (Some meaning) = ⊥

-- Either the verdict on the records is told; or the first fault, with what it means.
pub data ChecksBeside {R : Type 0} (form : CheckForm) (t d w : Input R) (said : Status) (lines : List ℕ) : Type 0 where
  told_beside : HoldsOfRead SetsAside (JudgesBeside form t d w said lines) t d w → ChecksBeside form t d w said lines
  fails_beside : (told : FaultTold)
      → ((a b c : List ℕ) → IsFileOf a t → IsFileOf b d → IsFileOf c w
      → Fails a b c (is_failed t) (is_failed w) told.fault × IsFaultMeaning (is_explained form) a b c told.fault told.meaning)
      → PrintsFaultAs (held_as form) t d w told said lines → ChecksBeside form t d w said lines

-- ---- where what isn't judged ends the audit, and a server may hide the objects of other clients, or has to

-- behind a yes stands nothing, and behind a no what it means
abbrev pub PrintsBehindInSight : List MarkOf → DeclarationOf → List TurnOf → Verdict → List ℕ → Type 0
PrintsBehindInSight marks declared turns (Yes tally) lines = lines ≡ []
PrintsBehindInSight marks declared turns (No r stamp) lines = PrintsNoMeaning marks declared turns r lines

abbrev pub PrintsSighted : List MarkOf → DeclarationOf → List TurnOf → Verdict → Status → List ℕ → Type 0
PrintsSighted marks declared turns verdict said lines = (front more : List ℕ) × PrintsInSight verdict said front × PrintsBehindInSight marks declared turns verdict more × (lines ≡ front ++ more)

abbrev pub TellsSighted : Bool → List MarkOf → DeclarationOf → List TurnOf → Verdict → Status → Members → Members → Type 0
TellsSighted explained marks declared turns (Yes tally) said before after = (said ≡ status.Done) × (after ≡ verdict_named (codes "yes") before)
TellsSighted explained marks declared turns (No r stamp) said before after = TellsNo explained marks declared turns r stamp said before after

abbrev pub TellsInSightAs : {R : Type 0} → CheckForm → Option Head → Input R → Input R → Input R → List MarkOf → DeclarationOf → List TurnOf → Verdict → Status → List ℕ → Type 0
TellsInSightAs form.Explained known t d w marks declared turns verdict said lines = PrintsSighted marks declared turns verdict said lines
TellsInSightAs (form.Json torn) known t d w marks declared turns verdict said lines = IsInObject torn known t d w (TellsSighted false marks declared turns verdict said) lines
TellsInSightAs (form.ExplainedJson torn) known t d w marks declared turns verdict said lines = IsInObject torn known t d w (TellsSighted true marks declared turns verdict said) lines

abbrev pub JudgesInSight : {R : Type 0} → CheckForm → Input R → Input R → Input R → Status → List ℕ → Option Head → List MarkOf → DeclarationOf → List TurnOf → Type 0
JudgesInSight form t d w said lines known marks declared turns = (verdict : Verdict) × TellsInSight marks declared turns verdict × TellsInSightAs form known t d w marks declared turns verdict said lines

-- What a fault of such files means, where that is asked for: why a message is outside, or why the witness doesn't fit, in claims that hold.
abbrev pub IsSightedMeaning : Bool → List ℕ → List ℕ → List ℕ → AuditFault → Option FaultMeaning → Type 0
IsSightedMeaning true t d w (audit.Check fault) meaning = (marks : List MarkOf) × (declared : DeclarationOf) × (turns : List TurnOf)
    × IsTranscript t marks × HidesAlone d declared × IsWitness w turns × IsCheckMeaning (grants_declared declared) marks turns fault meaning
IsSightedMeaning explained t d w fault meaning = meaning ≡ None

pub data ChecksInSight {R : Type 0} (form : CheckForm) (t d w : Input R) (said : Status) (lines : List ℕ) : Type 0 where
  told_in_sight : HoldsOfRead HidesAlone (JudgesInSight form t d w said lines) t d w → ChecksInSight form t d w said lines
  fails_in_sight : (told : FaultTold)
      → ((a b c : List ℕ) → IsFileOf a t → IsFileOf b d → IsFileOf c w
      → FailsInSight a b c (is_failed t) (is_failed w) told.fault × IsSightedMeaning (is_explained form) a b c told.fault told.meaning)
      → PrintsFaultAs (held_as form) t d w told said lines → ChecksInSight form t d w said lines

-- ---- THE DEFINITION: by the declaration that came one of the three; or the first fault of a file, of which its line is all that is told; or memory ran out

pub data TellsCheck {R : Type 0} (form : CheckForm) (t d w : Input R) (said : Status) (lines : List ℕ) : Type 0 where
  as_ever : (declared : DeclarationOf) → SetsNothingAside (came_of d) declared → TellsAsEver form t d w said lines → TellsCheck form t d w said lines
  in_sight : (declared : DeclarationOf) → HidesAlone (came_of d) declared → ChecksInSight form t d w said lines → TellsCheck form t d w said lines
  beside : (declared : DeclarationOf) → SetsAside (came_of d) declared → ChecksBeside form t d w said lines → TellsCheck form t d w said lines
  unread : (fault : AuditFault)
      → ((a b c : List ℕ) → IsFileOf a t → IsFileOf b d → IsFileOf c w → FailsReading a b c (is_failed t) (is_failed d) (is_failed w) fault)
      → PrintsFaultAs (held_as form) t d w (bare_fault fault) said lines → TellsCheck form t d w said lines
  unsaid : IsSilent said lines → TellsCheck form t d w said lines

-- Status 0 is that of bytes that are accepted, to the ends that were seen: where nothing is set aside, or objects are hidden alone, or beside what is set aside,
-- nothing of it by the witness alone.
pub data IsAcceptedAny {R : Type 0} (t d w : Input R) : Type 0 where
  accepted : AreAccepted (came_of t) (came_of d) (came_of w) → AreEnded t d w → IsAcceptedAny t d w
  accepted_in_sight : AreAcceptedInSight (came_of t) (came_of d) (came_of w) → AreEnded t d w → IsAcceptedAny t d w
  accepted_beside : (tally : TallyOf) → tally.excepted ≡ 0 → AreAcceptedBeside (came_of t) (came_of d) (came_of w) tally → AreEnded t d w → IsAcceptedAny t d w

-- ---- for its own proofs

-- what came of three inputs is held, where an object is to tell of it
abbrev pub AreHeldAs : {R : Type 0} → JudgeForm → Held → Input R → Input R → Input R → Type 0
AreHeldAs f h t d w = IsHeld f h.transcript.items t × IsHeld f h.declaration.items d × IsHeld f h.witness.items w

-- the bytes of three files, to the ends that were seen, are these records, within reach of what is set aside
pub record AreReadAs {R : Type 0} (t d w : Input R) (r : ThreeRecords) : Type 0 where
  pub transcript : IsTranscript (came_of t) (transcript_of r.records.transcript)
  pub known : Known (came_of t) r.records.transcript.head
  pub declaration : IsDeclarationWithin Aside (came_of d) (declaration_of r.records.declaration)
  pub declared : AreDeclared (declaration_of r.records.declaration)
  pub witness : IsWitness (came_of w) (witness_of r.witness)
  pub ended : AreEnded t d w

-- the check of these records comes to this
abbrev pub ChecksRecords : AuditRecords → Result Audited AuditFault → Type 0
ChecksRecords r (Ok a) = (v : plain_verdict.Verdict) × (a ≡ record { verdict = v; transcript = r.transcript; declaration = r.declaration; witness = r.witness })
    × ever.TellsVerdict (transcript_of r.transcript) (declaration_of r.declaration) (witness_of r.witness) v
ChecksRecords r (Err (audit.Check f)) = ever.Checks (transcript_of r.transcript) (declaration_of r.declaration) (witness_of r.witness) (Err f)
ChecksRecords r (Err fault) = ⊥

-- the fault of a check by what is set aside, and where it is told what it means by a check that sets nothing aside
pub record IsFaultBeside (explained : Bool) (marks : List MarkOf) (declared : DeclarationOf) (turns : List TurnOf) (fault : Fault) (told : FaultTold) : Type 0 where
  pub is : (told.fault ≡ audit.Check (fault_of fault)) ⊎ (told.fault ≡ audit.Check check.Memory)
  pub meaning : IfSome told.meaning (λ meaning. (explained ≡ true) × ((f : CheckFault) × (told.fault ≡ audit.Check f) × IsCheckMeaning (grants_declared declared) marks turns f (Some meaning)))

-- that of a check that ends with what isn't judged, and what it means
abbrev pub MeansInSight : Bool → List MarkOf → DeclarationOf → List TurnOf → CheckFault → Option FaultMeaning → Type 0
MeansInSight true marks declared turns fault meaning = IsCheckMeaning (grants_declared declared) marks turns fault meaning
MeansInSight false marks declared turns fault meaning = meaning ≡ None

pub record IsFaultInSight (explained : Bool) (marks : List MarkOf) (declared : DeclarationOf) (turns : List TurnOf) (fault : CheckFault) (told : FaultTold) : Type 0 where
  pub now : CheckFault
  pub fault_is : told.fault ≡ audit.Check now
  pub same : (now ≡ fault) ⊎ (now ≡ check.Memory)
  pub means : MeansInSight explained marks declared turns now told.meaning
