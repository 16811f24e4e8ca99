-- WHAT `judge` TELLS AND MAKES of a transcript, and of a declaration where one is given (profile).
use Rattle.std.specs.Prelude.{◌≡◌, ◌⊎◌, ℕ, Bool, true, false, List, [], ◌++◌, IsTrue, Option, Some, None}
use Rattle.serde_json.specs.Data.{Members}
use Rattle.kmipa_ttlv.specs.Input.{came_of, is_ended, is_failed, IsFileOf}
use Rattle.kmipa_ttlv.specs.declared.input.Input.{Input}
use Rattle.kmipa_msgs.specs.declared.rules.Visibility.{Visibility}
use Rattle.kmipa_record.specs.Declarations.{DeclarationOf, IsDeclarationWithin}
use Rattle.kmipa_record.specs.Files.{Tells}
use Rattle.kmipa_record.specs.Marks.{MarkOf}
use Rattle.kmipa_record.specs.Transcripts.{IsTranscript, TranscriptFault, IsTranscriptUpTo}
use Rattle.kmipa_record.specs.Witnesses.{witness_of}
use Rattle.kmipa_record.specs.Writing.{IsWrittenDeclarationWithin, IsWrittenWitness}
use Rattle.kmipa_record.specs.declared.head.Head.{Head}
use Rattle.kmipa_record.specs.declared.reach.Reach.TheVariants.{Aside}
use Rattle.kmipa_check.specs.declared.auditing.AuditFault.{AuditFault}
use Rattle.kmipa_check.specs.declared.auditing.AuditFault.TheVariants as audit
use Rattle.kmipa_findings.specs.declared.finding.Outcome.{Outcome}
use Rattle.kmipa_findings.specs.declared.finding.Outcome.TheVariants.{Judged, Undecided}
use Rattle.kmipa_runs.specs.Knowing.{Known}
use Rattle.kmipa_runs.specs.Lines.{PrintsFault}
use Rattle.kmipa_jobs.specs.Statuses.{IsSilent}
use Rattle.kmipa_jobs.specs.declared.status.Status.{Status}
use Rattle.kmipa_beside.specs.Audits.{FailsFirst}
use Rattle.kmipa_judge.specs.Declaring.{is_presumed, judging_by, nothing_known}
use Rattle.kmipa_judge.specs.Forms.{ahead}
use Rattle.kmipa_judge.specs.Lines.{PrintsOutcome}
use Rattle.kmipa_judge.specs.Object.{TellsFaultWhole, TellsWhole}
use Rattle.kmipa_judge.specs.Opinions.{IsFair}
use Rattle.kmipa_judge.specs.Parts.{IsMeaning}
use Rattle.kmipa_judge.specs.Rules.{AreExplaining}
use Rattle.kmipa_judge.specs.Unexplained.{ComesTo}
use Rattle.kmipa_judge.specs.Unjudged.{PrintsUnjudged}
use Rattle.kmipa_judge.specs.declared.form.JudgeForm.{JudgeForm}
use Rattle.kmipa_judge.specs.declared.rule.Rule.{Rule}

-- ---- the records

-- nothing is made
abbrev pub MakesNothing : List ℕ → List ℕ → Type 0
MakesNothing witness declaration = (witness ≡ []) × (declaration ≡ [])

-- What is made of an outcome: files of its witness and of the declaration that was used, in the lowest versions that serve; of what is undecided none.
abbrev pub Makes : DeclarationOf → Outcome → List ℕ → List ℕ → Type 0
Makes declared (Judged j) witness declaration = IsWrittenWitness (witness_of j.witness) witness × IsWrittenDeclarationWithin Aside declared declaration
Makes declared (Undecided u) witness declaration = MakesNothing witness declaration

-- All lines of an outcome and of these rules, and the status that goes with them: behind its own those of what isn't judged.
pub record PrintsWhole (assumed : Bool) (marks : List MarkOf) (declared : DeclarationOf) (o : Outcome) (rules : List Rule) (said : Status) (lines : List ℕ) : Type 0 where
  pub front : List ℕ
  pub prints : PrintsOutcome (IsMeaning marks declared o) assumed o rules said front
  pub behind : List ℕ
  pub unjudged : PrintsUnjudged marks declared o behind
  pub are : lines ≡ front ++ behind

-- So in lines; or, where an object is asked for that has these members already, its line.
abbrev pub Prints : Option Members → Bool → List MarkOf → DeclarationOf → Outcome → List Rule → Status → List ℕ → Type 0
Prints None assumed marks declared o rules said lines = PrintsWhole assumed marks declared o rules said lines
Prints (Some before) assumed marks declared o rules said lines = TellsWhole before assumed marks declared o rules said lines

-- and of a fault
abbrev pub PrintsFaultSo : Option Members → AuditFault → Status → List ℕ → Type 0
PrintsFaultSo None fault said lines = PrintsFault fault said lines
PrintsFaultSo (Some before) fault said lines = TellsFaultWhole before fault said lines

-- The marks of a transcript are judged by a declaration, or by none, where nothing is declared: what is told and made is that of what judging them comes to.
pub record TellsOutcome (seconds : ℕ) (before : Option Members) (assumed : Bool) (marks : List MarkOf) (declared : DeclarationOf) (said : Status) (lines witness declaration : List ℕ) : Type 0 where
  pub outcome : Outcome
  pub judges : ComesTo seconds marks declared outcome
  pub fair : IsFair (is_presumed assumed declared.settings.visibility) marks outcome
  pub rules : List Rule
  pub explaining : AreExplaining assumed marks declared outcome rules
  pub prints : Prints before assumed marks declared outcome rules said lines
  pub makes : Makes declared outcome witness declaration

-- so it is; or memory ran out
pub data JudgesRecords (seconds : ℕ) (before : Option Members) (assumed : Bool) (marks : List MarkOf) (declared : DeclarationOf) (said : Status) (lines witness declaration : List ℕ) : Type 0 where
  tells : TellsOutcome seconds before assumed marks declared said lines witness declaration → JudgesRecords seconds before assumed marks declared said lines witness declaration
  no_memory : IsSilent said lines → MakesNothing witness declaration → JudgesRecords seconds before assumed marks declared said lines witness declaration

-- ---- the files

-- The declaration that is used: the one that the bytes are that came, to the end that was seen; or, where none is given, that of a server of which nothing is
-- known.
abbrev pub IsUsed : {R : Type 0} → Option (Input R) → DeclarationOf → Type 0
IsUsed None declared = (v : Visibility) × (declared ≡ nothing_known v)
IsUsed (Some d) declared = (given : DeclarationOf) × IsDeclarationWithin Aside (came_of d) given × IsTrue (is_ended d) × (declared ≡ judging_by given)

abbrev pub is_assumed : {R : Type 0} → Option (Input R) → Bool
is_assumed None = true
is_assumed (Some d) = false

-- the fault of a transcript alone; the truth says whether its input failed
abbrev pub FailsAlone : List ℕ → Bool → AuditFault → Type 0
FailsAlone t failed (audit.Transcript f) = Tells TranscriptFault IsTranscriptUpTo t failed f
FailsAlone t failed (audit.Declaration f) = ⊥
FailsAlone t failed (audit.Witness f) = ⊥
FailsAlone t failed (audit.Check f) = ⊥

-- the first fault of the transcript, or else that of the declaration, whatever the files may be
abbrev pub Fails : {R : Type 0} → Input R → Option (Input R) → AuditFault → Type 0
Fails t None fault = (a : List ℕ) → IsFileOf a t → FailsAlone a (is_failed t) fault
Fails t (Some d) fault = (a b : List ℕ) → IsFileOf a t → IsFileOf b d → FailsFirst a b (is_failed t) (is_failed d) fault

-- the bytes that came, to the end that was seen, are a transcript of these marks
pub record IsReadAs {R : Type 0} (t : Input R) (marks : List MarkOf) : Type 0 where
  pub transcript : IsTranscript (came_of t) marks
  pub ended : IsTrue (is_ended t)

-- what is told of the first fault of a file; or memory ran out
abbrev pub IsUnread : {R : Type 0} → JudgeForm → Input R → Option (Input R) → AuditFault → Status → List ℕ → Type 0
IsUnread form t d fault said lines = PrintsFaultSo (ahead form None t d) fault said lines ⊎ IsSilent said lines

-- THE DEFINITION. An object has the files ahead, behind what was read with the head of a sealed transcript.
pub data JudgesFiles {R : Type 0} (seconds : ℕ) (form : JudgeForm) (t : Input R) (d : Option (Input R)) (said : Status) (lines witness declaration : List ℕ) : Type 0 where
  judged : (marks : List MarkOf) → IsReadAs t marks → (known : Option Head) → Known (came_of t) known → (declared : DeclarationOf) → IsUsed d declared
      → JudgesRecords seconds (ahead form known t d) (is_assumed d) marks declared said lines witness declaration → JudgesFiles seconds form t d said lines witness declaration
  unread : (fault : AuditFault) → Fails t d fault → PrintsFaultSo (ahead form None t d) fault said lines → MakesNothing witness declaration
      → JudgesFiles seconds form t d said lines witness declaration
  unsaid : IsSilent said lines → MakesNothing witness declaration → JudgesFiles seconds form t d said lines witness declaration
