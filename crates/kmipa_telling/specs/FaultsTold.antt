-- What is told of a fault besides its line: what it means.
use Rattle.std.specs.Prelude.{◌≡◌, ◌⊎◌, ℕ, List, [], ◌++◌, codes, Option, Some, None, Result, Ok, Err}
use Rattle.serde_json.specs.Data.{Members, object, put}
use Rattle.kmipa_record.specs.Marks.{MarkOf}
use Rattle.kmipa_record.specs.Declarations.{DeclarationOf, IsDeclaration}
use Rattle.kmipa_record.specs.Transcripts.{IsTranscript}
use Rattle.kmipa_record.specs.Witnesses.{IsWitness, TurnOf}
use Rattle.kmipa_check.specs.Calls.{IsFirstOutside}
use Rattle.kmipa_check.specs.Grants.{GrantsOf, grants_declared}
use Rattle.kmipa_check.specs.declared.auditing.AuditFault.{AuditFault}
use Rattle.kmipa_check.specs.declared.auditing.AuditFault.TheVariants as audit
use Rattle.kmipa_check.specs.declared.fault.CheckFault.{CheckFault}
use Rattle.kmipa_check.specs.declared.fault.CheckFault.TheVariants as check
use Rattle.kmipa_outside.specs.Explaining.{ExplainsOutside}
use Rattle.kmipa_runs.specs.Lines.{PrintsFault}
use Rattle.kmipa_jobs.specs.declared.status.Status.{Status}
use Rattle.kmipa_telling.specs.OutsideClaims.{outside_members}
use Rattle.kmipa_telling.specs.OutsideLines.{outside_lines}
use Rattle.kmipa_telling.specs.Telling.{TellsFault}
use Rattle.kmipa_telling.specs.UnfitClaims.{unfit_members}
use Rattle.kmipa_telling.specs.UnfitLines.{unfit_lines}
use Rattle.kmipa_telling.specs.declared.meaning.FaultMeaning.{FaultMeaning}
use Rattle.kmipa_telling.specs.declared.meaning.FaultMeaning.TheVariants.{Outside, Witness}
use Rattle.kmipa_telling.specs.declared.meaning.FaultTold.{FaultTold}
use Rattle.kmipa_unfit.specs.Explanations.{ExplainsWitness, HasFault}

-- a fault of which its line is all that is told
abbrev pub bare_fault : AuditFault → FaultTold
bare_fault fault = record { fault = fault; meaning = None }

-- a result by its fault alone
abbrev pub by_fault : {T : Type 0} → Result T FaultTold → Result T AuditFault
by_fault (Ok x) = Ok x
by_fault (Err told) = Err told.fault

-- ---- what it means

-- why a message of these calls is outside, in claims that hold; no other fault is told to mean anything
abbrev pub IsOutsideMeaning : List MarkOf → CheckFault → Option FaultMeaning → Type 0
IsOutsideMeaning marks (check.Outside number side o) (Some (Outside e)) = ExplainsOutside marks number side o.item o.kind e
IsOutsideMeaning marks (check.Outside number side o) (Some (Witness e)) = ⊥
IsOutsideMeaning marks (check.Outside number side o) None = ⊥
IsOutsideMeaning marks fault None = Unit {0}
IsOutsideMeaning marks fault (Some m) = ⊥

-- what a fault of a check means, of these calls and in these turns, under a declaration that grants this: why a message is outside, or why the turns
-- don't fit, in claims that hold
abbrev pub IsCheckMeaning : GrantsOf → List MarkOf → List TurnOf → CheckFault → Option FaultMeaning → Type 0
IsCheckMeaning g marks turns (check.Witness f) (Some (Witness e)) = ExplainsWitness g marks turns f.at f.kind e
IsCheckMeaning g marks turns (check.Witness f) (Some (Outside e)) = ⊥
IsCheckMeaning g marks turns (check.Witness f) None = ⊥
IsCheckMeaning g marks turns fault meaning = IsOutsideMeaning marks fault meaning

-- the same of what these bytes are, of the three files; of a fault of a file nothing more is told
abbrev pub IsAuditMeaning : List ℕ → List ℕ → List ℕ → AuditFault → Option FaultMeaning → Type 0
IsAuditMeaning t d w (audit.Check fault) meaning = (marks : List MarkOf) × (declared : DeclarationOf) × (turns : List TurnOf)
    × IsTranscript t marks × IsDeclaration d declared × IsWitness w turns × IsCheckMeaning (grants_declared declared) marks turns fault meaning
IsAuditMeaning t d w fault None = Unit {0}
IsAuditMeaning t d w fault (Some m) = ⊥

-- what a fault of a search means, of what these bytes are, of a transcript
abbrev pub IsSearchMeaning : List ℕ → AuditFault → Option FaultMeaning → Type 0
IsSearchMeaning t (audit.Check fault) meaning = (marks : List MarkOf) × IsTranscript t marks × IsOutsideMeaning marks fault meaning
IsSearchMeaning t fault None = Unit {0}
IsSearchMeaning t fault (Some m) = ⊥

-- ---- what is printed

-- where no meaning is told nothing more is printed
abbrev pub PrintsFaultMeaning : Option FaultMeaning → List ℕ → Type 0
PrintsFaultMeaning None lines = lines ≡ []
PrintsFaultMeaning (Some (Outside e)) lines = lines ≡ outside_lines e
PrintsFaultMeaning (Some (Witness e)) lines = lines ≡ unfit_lines e

-- the line of a fault, and behind it those of what it means
abbrev pub PrintsFaultTold : FaultTold → Status → List ℕ → Type 0
PrintsFaultTold told said lines = (front more : List ℕ) × PrintsFault told.fault said front × PrintsFaultMeaning told.meaning more × (lines ≡ front ++ more)

-- ---- what is told in JSON

-- the meaning under one name, where it is told
abbrev pub TellsFaultMeaning : Option FaultMeaning → Members → Members → Type 0
TellsFaultMeaning None before after = after ≡ before
TellsFaultMeaning (Some (Outside e)) before after = after ≡ put (codes "explanation") (object (outside_members e)) before
TellsFaultMeaning (Some (Witness e)) before after = after ≡ put (codes "explanation") (object (unfit_members e)) before

-- what is told of a fault elsewhere, with what it means
abbrev pub TellsFaultTold : FaultTold → Status → Members → Members → Type 0
TellsFaultTold told said before after = (without : Members) × TellsFault told.fault said before without × TellsFaultMeaning told.meaning without after

-- ---- how a fault gets its meaning, not promised

-- the fault of a check or a search of these calls, where it is of a message
abbrev pub IsFaultOf : List MarkOf → CheckFault → Type 0
IsFaultOf marks (check.Outside number side o) = IsFirstOutside marks number side o.item o.kind
IsFaultOf marks fault = Unit {0}

-- it is told with why the message is outside; or memory ran out
abbrev pub IsFaultToldOf : List MarkOf → CheckFault → FaultTold → Type 0
IsFaultToldOf marks fault told = ((told.fault ≡ audit.Check fault) × IsOutsideMeaning marks fault told.meaning) ⊎ (told ≡ bare_fault (audit.Check check.Memory))

-- the fault of a check of these calls and these turns under a declaration that grants this
abbrev pub IsCheckFaultOf : GrantsOf → List MarkOf → List TurnOf → CheckFault → Type 0
IsCheckFaultOf g marks turns (check.Witness f) = HasFault g marks turns f.at f.kind
IsCheckFaultOf g marks turns fault = IsFaultOf marks fault

-- it is told with what it means; or memory ran out
abbrev pub IsCheckToldOf : GrantsOf → List MarkOf → List TurnOf → CheckFault → FaultTold → Type 0
IsCheckToldOf g marks turns fault told = ((told.fault ≡ audit.Check fault) × IsCheckMeaning g marks turns fault told.meaning) ⊎ (told ≡ bare_fault (audit.Check check.Memory))
