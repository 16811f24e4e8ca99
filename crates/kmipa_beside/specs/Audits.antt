-- WHAT AN AUDIT OF THREE INPUTS TELLS whose declaration sets aside what isn't judged, or hides objects (profile).
use Rattle.std.specs.Prelude.{◌≡◌, ◌≢◌, ℕ, Bool, List, Option, Result, Ok, Err}
use Rattle.kmipa_msgs.specs.declared.rules.Unjudged.{Unjudged}
use Rattle.kmipa_msgs.specs.declared.rules.Unjudged.TheVariants.{Refused, SetAside, Unknown}
use Rattle.kmipa_msgs.specs.declared.rules.Visibility.TheVariants.{Everyone}
use Rattle.kmipa_record.specs.Declarations.{DeclarationOf, IsDeclarationWithin, DeclarationFaultWithin, IsDeclarationUpToWithin}
use Rattle.kmipa_record.specs.Files.{Tells}
use Rattle.kmipa_record.specs.Marks.{MarkOf}
use Rattle.kmipa_record.specs.Transcripts.{IsTranscript, TranscriptFault, IsTranscriptUpTo}
use Rattle.kmipa_record.specs.Witnesses.{TurnOf, IsWitness, WitnessFault, IsWitnessUpTo}
use Rattle.kmipa_record.specs.declared.reach.Reach.TheVariants.{Aside}
use Rattle.kmipa_check.specs.Audits.{AreATranscript}
use Rattle.kmipa_check.specs.declared.auditing.AuditFault.{AuditFault}
use Rattle.kmipa_check.specs.declared.auditing.AuditFault.TheVariants as audit
use Rattle.kmipa_check.specs.declared.fault.CheckFault.{CheckFault}
use Rattle.kmipa_check.specs.declared.fault.CheckFault.TheVariants as check
use Rattle.kmipa_trail.specs.Ending.{ChecksInSight, IsAcceptedInSight, TellsInSight}
use Rattle.kmipa_trail.specs.Tallies.{TallyOf}
use Rattle.kmipa_trail.specs.Verdicts.{Checks, IsAccepted, TellsVerdict}
use Rattle.kmipa_trail.specs.declared.fault.Fault.{Fault}
use Rattle.kmipa_trail.specs.declared.fault.Fault.TheVariants.{Witness, Memory}
use Rattle.kmipa_trail.specs.declared.verdict.Verdict.{Verdict}
use Rattle.kmipa_beside.specs.declared.auditing.Told.{Told}

-- the bytes are this declaration, and it sets aside what isn't judged
pub record SetsAside (d : List ℕ) (declared : DeclarationOf) : Type 0 where
  pub declaration : IsDeclarationWithin Aside d declared
  pub aside : declared.settings.unjudged ≢ Refused

-- the bytes are this declaration, and by it what isn't judged ends the audit, and clients see every object
pub record SetsNothingAside (d : List ℕ) (declared : DeclarationOf) : Type 0 where
  pub declaration : IsDeclarationWithin Aside d declared
  pub aside : declared.settings.unjudged ≡ Refused
  pub seen : declared.settings.visibility ≡ Everyone

-- by it that ends the audit too, and a server may hide the objects of other clients, or has to
pub record HidesAlone (d : List ℕ) (declared : DeclarationOf) : Type 0 where
  pub declaration : IsDeclarationWithin Aside d declared
  pub aside : declared.settings.unjudged ≡ Refused
  pub hides : declared.settings.visibility ≢ Everyone

-- The bytes are a transcript, such a declaration and a witness, and from some world that the declaration describes a run, one call at a time in the
-- witness's order, gives every recorded response that is judged; and so many items are.
pub record AreAcceptedBeside (t d w : List ℕ) (tally : TallyOf) : Type 0 where
  pub marks : List MarkOf
  pub transcript : IsTranscript t marks
  pub declared : DeclarationOf
  pub declaration : SetsAside d declared
  pub turns : List TurnOf
  pub witness : IsWitness w turns
  pub accepted : IsAccepted marks declared turns tally

-- the bytes are such records, and the verdict is right for these
pub record AreJudgedBeside (t d w : List ℕ) (verdict : Verdict) : Type 0 where
  pub marks : List MarkOf
  pub transcript : IsTranscript t marks
  pub declared : DeclarationOf
  pub declaration : SetsAside d declared
  pub turns : List TurnOf
  pub witness : IsWitness w turns
  pub told : TellsVerdict marks declared turns verdict

-- they are such records, of which the check tells this fault
pub record AreUnjudgedBeside (t d w : List ℕ) (fault : Fault) : Type 0 where
  pub marks : List MarkOf
  pub transcript : IsTranscript t marks
  pub declared : DeclarationOf
  pub declaration : SetsAside d declared
  pub turns : List TurnOf
  pub witness : IsWitness w turns
  pub told : Checks marks declared turns (Err fault)

-- The bytes are a transcript, a declaration that hides alone, and a witness; no message is outside, and from some world that the declaration describes a run,
-- one call at a time in the witness's order, gives every recorded response.
pub record AreAcceptedInSight (t d w : List ℕ) : Type 0 where
  pub marks : List MarkOf
  pub transcript : IsTranscript t marks
  pub declared : DeclarationOf
  pub declaration : HidesAlone d declared
  pub turns : List TurnOf
  pub witness : IsWitness w turns
  pub accepted : IsAcceptedInSight marks declared turns

-- the bytes are such records, and the verdict is right for these
pub record AreJudgedInSight (t d w : List ℕ) (verdict : Verdict) : Type 0 where
  pub marks : List MarkOf
  pub transcript : IsTranscript t marks
  pub declared : DeclarationOf
  pub declaration : HidesAlone d declared
  pub turns : List TurnOf
  pub witness : IsWitness w turns
  pub told : TellsInSight marks declared turns verdict

-- they are such records, of which the check tells this fault: the first message that is outside, or the fault of the witness where none is
pub record AreUnjudgedInSight (t d w : List ℕ) (fault : CheckFault) : Type 0 where
  pub marks : List MarkOf
  pub transcript : IsTranscript t marks
  pub declared : DeclarationOf
  pub declaration : HidesAlone d declared
  pub turns : List TurnOf
  pub witness : IsWitness w turns
  pub told : ChecksInSight marks declared turns (Err fault)

-- the fault of a check, as one of any check
abbrev pub fault_of : Fault → CheckFault
fault_of (Witness f) = check.Witness f
fault_of Memory = check.Memory

-- what a check tells of records, where what isn't judged is set aside
abbrev pub ChecksAside : List MarkOf → DeclarationOf → List TurnOf → Result Verdict CheckFault → Type 0
ChecksAside marks declared turns (Ok verdict) = TellsVerdict marks declared turns verdict
ChecksAside marks declared turns (Err fault) = (f : Fault) × (fault ≡ fault_of f) × Checks marks declared turns (Err f)

-- by what becomes of what isn't judged
abbrev pub ChecksUnder : Unjudged → List MarkOf → DeclarationOf → List TurnOf → Result Verdict CheckFault → Type 0
ChecksUnder Refused marks declared turns result = ChecksInSight marks declared turns result
ChecksUnder SetAside marks declared turns result = ChecksAside marks declared turns result
ChecksUnder Unknown marks declared turns result = ChecksAside marks declared turns result

-- The first fault of the transcript, or else that of the declaration. The truths say which inputs failed.
abbrev pub FailsFirst : List ℕ → List ℕ → Bool → Bool → AuditFault → Type 0
FailsFirst t d failed_t failed_d (audit.Transcript f) = Tells TranscriptFault IsTranscriptUpTo t failed_t f
FailsFirst t d failed_t failed_d (audit.Declaration f) = AreATranscript t × Tells (DeclarationFaultWithin Aside) (IsDeclarationUpToWithin Aside) d failed_d f
FailsFirst t d failed_t failed_d (audit.Witness f) = ⊥
FailsFirst t d failed_t failed_d (audit.Check f) = ⊥

-- Behind such a declaration: the first fault of the transcript, or else that of the witness, or that of the check.
abbrev pub Fails : List ℕ → List ℕ → List ℕ → Bool → Bool → AuditFault → Type 0
Fails t d w failed_t failed_w (audit.Transcript f) = Tells TranscriptFault IsTranscriptUpTo t failed_t f
Fails t d w failed_t failed_w (audit.Declaration f) = ⊥
Fails t d w failed_t failed_w (audit.Witness f) = AreATranscript t × Tells WitnessFault IsWitnessUpTo w failed_w f
Fails t d w failed_t failed_w (audit.Check f) = (fault : Fault) × (f ≡ fault_of fault) × AreUnjudgedBeside t d w fault

-- The same behind a declaration that hides alone.
abbrev pub FailsInSight : List ℕ → List ℕ → List ℕ → Bool → Bool → AuditFault → Type 0
FailsInSight t d w failed_t failed_w (audit.Transcript f) = Tells TranscriptFault IsTranscriptUpTo t failed_t f
FailsInSight t d w failed_t failed_w (audit.Declaration f) = ⊥
FailsInSight t d w failed_t failed_w (audit.Witness f) = AreATranscript t × Tells WitnessFault IsWitnessUpTo w failed_w f
FailsInSight t d w failed_t failed_w (audit.Check f) = AreUnjudgedInSight t d w f

-- what an audit of these three files answers
abbrev pub Audits : List ℕ → List ℕ → List ℕ → Bool → Bool → Result Verdict AuditFault → Type 0
Audits t d w failed_t failed_w (Ok verdict) = AreJudgedBeside t d w verdict
Audits t d w failed_t failed_w (Err fault) = Fails t d w failed_t failed_w fault

abbrev pub AuditsInSight : List ℕ → List ℕ → List ℕ → Bool → Bool → Result Verdict AuditFault → Type 0
AuditsInSight t d w failed_t failed_w (Ok verdict) = AreJudgedInSight t d w verdict
AuditsInSight t d w failed_t failed_w (Err fault) = FailsInSight t d w failed_t failed_w fault

-- the verdict alone
abbrev pub verdict_alone : Result Told AuditFault → Result Verdict AuditFault
verdict_alone (Ok told) = Ok told.verdict
verdict_alone (Err fault) = Err fault
