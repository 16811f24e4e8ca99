-- WHAT A CHECK SAYS OF THREE FILES, whatever their declaration (profile).
use Rattle.std.specs.Prelude.{◌≡◌, ◌↔◌, ◌⊎◌, ℕ, List, IsTrue, Result}
use Rattle.kmipa_ttlv.specs.Input.{came_of, is_ended, is_failed, IsFileOf}
use Rattle.kmipa_ttlv.specs.declared.input.Input.{Input}
use Rattle.kmipa_record.specs.Declarations.{DeclarationOf}
use Rattle.kmipa_check.specs.Audits.{AreAccepted, AuditsAs}
use Rattle.kmipa_check.specs.declared.auditing.AuditFault.{AuditFault}
use Rattle.kmipa_check.specs.declared.verdict.Verdict as ever
use Rattle.kmipa_runs.specs.Lines as plain
use Rattle.kmipa_jobs.specs.Statuses.{IsSilent}
use Rattle.kmipa_jobs.specs.declared.status.Status.{Status}
use Rattle.kmipa_jobs.specs.declared.status.Status.TheVariants as status
use Rattle.kmipa_trail.specs.Tallies.{TallyOf}
use Rattle.kmipa_trail.specs.declared.verdict.Verdict.{Verdict}
use Rattle.kmipa_beside.specs.Audits.{AreAcceptedBeside, AreAcceptedInSight, Audits, AuditsInSight, FailsFirst, HidesAlone, SetsAside, SetsNothingAside}
use Rattle.kmipa_beside.specs.Lines.{PrintsOutcome, PrintsOutcomeInSight}

-- the bytes that came, to the ends that were seen, are all there
abbrev pub AreEnded : {R : Type 0} → Input R → Input R → Input R → Type 0
AreEnded t d w = IsTrue (is_ended t) × IsTrue (is_ended d) × IsTrue (is_ended w)

-- Where nothing is set aside, and clients see every object: the lines of the verdict, or of the fault.
pub record ChecksAsEver {R : Type 0} (t d w : Input R) (said : Status) (lines : List ℕ) : Type 0 where
  -- they tell what an audit answers of whatever the files may be, or memory ran out
  pub prints : (outcome : Result ever.Verdict AuditFault)
      × ((a b c : List ℕ) → IsFileOf a t → IsFileOf b d → IsFileOf c w → AuditsAs a b c (is_failed t) (is_failed d) (is_failed w) outcome)
      × (plain.PrintsOutcome (came_of t) (came_of d) (came_of w) outcome said lines ⊎ IsSilent said lines)
  -- `yes` is printed with status 0, and there alone
  pub fits : plain.FitsStatus said lines
  pub yes : (said ≡ status.Done) ↔ plain.AreYesLines lines
  pub accepts : said ≡ status.Done → AreAccepted (came_of t) (came_of d) (came_of w) × AreEnded t d w
  -- and where the files may be accepted, unless one fails or memory runs out
  pub accepted : (a b c : List ℕ) → IsFileOf a t → IsFileOf b d → IsFileOf c w → plain.SaysYes (is_failed t) (is_failed d) (is_failed w) said lines a b c
  -- a no has its date
  pub dated : said ≡ status.No → plain.IsDated lines (came_of t) (came_of d) (came_of w)

-- Where what isn't judged is set aside.
pub record ChecksBeside {R : Type 0} (t d w : Input R) (said : Status) (lines : List ℕ) : Type 0 where
  pub prints : (outcome : Result Verdict AuditFault)
      × ((a b c : List ℕ) → IsFileOf a t → IsFileOf b d → IsFileOf c w → Audits a b c (is_failed t) (is_failed w) outcome)
      × (PrintsOutcome outcome said lines ⊎ IsSilent said lines)
  -- status 0 is answered only where they are accepted, and nothing is set aside by the witness alone
  pub accepts : said ≡ status.Done
      → ((tally : TallyOf) × (tally.excepted ≡ 0) × AreAcceptedBeside (came_of t) (came_of d) (came_of w) tally) × AreEnded t d w

-- Where what isn't judged ends the audit, and a server may hide the objects of other clients, or has to.
pub record ChecksSighted {R : Type 0} (t d w : Input R) (said : Status) (lines : List ℕ) : Type 0 where
  pub prints : (outcome : Result Verdict AuditFault)
      × ((a b c : List ℕ) → IsFileOf a t → IsFileOf b d → IsFileOf c w → AuditsInSight a b c (is_failed t) (is_failed w) outcome)
      × (PrintsOutcomeInSight outcome said lines ⊎ IsSilent said lines)
  -- status 0 is answered only where they are accepted
  pub accepts : said ≡ status.Done → AreAcceptedInSight (came_of t) (came_of d) (came_of w) × AreEnded t d w

-- The declaration is none: the fault of the first file is told.
pub record ChecksNothing {R : Type 0} (t d : Input R) (said : Status) (lines : List ℕ) : Type 0 where
  pub fault : AuditFault
  pub fails : (a b : List ℕ) → IsFileOf a t → IsFileOf b d → FailsFirst a b (is_failed t) (is_failed d) fault
  pub prints : plain.PrintsFault fault said lines ⊎ IsSilent said lines
  pub unaccepted : said ≡ status.Done → ⊥

-- THE DEFINITION
pub data ChecksAny {R : Type 0} (t d w : Input R) (said : Status) (lines : List ℕ) : Type 0 where
  as_ever : (declared : DeclarationOf) → SetsNothingAside (came_of d) declared → ChecksAsEver t d w said lines → ChecksAny t d w said lines
  in_sight : (declared : DeclarationOf) → HidesAlone (came_of d) declared → ChecksSighted t d w said lines → ChecksAny t d w said lines
  beside : (declared : DeclarationOf) → SetsAside (came_of d) declared → ChecksBeside t d w said lines → ChecksAny t d w said lines
  undeclared : ChecksNothing t d said lines → ChecksAny t d w said lines
