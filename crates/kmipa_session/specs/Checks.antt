-- What a check says of three files, of what their reads gave.
use Rattle.std.specs.Prelude.{◌≡◌, ◌⊎◌, ℕ, ℤ, List, [], Bool, IsTrue, Option, Result}
use Rattle.kmipa_ttlv.specs.Input.{came_of, is_ended, is_failed, IsFileOf}
use Rattle.kmipa_ttlv.specs.declared.input.Input.{Input}
use Rattle.kmipa_check.specs.declared.auditing.AuditFault.{AuditFault}
use Rattle.kmipa_jobs.specs.Statuses.{IsSilent}
use Rattle.kmipa_jobs.specs.declared.status.Status.{Status}
use Rattle.kmipa_jobs.specs.declared.status.Status.TheVariants as status
use Rattle.kmipa_beside.specs.Checks.{ChecksAny}
use Rattle.kmipa_judge.specs.Checks.{IsAcceptedAny, TellsCheck}
use Rattle.kmipa_judge.specs.declared.form.CheckForm.{CheckForm}
use Rattle.kmipa_judge.specs.declared.form.CheckForm.TheVariants as told
use Rattle.kmipa_segments.specs.Leaving.{ChecksSegment, LeadsAsAsked, PrintsSegment}
use Rattle.kmipa_segments.specs.declared.leaving.Segment.{Segment}
use Rattle.kmipa_jobs.specs.declared.job.Form.{Form}
use Rattle.kmipa_jobs.specs.declared.job.Form.TheVariants as form

-- What is told of them in this form; and status 0 is answered only where the bytes that came, to the ends that were seen, are accepted.
pub record ChecksTold {R : Type 0} (f : CheckForm) (t d w : Input R) (said : Status) (lines : List ℕ) : Type 0 where
  pub tells : TellsCheck f t d w said lines
  pub accepts : said ≡ status.Done → IsAcceptedAny t d w

-- Behind those of a no stands what it means.
abbrev pub ChecksExplained : {R : Type 0} → Input R → Input R → Input R → Status → List ℕ → Type 0
ChecksExplained t d w said lines = ChecksTold told.Explained t d w said lines

-- One object in place of the lines; of a torn transcript so many bytes are its own.
abbrev pub ChecksInJson : {R : Type 0} → Option ℕ → Input R → Input R → Input R → Status → List ℕ → Type 0
ChecksInJson torn t d w said lines = ChecksTold (told.Json torn) t d w said lines

-- One object, and with it what a no means.
abbrev pub ChecksExplainedInJson : {R : Type 0} → Option ℕ → Input R → Input R → Input R → Status → List ℕ → Type 0
ChecksExplainedInJson torn t d w said lines = ChecksTold (told.ExplainedJson torn) t d w said lines

-- what a check of whole files says in this form
abbrev pub Checks : {R : Type 0} → Form → Option ℕ → Input R → Input R → Input R → Status → List ℕ → Type 0
Checks form.Lines torn t d w said lines = ChecksAny t d w said lines
Checks form.Explained torn t d w said lines = ChecksExplained t d w said lines
Checks form.Json torn t d w said lines = ChecksInJson torn t d w said lines
Checks form.ExplainedJson torn t d w said lines = ChecksExplainedInJson torn t d w said lines

-- What a check of a segment says from a moment on, and makes of what it leaves where that is asked for.
pub record ChecksInSegment {R : Type 0} (leaves : Bool) (since : Option ℤ) (t d w : Input R) (said : Status) (lines made : List ℕ) : Type 0 where
  pub prints : (outcome : Result Segment AuditFault)
      × ((a b c : List ℕ) → IsFileOf a t → IsFileOf b d → IsFileOf c w → ChecksSegment a b c (is_failed t) (is_failed d) (is_failed w) since outcome)
      × (PrintsSegment leaves outcome said lines made ⊎ (IsSilent said lines × (made ≡ [])))
  -- status 0 is answered only where the bytes that came are accepted from the moment on, and what they lead to is made where it is asked for
  pub leads : said ≡ status.Done → LeadsAsAsked leaves (came_of t) (came_of d) (came_of w) since made
      × IsTrue (is_ended t) × IsTrue (is_ended d) × IsTrue (is_ended w)
