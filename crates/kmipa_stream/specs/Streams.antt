-- What an audit of a transcript as it comes answers.
use Rattle.std.specs.Prelude.{◌≡◌, ℕ, ℤ, IsTrue, List, Option, Some, Result, Ok, Err}
use Rattle.kmipa_ttlv.specs.Input.{came_of, is_ended}
use Rattle.kmipa_ttlv.specs.declared.input.Input.{Input}
use Rattle.kmipa_record.specs.Marks.{MarkOf}
use Rattle.kmipa_record.specs.Transcripts.{IsTranscript}
use Rattle.kmipa_record.specs.Witnesses.{TurnOf, IsWitness}
use Rattle.kmipa_check.specs.Stamps.{IsAnsweredAt}
use Rattle.kmipa_check.specs.declared.auditing.AuditFault.{AuditFault}
use Rattle.kmipa_check.specs.declared.verdict.Verdict.{Verdict}
use Rattle.kmipa_check.specs.declared.verdict.Verdict.TheVariants.{Yes, No}
use Rattle.kmipa_stream.specs.declared.judged.Judged.{Judged}

-- the verdict alone
abbrev pub verdict_alone : Result Judged AuditFault → Result Verdict AuditFault
verdict_alone (Ok judged) = Ok judged.verdict
verdict_alone (Err fault) = Err fault

-- the bytes are a transcript and a witness, and the call of this number was answered then
pub record WasAnsweredAt (t w : List ℕ) (call stamp : ℤ) : Type 0 where
  pub marks : List MarkOf
  pub transcript : IsTranscript t marks
  pub turns : List TurnOf
  pub witness : IsWitness w turns
  pub answered : IsAnsweredAt marks turns call stamp

-- a no comes with the date at which its call was answered
abbrev pub TellsDate : List ℕ → List ℕ → Verdict → Option ℤ → Type 0
TellsDate t w Yes stamp = Unit {0}
TellsDate t w (No refused) stamp = (date : ℤ) × (stamp ≡ Some date) × WasAnsweredAt t w refused.call date

-- a transcript came, to the end that was seen
pub record IsPassed {R : Type 0} (i : Input R) : Type 0 where
  pub marks : List MarkOf
  pub transcript : IsTranscript (came_of i) marks
  pub ended : IsTrue (is_ended i)
