-- What an object has whatever it tells, and what it tells of a fault.
use Rattle.std.proofs.Common.{◌≡◌, ◌∙◌, List, [], ℕ, Option, sym, subst}
use Rattle.serde_json.specs.Data.{Members}
use Rattle.kmipa_ttlv.specs.Input.{came_of}
use Rattle.kmipa_ttlv.specs.declared.input.Input.{Input}
use Rattle.kmipa_check.specs.declared.auditing.AuditFault.{AuditFault}
use Rattle.kmipa_jobs.specs.declared.status.Status.{Status}
use Rattle.kmipa_telling.specs.FaultsTold.{TellsFaultTold, bare_fault}
use Rattle.kmipa_telling.specs.Telling.{TellsFault}
use Rattle.kmipa_telling.specs.declared.meaning.FaultTold.{FaultTold}
use Rattle.kmipa_judge.specs.Forms.{IsHeld}
use Rattle.kmipa_judge.specs.declared.form.JudgeForm.{JudgeForm}
use Rattle.kmipa_judge.specs.declared.form.JudgeForm.TheVariants.{Lines, Object}

-- nothing came of a file, and nothing is held of it
pub held_none : {R : Type 0} (form : JudgeForm) (held : List ℕ) (i : Input R) → held ≡ [] → came_of i ≡ [] → IsHeld form held i
held_none Lines held i none came = tt
held_none (Object torn) held i none came = none ∙ sym came

-- what is held of a file of which an object is to tell
pub held_told : {R : Type 0} (form : JudgeForm) (torn : Option ℕ) (held : List ℕ) (i : Input R) → form ≡ Object torn → IsHeld form held i → held ≡ came_of i
held_told form torn held i is so =
    let P : JudgeForm → Type 0 = λ f. IsHeld f held i in
    subst P is so

-- what is told of a fault of which its line is all
pub bare_told : (fault : AuditFault) (told : FaultTold) (said : Status) (before after : Members) → told ≡ bare_fault fault → TellsFaultTold told said before after
    → TellsFault fault said before after
bare_told fault told said before after is tells =
    let P : FaultTold → Type 0 = λ f. TellsFaultTold f said before after in
    let bare = subst P is tells in
    let Q : Members → Type 0 = λ m. TellsFault fault said before m in
    subst Q (sym bare.2) bare.1
