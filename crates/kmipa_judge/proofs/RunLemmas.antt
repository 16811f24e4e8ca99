-- From what was judged and printed to what is told of files.
use Rattle.std.proofs.Common.{◌≡◌, ◌⊎◌, inl, inr, ℕ, List, [], ◌++◌, Bool, true, false, Option, Some, None, refl, sym, ap, subst, ◌∙◌, arith}
use Rattle.serde_json.specs.Data.{Members}
use Rattle.kmipa_ttlv.specs.declared.input.Input.{Input}
use Rattle.kmipa_record.specs.Declarations.{AreDeclared, DeclarationOf}
use Rattle.kmipa_record.specs.Marks.{MarkOf}
use Rattle.kmipa_record.specs.declared.head.Head.{Head}
use Rattle.kmipa_record.specs.Writing.{Appends}
use Rattle.kmipa_check.specs.declared.auditing.AuditFault.{AuditFault}
use Rattle.kmipa_findings.specs.declared.finding.Outcome.{Outcome}
use Rattle.kmipa_findings.specs.declared.finding.Outcome.TheVariants as outcome
use Rattle.kmipa_runs.specs.Lines.{fault_status}
use Rattle.kmipa_runs.specs.Knowing.{KnowsSeals}
use Rattle.kmipa_telling.proofs.SealLemmas.{fault_knows, silent_knows}
use Rattle.kmipa_jobs.specs.Statuses.{IsSilent}
use Rattle.kmipa_jobs.specs.declared.status.Status.{Status}
use Rattle.kmipa_msgs.specs.declared.rules.Visibility.{Visibility}
use Rattle.kmipa_judge.specs.Declaring.{is_presumed, judging_by, nothing_known}
use Rattle.kmipa_judge.specs.Rules.{AreExplaining}
use Rattle.kmipa_judge.specs.Unexplained.{ComesTo}
use Rattle.kmipa_judge.specs.Clients.{AreOfOne}
use Rattle.kmipa_judge.specs.Opinions.{Counts, IsFair}
use Rattle.kmipa_judge.specs.Forms.{ahead}
use Rattle.kmipa_judge.specs.Runs.{Fails, IsUnread, JudgesFiles, unread, unsaid, JudgesRecords, tells, no_memory, Makes, MakesNothing, Prints, PrintsFaultSo}
use Rattle.kmipa_judge.specs.declared.form.JudgeForm.{JudgeForm}
use Rattle.kmipa_judge.specs.declared.rule.Rule.{Rule}

-- the objects are the same
pub judging_may : (d : DeclarationOf) → AreDeclared d → AreDeclared (judging_by d)
judging_may d may = record { each = may.each; distinct = may.distinct }

pub nothing_may : (v : Visibility) → AreDeclared (nothing_known v)
nothing_may v = record { each = λ k d less. absurd (omega (arith, less)); distinct = λ i j d before less. absurd (omega (arith, less)) }

-- what was appended to nothing
pub from_nothing : (Is : List ℕ → Type 0) (old new : List ℕ) → old ≡ [] → Appends Is old new → Is new
from_nothing Is old new none a = subst Is (sym (a.after ∙ ap (λ (l : List ℕ). l ++ a.appended) none)) a.is

pub told_records : (seconds : ℕ) (before : Option Members) (assumed : Bool) (marks : List MarkOf) (declared : DeclarationOf) (outcome : Outcome) (rules : List Rule) (said : Status)
    (lines witness declaration : List ℕ) → ComesTo seconds marks declared outcome → IsFair (is_presumed assumed declared.settings.visibility) marks outcome → AreExplaining assumed marks declared outcome rules
    → (Prints before assumed marks declared outcome rules said lines × Makes declared outcome witness declaration) ⊎ (IsSilent said lines × MakesNothing witness declaration)
    → JudgesRecords seconds before assumed marks declared said lines witness declaration
told_records seconds before assumed marks declared outcome rules said lines witness declaration judges fair explaining (inl p) =
    tells (record { outcome = outcome; judges = judges; fair = fair; rules = rules; explaining = explaining; prints = p.0; makes = p.1 })
told_records seconds before assumed marks declared outcome rules said lines witness declaration judges fair explaining (inr p) = no_memory p.0 p.1

-- what is opened is what is ahead
pub records_opened : {R : Type 0} (seconds : ℕ) (form : JudgeForm) (known : Option Head) (t : Input R) (d : Option (Input R)) (before : Option Members) (assumed : Bool)
    (marks : List MarkOf) (declared : DeclarationOf) (said : Status) (lines witness declaration : List ℕ) → before ≡ ahead form known t d
    → JudgesRecords seconds before assumed marks declared said lines witness declaration
    → JudgesRecords seconds (ahead form known t d) assumed marks declared said lines witness declaration
records_opened seconds form known t d before assumed marks declared said lines witness declaration is told =
    let P : Option Members → Type 0 = λ b. JudgesRecords seconds b assumed marks declared said lines witness declaration in
    subst P is told

-- what is told of a fault behind what is opened
pub unread_opened : {R : Type 0} (form : JudgeForm) (t : Input R) (d : Option (Input R)) (before : Option Members) (fault : AuditFault) (said : Status) (lines : List ℕ)
    → before ≡ ahead form None t d → PrintsFaultSo before fault said lines ⊎ IsSilent said lines → IsUnread form t d fault said lines
unread_opened form t d before fault said lines is told =
    let P : Option Members → Type 0 = λ b. PrintsFaultSo b fault said lines ⊎ IsSilent said lines in
    subst P is told

pub told_fault : {R : Type 0} (seconds : ℕ) (form : JudgeForm) (t : Input R) (d : Option (Input R)) (fault : AuditFault) (said : Status) (lines witness declaration : List ℕ)
    → Fails t d fault → IsUnread form t d fault said lines → MakesNothing witness declaration → JudgesFiles seconds form t d said lines witness declaration
told_fault seconds form t d fault said lines witness declaration fails (inl p) nothing = unread fault fails p nothing
told_fault seconds form t d fault said lines witness declaration fails (inr s) nothing = unsaid s nothing

-- ---- which status it is

pub fault_said : (before : Option Members) (fault : AuditFault) (said : Status) (lines : List ℕ) → PrintsFaultSo before fault said lines → said ≡ fault_status fault
fault_said None fault said lines told = told.0
fault_said (Some before) fault said lines told = told.1.0

-- at a fault nothing has to be known of seals
pub unread_knows : {R : Type 0} (form : JudgeForm) (t : Input R) (d : Option (Input R)) (fault : AuditFault) (said : Status) (lines bytes : List ℕ) (head : Option Head)
    → IsUnread form t d fault said lines → KnowsSeals bytes said head
unread_knows form t d fault said lines bytes head (inl p) = fault_knows bytes fault said head (fault_said (ahead form None t d) fault said lines p)
unread_knows form t d fault said lines bytes head (inr s) = silent_knows bytes said lines head s

-- ---- where it counts that no order explains every answer

pub fair_where : (presumed : Bool) (marks : List MarkOf) (counts : Bool) (o : Outcome) → Counts presumed marks counts → counts ≡ true → IsFair presumed marks o
fair_where presumed marks counts (outcome.Judged j) sure e = λ decided is. elim (sure.0 e) [
  | inl given ↦ let clash : true ≡ false = sym is ∙ given in absurd cc
  | inr one ↦ one
]
fair_where presumed marks counts (outcome.Undecided u) sure e = tt
