-- A failed answer whose reason has no cause: what may be behind the reason, and the object that is meant.
use Rattle.std.specs.Prelude.{◌≡◌, ◌⊎◌, ◌==◌, ℕ, ℤ, List, map, filter, Option, Some, None}
use Rattle.kmipa_object.specs.Allowances.{allows}
use Rattle.kmipa_object.specs.Life.{state}
use Rattle.kmipa_msgs.specs.Messages.{RowOf, AskedOf, AnswerOf}
use Rattle.kmipa_msgs.specs.declared.response.Status.TheVariants.{Failed}
use Rattle.kmipa_msgs.specs.declared.rules.Cause.{Cause as FailureCause}
use Rattle.kmipa_record.specs.Declarations.{DeclarationOf}
use Rattle.kmipa_check.specs.Runs.{rules_declared}
use Rattle.kmipa_explain.specs.Meant.{act_asked, dates_held, dates_told, has_line}
use Rattle.kmipa_explain.specs.declared.explanation.Cause.{Cause}
use Rattle.kmipa_explain.specs.declared.explanation.Cause.TheVariants as told
use Rattle.kmipa_explain.specs.declared.held.ReasonHeld.{ReasonHeld}
use Rattle.kmipa_explain.specs.declared.held.StateHeld.{StateHeld}

-- the answer is that of a failure, and gives this reason
pub record FailsFor (answer : AnswerOf) (number : ℕ) : Type 0 where
  pub failed : answer.status ≡ Failed
  pub reason : answer.reason ≡ Some number

-- the causes of the rows that have a reason, in the order of the rows
abbrev pub causes_of : List RowOf → ℕ → List FailureCause
causes_of rows reason = map (λ (row : RowOf). row.cause) (filter (λ (row : RowOf). row.reason == reason) rows)

-- the object that is meant, as an operation on it is judged: its row in the table of states, its state at the moment, its dates, and what the
-- server's rules say of that, by the table or by a line of their own
pub record IsJudgedBy (held : DeclarationOf) (meant : Option (List ℕ)) (t : ℤ) (asked : AskedOf) (s : StateHeld) : Type 0 where
  pub dates : dates_held held meant ≡ Some (dates_told s.dates)
  pub act : act_asked asked ≡ Some s.act
  pub state : s.state ≡ state (dates_told s.dates) t
  pub allow : s.allow ≡ allows (rules_declared held).allow_lines s.act s.state
  pub by_line : s.by_line ≡ has_line (rules_declared held).allow_lines s.act s.state

-- it, unless the operation isn't on an object, or no object is there
abbrev pub TellsObject : DeclarationOf → Option (List ℕ) → ℤ → AskedOf → Option StateHeld → Type 0
TellsObject held meant t asked None = (act_asked asked ≡ None) ⊎ (dates_held held meant ≡ None)
TellsObject held meant t asked (Some s) = IsJudgedBy held meant t asked s

-- the reason of the answer, what the server's rules say may be behind it, and the object
pub record IsReason (held : DeclarationOf) (meant : Option (List ℕ)) (t : ℤ) (asked : AskedOf) (answer : AnswerOf) (r : ReasonHeld) : Type 0 where
  pub fails : FailsFor answer r.reason
  pub causes : r.causes.items ≡ causes_of (rules_declared held).rows r.reason
  pub object : TellsObject held meant t asked r.object

abbrev pub TellsReason : DeclarationOf → Option (List ℕ) → ℤ → AskedOf → AnswerOf → Cause → Type 0
TellsReason held meant t asked answer (told.Reason r) = IsReason held meant t asked answer r
TellsReason held meant t asked answer other = ⊥
