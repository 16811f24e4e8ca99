-- Which case of judging an item is (profile).
use Rattle.std.specs.Prelude.{ℕ, Bool, true, false, ◌&&◌, ◌==◌, if◌then◌else◌, List, Option, Some, None}
use Rattle.std.specs.List.{list_any}
use Rattle.kmipa_msgs.specs.Messages.{RulesOf, RowOf, AskOf, AnswerOf}
use Rattle.kmipa_msgs.specs.declared.response.Status.{Status}
use Rattle.kmipa_msgs.specs.declared.response.Status.TheVariants.{Success, Failed, Undone}
use Rattle.kmipa_msgs.specs.declared.rules.Cause.{Cause}
use Rattle.kmipa_msgs.specs.declared.rules.Cause.TheVariants.{WrongState, NotFound, TakenName}
use Rattle.kmipa_store.specs.Aside.{is_any_aside}
use Rattle.kmipa_ops.specs.Row.{SubjectOf, on_object, on_names, on_nothing}
use Rattle.kmipa_ops.specs.Rows.{subject_asked}
use Rattle.kmipa_passed.specs.Leaving.{HeldOf, empty, holds, unknown}
use Rattle.kmipa_aside.specs.Aims.{aim}
use Rattle.kmipa_aside.specs.Standing.{StandOf, is_aside}
use Rattle.kmipa_aside.specs.declared.case.Case.{Case}
use Rattle.kmipa_aside.specs.declared.case.Case.TheVariants.{Over, AboutAside, AboutUnknown, NameMayBeTaken, AsEver}

abbrev pub is_failed : Status → Bool
is_failed Success = false
is_failed Failed = true
is_failed Undone = false

abbrev pub is_for_names : SubjectOf → Bool
is_for_names (on_object id act unjudged) = false
is_for_names (on_names names) = true
is_for_names on_nothing = false

abbrev pub is_taken_name : Cause → Bool
is_taken_name WrongState = false
is_taken_name NotFound = false
is_taken_name TakenName = true

-- a row says of this reason that a name is taken
abbrev pub says_taken : List RowOf → Option ℕ → Bool
says_taken rows None = false
says_taken rows (Some reason) = list_any (λ (row : RowOf). (row.reason == reason) && is_taken_name row.cause) rows

-- a new object was refused for a name, and something is set aside that may have it
abbrev pub may_be_taken : RulesOf → StandOf → AskOf → AnswerOf → Bool
may_be_taken rules s ask answer =
    is_failed answer.status && is_for_names (subject_asked ask.asked) && is_any_aside s.aside && says_taken rules.rows answer.reason

abbrev pub case_of : RulesOf → StandOf → AskOf → AnswerOf → HeldOf → Case
case_of rules s ask answer (holds id) = if is_aside s id then AboutAside else AsEver
case_of rules s ask answer empty = if may_be_taken rules s ask answer then NameMayBeTaken else AsEver
case_of rules s ask answer unknown = AboutUnknown

abbrev pub case : RulesOf → StandOf → HeldOf → AskOf → AnswerOf → Case
case rules s before ask answer = if s.aside.over then Over else case_of rules s ask answer (aim before ask answer)
