-- The computing form of a batch's shape: what is looked at, place by place.
use Rattle.std.specs.Prelude.{ℕ, Bool, true, false, not, ◌&&◌, if◌then◌else◌, nat_lt, List, Option, Some, None, is_none, is_some}
use Rattle.kmipa_msgs.specs.declared.request.BatchOption.{BatchOption}
use Rattle.kmipa_msgs.specs.declared.request.BatchOption.TheVariants.{Continue, Stop, Undo}
use Rattle.kmipa_msgs.specs.declared.response.Status.{Status}
use Rattle.kmipa_msgs.specs.declared.response.Status.TheVariants.{Success, Failed, Undone}
use Rattle.kmipa_msgs.specs.Messages.{AnswerOf}
use Rattle.kmipa_batch.specs.Shapes.{is_failed, IsFirstFailed, NoneFailed}

-- the place of the first failed answer, where one failed
abbrev pub FailedAt : List AnswerOf → Option ℕ → Type 0
FailedAt answers None = NoneFailed answers
FailedAt answers (Some place) = IsFirstFailed answers place

-- whether a place is after the first failed answer
abbrev pub is_after : Option ℕ → ℕ → Bool
is_after None place = false
is_after (Some failed) place = nat_lt failed place

abbrev pub is_undone : Status → Bool
is_undone Success = false
is_undone Failed = false
is_undone Undone = true

abbrev pub is_success : Status → Bool
is_success Success = true
is_success Failed = false
is_success Undone = false

-- whether an answer of this status may stand at a place of a batch under Undo
abbrev pub fits_undo : Option ℕ → ℕ → Status → Bool
fits_undo None place status = is_success status
fits_undo (Some failed) place status = if nat_lt place failed then is_undone status else not (nat_lt failed place)

-- whether an answer of this status may stand at a place that the request has
abbrev pub fits_answer : BatchOption → Option ℕ → ℕ → Status → Bool
fits_answer Continue failed place status = not (is_undone status)
fits_answer Stop failed place status = if is_after failed place then false else not (is_undone status)
fits_answer Undo failed place status = fits_undo failed place status

-- whether a place that the request has may be without an answer
abbrev pub fits_none : BatchOption → Option ℕ → ℕ → Bool
fits_none Continue failed place = false
fits_none Stop failed place = is_after failed place
fits_none Undo failed place = is_after failed place

-- whether a place may have this status, or none
abbrev pub fits : BatchOption → Option ℕ → ℕ → Bool → Option Status → Bool
fits option failed place true (Some status) = fits_answer option failed place status
fits option failed place false (Some status) = false
fits option failed place true None = fits_none option failed place
fits option failed place false None = true

-- whether a batch goes back: under Undo with a failure
abbrev pub undoes : BatchOption → Option ℕ → Bool
undoes Continue failed = false
undoes Stop failed = false
undoes Undo failed = is_some failed

-- whether an answer, where it is the only one, refuses the whole message
abbrev pub is_refusal : AnswerOf → Bool
is_refusal answer = is_failed answer.status && is_none answer.operation
