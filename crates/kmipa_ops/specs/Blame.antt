-- Which of the numbered reasons speak against an answer: each is a condition in its own words, over the ledger's meaning, in which the
-- known bytes are those of its secrets (profile). A condition that speaks of the object holds only where there is one.
use Rattle.std.specs.Prelude.{◌≡◌, ℕ, ℤ, Bool, false, List, Option, None, ◌||◌, ◌==◌, not, bytes_eq, find}
use Rattle.kmipa_store.specs.Ledger.{Meaning, cards_of}
use Rattle.kmipa_msgs.specs.Messages.{RulesOf, AskedOf, AskOf, operation_asked, PayloadOf, AnswerOf}
use Rattle.kmipa_msgs.specs.Operations.{operation_number}
use Rattle.kmipa_msgs.specs.declared.response.Status.{Status}
use Rattle.kmipa_msgs.specs.declared.response.Status.TheVariants.{Success, Failed, Undone}
use Rattle.kmipa_ops.specs.Founded.{founded}
use Rattle.kmipa_ops.specs.Objects.{is_other, clash}
use Rattle.kmipa_ops.specs.Judging.{row_speaks}
use Rattle.kmipa_ops.specs.Rows.{asked_judging, asked_row}
use Rattle.kmipa_ops.specs.Whys.{whys}
use Rattle.kmipa_ops.specs.declared.why.Why.{Why}
use Rattle.kmipa_ops.specs.declared.why.Why.TheVariants.{OperationDiffers, ReasonUnfounded, EchoDiffers}

-- against a Success, or an Undone answer, which is judged as one
abbrev pub done_speaks : RulesOf → Meaning → Option (List ℕ) → ℤ → AskedOf → Option PayloadOf → Why → Bool
done_speaks rules m before t asked payload why = row_speaks (asked_row asked) (asked_judging asked) rules m before t payload why

-- against a failed answer
abbrev pub failure_speaks : RulesOf → Meaning → Option (List ℕ) → ℤ → AskedOf → Option ℕ → Why → Bool
failure_speaks rules m before t asked reason ReasonUnfounded = not (founded rules (cards_of m.objects) before t asked reason)
failure_speaks rules m before t asked reason why = false

abbrev pub outcome_speaks : Status → RulesOf → Meaning → Option (List ℕ) → ℤ → AskedOf → Option ℕ → Option PayloadOf → Why → Bool
outcome_speaks Success rules m before t asked reason payload why = done_speaks rules m before t asked payload why
outcome_speaks Undone rules m before t asked reason payload why = done_speaks rules m before t asked payload why
outcome_speaks Failed rules m before t asked reason payload why = failure_speaks rules m before t asked reason why

-- under some rules no reason speaks against a Success
abbrev pub IsUnopposed : Meaning → Option (List ℕ) → ℤ → AskedOf → Option PayloadOf → Type 0
IsUnopposed m before t asked payload = (rules : RulesOf) × (find (done_speaks rules m before t asked payload) whys ≡ None)

-- nor against an answer that says that the item was done
abbrev pub IsDoneUnopposed : Status → Meaning → Option (List ℕ) → ℤ → AskedOf → Option PayloadOf → Type 0
IsDoneUnopposed Success m before t asked payload = IsUnopposed m before t asked payload
IsDoneUnopposed Undone m before t asked payload = IsUnopposed m before t asked payload
IsDoneUnopposed Failed m before t asked payload = Unit {0}

-- against any answer: its Operation isn't the request's, or its Unique Batch Item ID isn't
abbrev pub frame_speaks : AskOf → AnswerOf → Why → Bool
frame_speaks ask answer OperationDiffers = is_other (λ (x y : ℕ). x == y) answer.operation (operation_number (operation_asked ask.asked))
frame_speaks ask answer EchoDiffers = clash bytes_eq answer.batch_id ask.batch_id
frame_speaks ask answer why = false

-- this reason speaks against the answer
abbrev pub speaks : RulesOf → Meaning → Option (List ℕ) → ℤ → AskOf → AnswerOf → Why → Bool
speaks rules m before t ask answer why =
    frame_speaks ask answer why || outcome_speaks answer.status rules m before t ask.asked answer.reason answer.payload why

-- the lowest that does
abbrev pub lowest : RulesOf → Meaning → Option (List ℕ) → ℤ → AskOf → AnswerOf → Option Why
lowest rules m before t ask answer = find (λ (why : Why). speaks rules m before t ask answer why) whys
