-- What each numbered reason means (profile): its condition in plain terms, over the ledger's meaning. The tests of Blame, which the code is
-- proved against, say exactly these.
use Rattle.std.specs.Prelude.{◌≡◌, ◌⊎◌, ◌↔◌, ℕ, ℤ, true, List, Option}
use Rattle.kmipa_store.specs.Ledger.{Meaning, cards_of}
use Rattle.kmipa_msgs.specs.Messages.{RulesOf, AskedOf, AskOf, operation_asked, PayloadOf, AnswerOf}
use Rattle.kmipa_msgs.specs.Operations.{operation_number}
use Rattle.kmipa_msgs.specs.declared.response.Status.{Status}
use Rattle.kmipa_msgs.specs.declared.response.Status.TheVariants.{Success, Failed, Undone}
use Rattle.kmipa_ops.specs.Blame.{speaks}
use Rattle.kmipa_ops.specs.Founded.{Founded}
use Rattle.kmipa_ops.specs.Objects.{Differs, Clashes}
use Rattle.kmipa_ops.specs.Judging.{row_reason}
use Rattle.kmipa_ops.specs.Rows.{asked_judging, asked_row}
use Rattle.kmipa_ops.specs.declared.why.Why.{Why}
use Rattle.kmipa_ops.specs.declared.why.Why.TheVariants.{OperationDiffers, ReasonUnfounded, EchoDiffers}

-- against a Success, or an Undone answer, which is judged as one
abbrev pub DoneReason : RulesOf → Meaning → Option (List ℕ) → ℤ → AskedOf → Option PayloadOf → Why → Type 0
DoneReason rules m before t asked payload why = row_reason (asked_row asked) (asked_judging asked) rules m before t payload why

-- against a failed answer
abbrev pub FailureReason : RulesOf → Meaning → Option (List ℕ) → ℤ → AskedOf → Option ℕ → Why → Type 0
FailureReason rules m before t asked reason ReasonUnfounded = Founded rules (cards_of m.objects) before t asked reason → ⊥
FailureReason rules m before t asked reason why = ⊥

abbrev pub OutcomeReason : Status → RulesOf → Meaning → Option (List ℕ) → ℤ → AskedOf → Option ℕ → Option PayloadOf → Why → Type 0
OutcomeReason Success rules m before t asked reason payload why = DoneReason rules m before t asked payload why
OutcomeReason Undone rules m before t asked reason payload why = DoneReason rules m before t asked payload why
OutcomeReason Failed rules m before t asked reason payload why = FailureReason rules m before t asked reason why

-- against any answer: its Operation isn't the request's, or its Unique Batch Item ID isn't
abbrev pub FrameReason : AskOf → AnswerOf → Why → Type 0
FrameReason ask answer OperationDiffers = Differs answer.operation (operation_number (operation_asked ask.asked))
FrameReason ask answer EchoDiffers = Clashes answer.batch_id ask.batch_id
FrameReason ask answer why = ⊥

-- this reason speaks against the answer
abbrev pub Reason : RulesOf → Meaning → Option (List ℕ) → ℤ → AskOf → AnswerOf → Why → Type 0
Reason rules m before t ask answer why = FrameReason ask answer why ⊎ OutcomeReason answer.status rules m before t ask.asked answer.reason answer.payload why

-- the tests say exactly that
abbrev pub ReasonsAreDecided : Type 0
ReasonsAreDecided =
    (rules : RulesOf) (m : Meaning) (before : Option (List ℕ)) (t : ℤ) (ask : AskOf) (answer : AnswerOf) (why : Why)
    → (speaks rules m before t ask answer why ≡ true) ↔ Reason rules m before t ask answer why
