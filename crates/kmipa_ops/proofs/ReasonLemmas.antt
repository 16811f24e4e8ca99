-- The tests of the reasons say what the reasons mean.
use Rattle.std.proofs.Common.{◌==◌, ℕ, ℤ, bytes_eq, List, Option}
use Rattle.std.specs.Bool.{Decides}
use Rattle.std.proofs.lemmas.Bool.Decides.{Decides-eqb}
use Rattle.std.proofs.lemmas.Slice.Eq.{bytes_eq-Decides}
use Rattle.kmipa_store.specs.Ledger.{Meaning, cards_of}
use Rattle.kmipa_msgs.specs.Messages.{RulesOf, AskedOf, AskOf, operation_asked, PayloadOf, AnswerOf}
use Rattle.kmipa_msgs.specs.Operations.{operation_number}
use Rattle.kmipa_msgs.specs.declared.response.Status.{Status}
use Rattle.kmipa_msgs.specs.declared.response.Status.TheVariants.{Success, Failed, Undone}
use Rattle.kmipa_ops.specs.Blame.{failure_speaks, outcome_speaks, frame_speaks}
use Rattle.kmipa_ops.specs.Founded.{founded}
use Rattle.kmipa_ops.specs.Reasons.{FailureReason, FrameReason, OutcomeReason, ReasonsAreDecided}
use Rattle.kmipa_ops.specs.Judging.{RowJudging, row_speaks, row_reason}
use Rattle.kmipa_ops.specs.Row.{Row, deed, idle, unknown, seen_in}
use Rattle.kmipa_ops.specs.Rows.{asked_judging, asked_row}
use Rattle.kmipa_ops.specs.declared.why.Why.{Why}
use Rattle.kmipa_ops.specs.declared.why.Why.TheVariants.{OperationDiffers, ReasonUnfounded, EchoDiffers}
use Rattle.kmipa_ops.proofs.ConditionLemmas.{never_decides, or_decides, differs_decides, clashes_decides}
use Rattle.kmipa_ops.proofs.DeedLaws.{IsRow}
use Rattle.kmipa_ops.proofs.FoundedLemmas.{founded_decides}
use Rattle.kmipa_ops.proofs.RowLemmas.{is_row}
use Rattle.kmipa_ops.proofs.TestLemmas.{not_decides}
use Rattle.kmipa_msgs.specs.declared.operation.Operation.{Operation}

row_decides : (operation : Operation) (row : Row) (j : RowJudging row) → IsRow operation row j → (rules : RulesOf) (m : Meaning) (before : Option (List ℕ)) (t : ℤ) (payload : Option PayloadOf) (why : Why)
    → Decides (row_speaks row j rules m before t payload why) (row_reason row j rules m before t payload why)
row_decides operation (deed d) j is rules m before t payload why = is.decides rules m before t (seen_in d payload) why
row_decides operation idle j is rules m before t payload why = never_decides
row_decides operation unknown j is rules m before t payload why = never_decides

failure_decides : (rules : RulesOf) (m : Meaning) (before : Option (List ℕ)) (t : ℤ) (asked : AskedOf) (reason : Option ℕ) (why : Why)
    → Decides (failure_speaks rules m before t asked reason why) (FailureReason rules m before t asked reason why)
failure_decides rules m before t asked reason ReasonUnfounded = not_decides (founded rules (cards_of m.objects) before t asked reason) (founded_decides rules (cards_of m.objects) before t asked reason)
failure_decides rules m before t asked reason why = never_decides

outcome_decides : (status : Status) (rules : RulesOf) (m : Meaning) (before : Option (List ℕ)) (t : ℤ) (asked : AskedOf) (reason : Option ℕ) (payload : Option PayloadOf) (why : Why)
    → Decides (outcome_speaks status rules m before t asked reason payload why) (OutcomeReason status rules m before t asked reason payload why)
outcome_decides Success rules m before t asked reason payload why = row_decides (operation_asked asked) (asked_row asked) (asked_judging asked) (is_row asked) rules m before t payload why
outcome_decides Undone rules m before t asked reason payload why = row_decides (operation_asked asked) (asked_row asked) (asked_judging asked) (is_row asked) rules m before t payload why
outcome_decides Failed rules m before t asked reason payload why = failure_decides rules m before t asked reason why

frame_decides : (ask : AskOf) (answer : AnswerOf) (why : Why) → Decides (frame_speaks ask answer why) (FrameReason ask answer why)
frame_decides ask answer OperationDiffers = differs_decides (λ (x y : ℕ). x == y) Decides-eqb answer.operation (operation_number (operation_asked ask.asked))
frame_decides ask answer EchoDiffers = clashes_decides bytes_eq bytes_eq-Decides answer.batch_id ask.batch_id
frame_decides ask answer why = never_decides

pub reasons_are_decided : ReasonsAreDecided
reasons_are_decided rules m before t ask answer why =
    or_decides (frame_speaks ask answer why) (outcome_speaks answer.status rules m before t ask.asked answer.reason answer.payload why) (frame_decides ask answer why)
    (outcome_decides answer.status rules m before t ask.asked answer.reason answer.payload why)
