-- The first answer that failed.
use Rattle.std.proofs.Common.{◌≡◌, ◌≢◌, ℕ, ◌+◌, Bool, true, false, List, Some, slice_get, refl, sym}
use Rattle.kmipa_msgs.specs.Messages.{AnswerOf}
use Rattle.kmipa_msgs.specs.declared.response.Status.{Status}
use Rattle.kmipa_msgs.specs.declared.response.Status.TheVariants.{Success, Failed, Undone}
use Rattle.kmipa_batch.specs.Shapes.{is_failed, NoneFailed}
use Rattle.kmipa_explain.specs.Causes.{FailsFirst}
use Rattle.kmipa_explain.specs.Kept.{AreNone}
use Rattle.kmipa_explain.proofs.KeptLemmas.{NoneBelow}

failed : (s : Status) → is_failed s ≡ true → s ≡ Failed
failed Success e = absurd cc
failed Failed e = refl
failed Undone e = absurd cc

not_failed : (s : Status) → is_failed s ≡ false → s ≢ Failed
not_failed Success e is = absurd cc
not_failed Failed e is = absurd cc
not_failed Undone e is = absurd cc

abbrev pub fails : AnswerOf → Bool
fails answer = is_failed answer.status

pub first_found : (answers : List AnswerOf) (place : ℕ) (answer : AnswerOf) → slice_get answers place ≡ Some answer → true ≡ fails answer → NoneBelow fails answers place
    → FailsFirst answers (Some (place + 1))
first_found answers place answer there wrong before = (
  place,
  refl,
  record { answer = answer; there = there; failed = failed answer.status (sym wrong); first = λ earlier other below at. not_failed other.status (before earlier other below at) },
)

pub none_failed : (answers : List AnswerOf) → AreNone fails answers → NoneFailed answers
none_failed answers right place other there = not_failed other.status (right place other there)
