-- The first answer that failed.
use Rattle.std.proofs.Common.{◌≡◌, ◌≢◌, ◌≤◌, ℕ, true, false, List, length, Some, slice_get, refl}
use Rattle.kmipa_msgs.specs.Messages.{AnswerOf}
use Rattle.kmipa_msgs.specs.declared.response.Status.{Status}
use Rattle.kmipa_msgs.specs.declared.response.Status.TheVariants.{Success, Failed, Undone}
use Rattle.kmipa_batch.specs.Shapes.{is_failed, IsFirstFailed, NoneFailed}
use Rattle.kmipa_unfit.proofs.BelowLemmas.{EachBelow, each_all}

failed : (s : Status) → is_failed s ≡ true → s ≡ Failed
failed Success e = absurd cc
failed Failed e = refl
failed Undone e = absurd cc

not_failed : (s : Status) → is_failed s ≡ false → s ≢ Failed
not_failed Success e is = absurd cc
not_failed Failed e is = absurd cc
not_failed Undone e is = absurd cc

abbrev pub Right : AnswerOf → Type 0
Right answer = is_failed answer.status ≡ false

pub first_found : (answers : List AnswerOf) (place : ℕ) (answer : AnswerOf) → slice_get answers place ≡ Some answer → is_failed answer.status ≡ true → EachBelow Right answers place
    → IsFirstFailed answers place
first_found answers place answer there wrong before = record {
  answer = answer;
  there = there;
  failed = failed answer.status wrong;
  first = λ earlier other below at. not_failed other.status (before earlier below other at);
}

pub none_found : (answers : List AnswerOf) (count : ℕ) → length answers ≤ count → EachBelow Right answers count → NoneFailed answers
none_found answers count past h place other there = not_failed other.status (each_all Right answers count past h place other there)
