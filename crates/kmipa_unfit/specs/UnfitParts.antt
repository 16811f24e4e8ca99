-- What is told of a part of a turn that names an item, a fill or a birth, where none is wanted for it. Places are counted from 0 here, and
-- items, fills and births from 1.
use Rattle.std.specs.Prelude.{◌≡◌, ◌≢◌, ◌<◌, ℕ, ◌+◌, ℤ, pos, List, Some, None, slice_get}
use Rattle.kmipa_msgs.specs.declared.response.Status.TheVariants as status
use Rattle.kmipa_msgs.specs.Messages.{AskOf, AnswerOf, RequestOf, ResponseOf, operation_asked}
use Rattle.kmipa_msgs.specs.Operations.{operation_number}
use Rattle.kmipa_msgs.specs.Wanted.{NeedsPayload}
use Rattle.kmipa_batch.specs.Calls.{pairs_of}
use Rattle.kmipa_check.specs.Births.{BringsForth, IsBirthWanted, WasDone}
use Rattle.kmipa_check.specs.Fills.{IsWantedItem}
use Rattle.kmipa_unfit.specs.UnfitOrders.{AreAnswered, IsUnanswered}
use Rattle.kmipa_unfit.specs.declared.explanation.Part.{Part}
use Rattle.kmipa_unfit.specs.declared.explanation.Part.TheVariants.{Fill, Birth}
use Rattle.kmipa_unfit.specs.declared.explanation.Unwanted.{Unwanted}
use Rattle.kmipa_unfit.specs.declared.explanation.Unwanted.TheVariants.{Unanswered, Status, Present, Needless, Operations, Second}
use Rattle.kmipa_unfit.specs.declared.explanation.UnwantedPart.{UnwantedPart}

-- the number of the operation that an item asks for
abbrev pub number_asked : AskOf → ℕ
number_asked ask = operation_number (operation_asked ask.asked)

-- such a part is wanted for the item of this number
abbrev pub IsWantedFor : Part → RequestOf → ResponseOf → ℤ → Type 0
IsWantedFor Fill request response item = IsWantedItem request response item
IsWantedFor Birth request response item = IsBirthWanted request response item

-- the answer names this operation, which isn't the one that is asked for
abbrev pub NamesOther : AskOf → AnswerOf → ℕ → Type 0
NamesOther ask answer named = (answer.operation ≡ Some named) × (named ≢ number_asked ask)

-- Why the payload of an answer isn't wanted: only that of an Undone answer is, at its item's own operation, where that can't be judged
-- without its payload, and the payload isn't there.
abbrev pub UnwantedPayload : AskOf → AnswerOf → Unwanted → Type 0
UnwantedPayload ask answer (Unanswered count) = ⊥
UnwantedPayload ask answer (Status s) = (s ≡ answer.status) × (s ≢ status.Undone)
UnwantedPayload ask answer Present = answer.payload ≢ None
UnwantedPayload ask answer (Needless number) = (number ≡ number_asked ask) × (NeedsPayload (operation_asked ask.asked) → ⊥)
UnwantedPayload ask answer (Operations asked answered) = (asked ≡ number_asked ask) × NamesOther ask answer answered
UnwantedPayload ask answer (Second number) = ⊥

-- Why no attributes of a new object are wanted: only those are of an item that makes an object, and that was done, at its own operation.
abbrev pub UnwantedAttributes : AskOf → AnswerOf → Unwanted → Type 0
UnwantedAttributes ask answer (Unanswered count) = ⊥
UnwantedAttributes ask answer (Status s) = (s ≡ answer.status) × (WasDone s → ⊥)
UnwantedAttributes ask answer Present = ⊥
UnwantedAttributes ask answer (Needless number) = (number ≡ number_asked ask) × (BringsForth (operation_asked ask.asked) → ⊥)
UnwantedAttributes ask answer (Operations asked answered) = (asked ≡ number_asked ask) × NamesOther ask answer answered
UnwantedAttributes ask answer (Second number) = ⊥

-- what was asked and answered doesn't want such a part
abbrev pub UnwantedAnswer : Part → AskOf → AnswerOf → Unwanted → Type 0
UnwantedAnswer Fill ask answer why = UnwantedPayload ask answer why
UnwantedAnswer Birth ask answer why = UnwantedAttributes ask answer why

-- so it is at the item of this number
pub record IsUnwantedAt (part : Part) (request : RequestOf) (response : ResponseOf) (item : ℤ) (why : Unwanted) : Type 0 where
  pub place : ℕ
  pub counted : item ≡ pos (place + 1)
  pub ask : AskOf
  pub answer : AnswerOf
  pub there : slice_get (pairs_of request response) place ≡ Some (ask, answer)
  pub unwanted : UnwantedAnswer part ask answer why

-- no such part is wanted for the item of this number: no such item is answered, or its answer wants none
abbrev pub UnwantedItem : Part → RequestOf → ResponseOf → ℤ → Unwanted → Type 0
UnwantedItem part request response item (Unanswered count) = AreAnswered request response count × IsUnanswered request response item
UnwantedItem part request response item why = IsUnwantedAt part request response item why

-- of the parts that name these items this one, counted from 1, stands before the place, and names this item
pub record IsSecond (items : List ℤ) (place : ℕ) (item : ℤ) (number : ℕ) : Type 0 where
  pub earlier : ℕ
  pub counted : number ≡ earlier + 1
  pub before : earlier < place
  pub there : slice_get items earlier ≡ Some item

-- the part at a place, for the item of this number, isn't wanted: an earlier one is for this item, or none is wanted for it
abbrev pub UnwantedPartAt : Part → RequestOf → ResponseOf → List ℤ → ℕ → ℤ → Unwanted → Type 0
UnwantedPartAt part request response items place item (Second number) = IsSecond items place item number
UnwantedPartAt part request response items place item why = UnwantedItem part request response item why

-- of the parts that name these items the first that isn't wanted, the item that it names, and why it isn't
pub record IsUnwantedPart (part : Part) (request : RequestOf) (response : ResponseOf) (items : List ℤ) (u : UnwantedPart) : Type 0 where
  pub place : ℕ
  pub counted : u.number ≡ place + 1
  pub item : ℤ
  pub there : slice_get items place ≡ Some item
  pub names : item ≡ u.item
  pub before : (earlier : ℕ) (other : ℤ) → earlier < place → slice_get items earlier ≡ Some other → IsWantedFor part request response other
  pub why : UnwantedPartAt part request response items place item u.why
