-- What is told of the places that a turn gives: why its call wants none, or why they are no order of the answered items. Places are counted
-- from 0 here, and items, and the places as a turn gives them, from 1.
use Rattle.std.specs.Prelude.{◌≡◌, ◌≢◌, ◌<◌, ◌↔◌, ℕ, ◌+◌, ◌-◌, ℤ, pos, true, List, length, Contains, Some, slice_get}
use Rattle.kmipa_msgs.specs.declared.request.BatchOption.TheVariants.{Continue}
use Rattle.kmipa_msgs.specs.Messages.{RequestOf, ResponseOf}
use Rattle.kmipa_batch.specs.Calls.{RefusesMessage}
use Rattle.kmipa_batch.specs.Orders.{IsAnsweredPlace}
use Rattle.kmipa_batch.specs.Shapes.{IsFirstFailed}
use Rattle.kmipa_unfit.specs.declared.explanation.Disorder.{Disorder}
use Rattle.kmipa_unfit.specs.declared.explanation.OrderTold.{OrderTold}
use Rattle.kmipa_unfit.specs.declared.explanation.OrderTold.TheVariants.{Refused, Few, InOrder}
use Rattle.kmipa_unfit.specs.declared.explanation.Ordered.{Ordered}
use Rattle.kmipa_unfit.specs.declared.explanation.Wrong.{Wrong}
use Rattle.kmipa_unfit.specs.declared.explanation.Wrong.TheVariants.{Unanswered, Twice, LeftOut, NotLast}

-- so many items of the call are answered: the first ones
abbrev pub AreAnswered : RequestOf → ResponseOf → ℕ → Type 0
AreAnswered request response count = (place : ℕ) → place < count ↔ IsAnsweredPlace request response place

-- why the items of a call are taken by place: its message is refused as a whole; it has fewer than two items; or its Batch Order Option
-- isn't False (KMIP 2.1, Batch Order Option)
abbrev pub IsOrderTold : RequestOf → ResponseOf → OrderTold → Type 0
IsOrderTold request response Refused = RefusesMessage response
IsOrderTold request response (Few count) = (count ≡ length request.items) × (count < 2)
IsOrderTold request response InOrder = request.ordered ≡ true

-- the places that the turn gives, and why none are wanted
pub record IsOrdered (request : RequestOf) (response : ResponseOf) (numbers : List ℤ) (o : Ordered) : Type 0 where
  pub places : o.places.items ≡ numbers
  pub why : IsOrderTold request response o.why

-- the number is that of no item that is answered
abbrev pub IsUnanswered : RequestOf → ResponseOf → ℤ → Type 0
IsUnanswered request response number = (place : ℕ) → number ≡ pos (place + 1) → IsAnsweredPlace request response place → ⊥

-- the number stands at two places
pub record IsTwice (numbers : List ℤ) (number : ℤ) : Type 0 where
  pub earlier : ℕ
  pub later : ℕ
  pub before : earlier < later
  pub there : slice_get numbers earlier ≡ Some number
  pub again : slice_get numbers later ≡ Some number

-- the item is answered, and its number isn't there
pub record IsMissing (request : RequestOf) (response : ResponseOf) (numbers : List ℤ) (item : ℕ) : Type 0 where
  pub place : ℕ
  pub counted : item ≡ place + 1
  pub answered : IsAnsweredPlace request response place
  pub absent : Contains numbers (pos item) → ⊥

-- the item is the first that failed, under Stop or Undo, and its number doesn't stand last
pub record IsNotLast (request : RequestOf) (response : ResponseOf) (numbers : List ℤ) (item : ℕ) : Type 0 where
  pub place : ℕ
  pub counted : item ≡ place + 1
  pub ends : request.option ≢ Continue
  pub failed : IsFirstFailed response.items place
  pub ahead : slice_get numbers (length numbers - 1) ≡ Some (pos item) → ⊥

-- what is wrong with these numbers as an order of the answered items
abbrev pub IsWrong : RequestOf → ResponseOf → List ℤ → Wrong → Type 0
IsWrong request response numbers (Unanswered number) = Contains numbers number × IsUnanswered request response number
IsWrong request response numbers (Twice number) = IsTwice numbers number
IsWrong request response numbers (LeftOut item) = IsMissing request response numbers item
IsWrong request response numbers (NotLast item) = IsNotLast request response numbers item

-- the places that the turn gives, how many items are answered, and what is wrong
pub record IsDisordered (request : RequestOf) (response : ResponseOf) (numbers : List ℤ) (d : Disorder) : Type 0 where
  pub places : d.places.items ≡ numbers
  pub answered : AreAnswered request response d.answered
  pub wrong : IsWrong request response numbers d.wrong
