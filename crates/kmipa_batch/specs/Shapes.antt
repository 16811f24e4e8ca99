-- Which answers a batch may have at which places, under Stop, Continue and Undo (KMIP 2.1, Batch Error Continuation Option; the shape
-- of the answer to a failed Undo batch: profile). Places are counted from 0 here, and reported from 1.
use Rattle.std.specs.Prelude.{◌≡◌, ◌≢◌, ◌≤◌, ◌<◌, ◌⊎◌, ℕ, Bool, true, false, List, length, Option, Some, None, slice_get}
use Rattle.kmipa_msgs.specs.declared.request.BatchOption.{BatchOption}
use Rattle.kmipa_msgs.specs.declared.request.BatchOption.TheVariants.{Continue, Undo}
use Rattle.kmipa_msgs.specs.declared.response.Status.{Status}
use Rattle.kmipa_msgs.specs.declared.response.Status.TheVariants.{Success, Failed, Undone}
use Rattle.kmipa_msgs.specs.Messages.{RequestOf, AnswerOf, ResponseOf}

abbrev pub is_failed : Status → Bool
is_failed Success = false
is_failed Failed = true
is_failed Undone = false

-- this place of the answers is the first failed one
pub record IsFirstFailed (answers : List AnswerOf) (place : ℕ) : Type 0 where
  pub answer : AnswerOf
  pub there : slice_get answers place ≡ Some answer
  pub failed : answer.status ≡ Failed
  pub first : (earlier : ℕ) (other : AnswerOf) → earlier < place → slice_get answers earlier ≡ Some other → other.status ≢ Failed

-- no answer failed
abbrev pub NoneFailed : List AnswerOf → Type 0
NoneFailed answers = (place : ℕ) (other : AnswerOf) → slice_get answers place ≡ Some other → other.status ≢ Failed

-- an answer at a place of a request with so many items
pub record AnswerShape (option : BatchOption) (asks : ℕ) (answers : List AnswerOf) (place : ℕ) (answer : AnswerOf) : Type 0 where
  -- the request has an item there
  pub asked : place < asks
  -- under Stop and Undo no answer stands after the first failed one
  pub ends : option ≢ Continue → (failed : ℕ) → IsFirstFailed answers failed → place ≤ failed
  -- only Undo undoes
  pub kept : option ≢ Undo → answer.status ≢ Undone
  -- under Undo with a failure all before it is Undone, and without one all is Success
  pub undone : option ≡ Undo → (failed : ℕ) → IsFirstFailed answers failed → place < failed → answer.status ≡ Undone
  pub whole : option ≡ Undo → NoneFailed answers → answer.status ≡ Success

-- a place without an answer: the request has no item there, or under Stop or Undo an earlier one failed
abbrev pub NoAnswerShape : BatchOption → ℕ → List AnswerOf → ℕ → Type 0
NoAnswerShape option asks answers place =
    (asks ≤ place) ⊎ ((option ≢ Continue) × ((failed : ℕ) × IsFirstFailed answers failed × (failed < place)))

-- a place has its shape
abbrev pub HasShape : BatchOption → ℕ → List AnswerOf → ℕ → Option AnswerOf → Type 0
HasShape option asks answers place None = NoAnswerShape option asks answers place
HasShape option asks answers place (Some answer) = AnswerShape option asks answers place answer

-- this place of the call has its shape
abbrev pub IsShapedAt : RequestOf → ResponseOf → ℕ → Type 0
IsShapedAt request response place = HasShape request.option (length request.items) response.items place (slice_get response.items place)

-- each place before this one has
abbrev pub IsShapedBelow : RequestOf → ResponseOf → ℕ → Type 0
IsShapedBelow request response count = (place : ℕ) → place < count → IsShapedAt request response place

-- each place of the call has
abbrev pub IsShaped : RequestOf → ResponseOf → Type 0
IsShaped request response = (place : ℕ) → IsShapedAt request response place

-- the lowest place of the call without its shape
abbrev pub IsFirstUnshaped : RequestOf → ResponseOf → ℕ → Type 0
IsFirstUnshaped request response place = IsShapedBelow request response place × (IsShapedAt request response place → ⊥)
