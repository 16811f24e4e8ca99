-- What a turn of a witness fills in: the payloads that Undone answers leave out, and without which nothing is to be judged (profile).
use Rattle.std.specs.Prelude.{◌≡◌, ◌≢◌, ℕ, ◌+◌, pos, List, length, AllPairs, Contains, slice_get, Some, ◌<◌, ℤ}
use Rattle.kmipa_record.specs.Witnesses.{FillOf}
use Rattle.kmipa_msgs.specs.declared.kind.OutsideKind.{OutsideKind}
use Rattle.kmipa_msgs.specs.Messages.{AskOf, PayloadOf, AnswerOf, RequestOf, ResponseOf}
use Rattle.kmipa_msgs.specs.Outside.{Inside, OutsideAt}
use Rattle.kmipa_msgs.specs.Payloads.{SaysPayload, PayloadFault}
use Rattle.kmipa_msgs.specs.Wanted.{Wanted}
use Rattle.kmipa_batch.specs.Calls.{pairs_of}
use Rattle.kmipa_check.specs.declared.fault.WitnessKind.{WitnessKind}
use Rattle.kmipa_check.specs.declared.fault.WitnessKind.TheVariants.{FillNotWanted, FillMissing, FillForm}

-- at this place of the call, counted from 0, this was asked and so answered, and the answer waits for its payload
pub record IsWantedAt (request : RequestOf) (response : ResponseOf) (place : ℕ) (ask : AskOf) (answer : AnswerOf) : Type 0 where
  pub there : slice_get (pairs_of request response) place ≡ Some (ask, answer)
  pub wanted : Wanted ask answer

-- the answer at this place waits for its payload
abbrev pub IsWanted : RequestOf → ResponseOf → ℕ → Type 0
IsWanted request response place = (ask : AskOf) × (answer : AnswerOf) × IsWantedAt request response place ask answer

-- the fill is for the item at this place: places are counted from 0, and items from 1
abbrev pub IsFor : FillOf → ℕ → Type 0
IsFor fill place = fill.item ≡ pos (place + 1)

-- each fill is for a place that waits, and no two are for one item
pub record AreWanted (request : RequestOf) (response : ResponseOf) (fills : List FillOf) : Type 0 where
  pub each : (fill : FillOf) → Contains fills fill → (place : ℕ) × IsFor fill place × IsWanted request response place
  pub once : AllPairs (λ (a b : FillOf). a.item ≢ b.item) fills

-- each place that waits has a fill
abbrev pub NoneMissing : RequestOf → ResponseOf → List FillOf → Type 0
NoneMissing request response fills = (place : ℕ) → IsWanted request response place → (fill : FillOf) × Contains fills fill × IsFor fill place

-- the fill's payload says this, as what was done where this was asked
abbrev pub SaysFill : FillOf → AskOf → PayloadOf → Type 0
SaysFill fill ask p = Inside (SaysPayload fill.payload ask) (PayloadFault fill.payload ask) p

-- the fill's payload isn't of the form that the operation asked for has
abbrev pub IsFormless : FillOf → AskOf → Type 0
IsFormless fill ask = (item : ℕ) × (kind : OutsideKind) × OutsideAt (PayloadFault fill.payload ask) item kind

-- the answer, with this payload
abbrev pub with_payload : AnswerOf → PayloadOf → AnswerOf
with_payload answer p = record answer { payload = Some p }

-- what becomes of the answer at a place: it has the payload that its fill says, or stays as it is where it waits for none
pub data IsFilledAt (request : RequestOf) (response : ResponseOf) (fills : List FillOf) (place : ℕ) (answer full : AnswerOf) : Type 0 where
  stays : (IsWanted request response place → ⊥) → full ≡ answer → IsFilledAt request response fills place answer full
  put_in : (ask : AskOf) → IsWantedAt request response place ask answer → (fill : FillOf) → Contains fills fill → IsFor fill place
      → (p : PayloadOf) → SaysFill fill ask p → full ≡ with_payload answer p → IsFilledAt request response fills place answer full

-- the full response is the other one with the fills put in: each place that waits has one, and no other has
pub record IsFilled (request : RequestOf) (response : ResponseOf) (fills : List FillOf) (full : ResponseOf) : Type 0 where
  pub wanted : AreWanted request response fills
  pub complete : NoneMissing request response fills
  pub stamp : full.stamp ≡ response.stamp
  pub counted : length full.items ≡ length response.items
  pub each : (place : ℕ) (answer filled : AnswerOf) → slice_get response.items place ≡ Some answer → slice_get full.items place ≡ Some filled
      → IsFilledAt request response fills place answer filled

-- one of the fills isn't of the form of the payload that it is for
pub record SomeFormless (request : RequestOf) (response : ResponseOf) (fills : List FillOf) : Type 0 where
  pub fill : FillOf
  pub one : Contains fills fill
  pub place : ℕ
  pub names : IsFor fill place
  pub ask : AskOf
  pub answer : AnswerOf
  pub at : IsWantedAt request response place ask answer
  pub formless : IsFormless fill ask

-- the first fault of the fills: one that isn't wanted; else one that is missing; else one without the form
pub data FillFault (request : RequestOf) (response : ResponseOf) (fills : List FillOf) (kind : WitnessKind) : Type 0 where
  unwanted : (AreWanted request response fills → ⊥) → kind ≡ FillNotWanted → FillFault request response fills kind
  missing : AreWanted request response fills → (NoneMissing request response fills → ⊥) → kind ≡ FillMissing → FillFault request response fills kind
  misformed : AreWanted request response fills → NoneMissing request response fills → SomeFormless request response fills → kind ≡ FillForm
      → FillFault request response fills kind

-- the number is that of an item at a place that waits
abbrev pub IsWantedItem : RequestOf → ResponseOf → ℤ → Type 0
IsWantedItem request response item = (place : ℕ) × (item ≡ pos (place + 1)) × IsWanted request response place

-- one of the fills is for the item at this place
abbrev pub HasFillFor : List FillOf → ℕ → Type 0
HasFillFor fills place = (fill : FillOf) × Contains fills fill × IsFor fill place

-- each of the first places has a fill where it waits for one
abbrev pub HaveFillsBelow : RequestOf → ResponseOf → List FillOf → ℕ → Type 0
HaveFillsBelow request response fills count = (place : ℕ) → place < count → IsWanted request response place → HasFillFor fills place
