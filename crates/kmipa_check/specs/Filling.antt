-- How fills are put in. Not promised: `Fills` says what becomes of the response.
use Rattle.std.specs.Prelude.{◌≡◌, ◌<◌, ◌≤ℤ◌, ℕ, ℤ, pos, List, length, Contains, slice_get, Some, Result, Ok, Err}
use Rattle.kmipa_record.specs.Witnesses.{FillOf}
use Rattle.kmipa_msgs.specs.declared.response.Payload.{Payload}
use Rattle.kmipa_msgs.specs.Messages.{AskOf, PayloadOf, AnswerOf, RequestOf, ResponseOf, payload_of}
use Rattle.kmipa_check.specs.Fills.{IsWantedAt, IsFor, SaysFill, IsFormless, with_payload, FillFault, SomeFormless, IsWantedItem}
use Rattle.kmipa_check.specs.Numbers.{AreWantedOnce}
use Rattle.kmipa_check.specs.declared.fault.StepFault.{StepFault}
use Rattle.kmipa_check.specs.declared.fault.StepFault.TheVariants.{Unfit, Memory}
use Rattle.kmipa_check.specs.declared.fault.WitnessKind.TheVariants.{FillForm}

-- numbers of items are those of 32 bits
abbrev pub AreNumbered : List FillOf → Type 0
AreNumbered fills = (fill : FillOf) → Contains fills fill → fill.item ≤ℤ pos 0x7FFF_FFFF

-- each of the first fills is for a place that waits, and none of them is for the item of an earlier one
abbrev pub AreWantedBelow : RequestOf → ResponseOf → List FillOf → ℕ → Type 0
AreWantedBelow request response fills count = AreWantedOnce (λ (f : FillOf). f.item) (λ item. IsWantedItem request response item × (item ≤ℤ pos 0x7FFF_FFFF)) fills count

-- what reading a fill comes to
abbrev pub FillRead : FillOf → AskOf → Result Payload StepFault → Type 0
FillRead fill ask (Ok payload) = SaysFill fill ask (payload_of payload)
FillRead fill ask (Err (Unfit kind)) = IsFormless fill ask × (kind ≡ FillForm)
FillRead fill ask (Err Memory) = Unit {0}

-- the fills are refused for their form, or memory ran out
abbrev pub FormFault : RequestOf → ResponseOf → List FillOf → StepFault → Type 0
FormFault request response fills (Unfit kind) = SomeFormless request response fills × (kind ≡ FillForm)
FormFault request response fills Memory = Unit {0}

-- the fills are refused
abbrev pub FillsRefused : RequestOf → ResponseOf → List FillOf → StepFault → Type 0
FillsRefused request response fills (Unfit kind) = FillFault request response fills kind
FillsRefused request response fills Memory = Unit {0}

-- none of the first fills is for this place
abbrev pub NoneFor : List FillOf → ℕ → ℕ → Type 0
NoneFor fills count place = (at : ℕ) (fill : FillOf) → at < count → slice_get fills at ≡ Some fill → IsFor fill place → ⊥

-- the answer at a place, where the first fills were put in
pub data IsPutAt (request : RequestOf) (response : ResponseOf) (fills : List FillOf) (count place : ℕ) (answer full : AnswerOf) : Type 0 where
  waits : NoneFor fills count place → full ≡ answer → IsPutAt request response fills count place answer full
  put : (ask : AskOf) → IsWantedAt request response place ask answer → (fill : FillOf) → Contains fills fill → IsFor fill place
      → (p : PayloadOf) → SaysFill fill ask p → full ≡ with_payload answer p → IsPutAt request response fills count place answer full

-- the response, where the first fills were put in
pub record IsFilledUpTo (request : RequestOf) (response : ResponseOf) (fills : List FillOf) (count : ℕ) (full : ResponseOf) : Type 0 where
  pub stamp : full.stamp ≡ response.stamp
  pub counted : length full.items ≡ length response.items
  pub each : (place : ℕ) (answer filled : AnswerOf) → slice_get response.items place ≡ Some answer → slice_get full.items place ≡ Some filled
      → IsPutAt request response fills count place answer filled
