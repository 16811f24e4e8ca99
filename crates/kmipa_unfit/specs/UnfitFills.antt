-- What is told of the fills that a turn gives. Places are counted from 0 here, and items and fills from 1.
use Rattle.std.specs.Prelude.{◌≡◌, ◌<◌, ℕ, ◌+◌, ℤ, List, map, Some, slice_get}
use Rattle.kmipa_msgs.specs.Messages.{AskOf, AnswerOf, RequestOf, ResponseOf}
use Rattle.kmipa_msgs.specs.Outside.{OutsideAt}
use Rattle.kmipa_msgs.specs.Payloads.{PayloadFault}
use Rattle.kmipa_record.specs.Witnesses.{FillOf}
use Rattle.kmipa_check.specs.Fills.{IsFor, IsWantedAt, HasFillFor, HaveFillsBelow}
use Rattle.kmipa_check.specs.Fills
use Rattle.kmipa_check.specs.declared.fault.WitnessKind.{WitnessKind}
use Rattle.kmipa_check.specs.declared.fault.WitnessKind.TheVariants as kinds
use Rattle.kmipa_unfit.specs.UnfitParts.{IsUnwantedPart, number_asked}
use Rattle.kmipa_unfit.specs.declared.explanation.FormlessFill.{FormlessFill}
use Rattle.kmipa_unfit.specs.declared.explanation.MissingFill.{MissingFill}
use Rattle.kmipa_unfit.specs.declared.explanation.Part.TheVariants.{Fill}
use Rattle.kmipa_unfit.specs.declared.explanation.Unfit.{Unfit}
use Rattle.kmipa_unfit.specs.declared.explanation.Unfit.TheVariants.{FillUnwanted, FillMissing, FillFormless}

-- the items that the fills name
abbrev pub items_filled : List FillOf → List ℤ
items_filled fills = map (λ (f : FillOf). f.item) fills

-- the first item that waits for its payload without a fill, and the operation that it asks for
pub record IsMissingFill (request : RequestOf) (response : ResponseOf) (fills : List FillOf) (m : MissingFill) : Type 0 where
  pub place : ℕ
  pub counted : m.item ≡ place + 1
  pub ask : AskOf
  pub answer : AnswerOf
  pub waits : IsWantedAt request response place ask answer
  pub operation : m.operation ≡ number_asked ask
  pub none : HasFillFor fills place → ⊥
  pub before : HaveFillsBelow request response fills place

-- the fill at this place is for an item that waits, and isn't of the form of its payload
pub record IsFormlessAt (request : RequestOf) (response : ResponseOf) (fills : List FillOf) (place : ℕ) : Type 0 where
  pub fill : FillOf
  pub there : slice_get fills place ≡ Some fill
  pub item : ℕ
  pub names : IsFor fill item
  pub ask : AskOf
  pub answer : AnswerOf
  pub waits : IsWantedAt request response item ask answer
  pub formless : Fills.IsFormless fill ask

-- the first fill that isn't of the form of the payload that it is for, the item that it names, the operation that this asks for, and why
-- the fill isn't that operation's payload
pub record IsFormlessFill (request : RequestOf) (response : ResponseOf) (fills : List FillOf) (f : FormlessFill) : Type 0 where
  pub place : ℕ
  pub counted : f.fill ≡ place + 1
  pub fill : FillOf
  pub there : slice_get fills place ≡ Some fill
  pub at : ℕ
  pub item : f.item ≡ at + 1
  pub names : IsFor fill at
  pub ask : AskOf
  pub answer : AnswerOf
  pub waits : IsWantedAt request response at ask answer
  pub operation : f.operation ≡ number_asked ask
  pub formless : (item : ℕ) × OutsideAt (PayloadFault fill.payload ask) item f.kind
  pub before : (earlier : ℕ) → earlier < place → IsFormlessAt request response fills earlier → ⊥

-- what is told of the fills, by the kind of their fault
abbrev pub TellsFill : RequestOf → ResponseOf → List FillOf → WitnessKind → Unfit → Type 0
TellsFill request response fills kind (FillUnwanted u) = (kind ≡ kinds.FillNotWanted) × IsUnwantedPart Fill request response (items_filled fills) u
TellsFill request response fills kind (FillMissing m) = (kind ≡ kinds.FillMissing) × IsMissingFill request response fills m
TellsFill request response fills kind (FillFormless f) = (kind ≡ kinds.FillForm) × IsFormlessFill request response fills f
TellsFill request response fills kind other = ⊥
