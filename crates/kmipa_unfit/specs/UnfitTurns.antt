-- What is told of what a turn gives to the call that it is the first to name.
use Rattle.std.specs.Prelude.{◌≡◌, ◌≢◌, ℕ, ℤ, List, [], map, Option, Some, None, slice_get}
use Rattle.kmipa_msgs.specs.declared.kind.OutsideKind.{OutsideKind}
use Rattle.kmipa_msgs.specs.Messages.{RequestOf, ResponseOf}
use Rattle.kmipa_msgs.specs.Responses.{ResponseFault}
use Rattle.kmipa_record.specs.Witnesses.{TurnOf}
use Rattle.kmipa_check.specs.Calls.{CallOf, AreOutside}
use Rattle.kmipa_check.specs.Grants.{GrantsOf}
use Rattle.kmipa_check.specs.Moments.{IsNear}
use Rattle.kmipa_check.specs.Steps.{IsAnswered}
use Rattle.kmipa_check.specs.declared.fault.WitnessKind.{WitnessKind}
use Rattle.kmipa_check.specs.declared.fault.WitnessKind.TheVariants as kinds
use Rattle.kmipa_unfit.specs.UnfitBirths.{IsFormlessBirth, items_born}
use Rattle.kmipa_unfit.specs.UnfitFills.{TellsFill}
use Rattle.kmipa_unfit.specs.UnfitOrders.{IsDisordered, IsOrdered}
use Rattle.kmipa_unfit.specs.UnfitParts.{IsUnwantedPart, number_asked}
use Rattle.kmipa_unfit.specs.declared.explanation.FarMoment.{FarMoment}
use Rattle.kmipa_unfit.specs.declared.explanation.Part.TheVariants.{Birth}
use Rattle.kmipa_unfit.specs.declared.explanation.Unfit.{Unfit}
use Rattle.kmipa_unfit.specs.declared.explanation.Unfit.TheVariants.{Ended, Open, Answer, Untimely, Ordered, Disordered, BirthUnwanted, BirthFormless, Aside}

-- the numbers of the operations that a request asks for, item by item
abbrev pub numbers_asked : RequestOf → List ℕ
numbers_asked request = map number_asked request.items

-- the call has ended, and the turn gives an answer
pub record IsEndedCall (c : CallOf) (t : TurnOf) : Type 0 where
  pub end : ℕ
  pub ended : c.end ≡ Some end
  pub given : t.answer ≢ None

-- the call has not ended, and the turn gives no answer
pub record IsOpenCall (c : CallOf) (t : TurnOf) : Type 0 where
  pub unended : c.end ≡ None
  pub none : t.answer ≡ None

-- the call has not ended, and the turn's answer is outside there as a response to its request
pub record IsOutsideAnswer (c : CallOf) (t : TurnOf) (item : ℕ) (kind : OutsideKind) : Type 0 where
  pub unended : c.end ≡ None
  pub bytes : List ℕ
  pub given : t.answer ≡ Some bytes
  pub outside : AreOutside (λ u. ResponseFault u c.request) bytes item kind

-- the turn gives a moment that isn't near the Time Stamp of this response: the two, and how many seconds apart they may be
pub record IsFarMoment (g : GrantsOf) (response : ResponseOf) (given : Option ℤ) (f : FarMoment) : Type 0 where
  pub moment : ℤ
  pub gives : given ≡ Some moment
  pub told : moment ≡ f.moment
  pub stamp : response.stamp ≡ f.stamp
  pub tolerance : g.tolerance ≡ f.tolerance
  pub far : IsNear g.tolerance response.stamp moment → ⊥

-- the first item that the turn sets aside
abbrev pub IsFirstAside : List ℤ → ℤ → Type 0
IsFirstAside asides number = (first : ℤ) × (slice_get asides 0 ≡ Some first) × (first ≡ number)

-- what is told of the moment, the places, the fills, the births and the items set aside that a turn gives to a call with this response
abbrev pub TellsAnswered : GrantsOf → RequestOf → ResponseOf → TurnOf → WitnessKind → Unfit → Type 0
TellsAnswered g request response t kind (Untimely f) = (kind ≡ kinds.MomentForm) × IsFarMoment g response t.moment f
TellsAnswered g request response t kind (Ordered o) = (kind ≡ kinds.OrderNotWanted) × (t.places ≢ []) × IsOrdered request response t.places o
TellsAnswered g request response t kind (Disordered d) = (kind ≡ kinds.OrderForm) × IsDisordered request response t.places d
TellsAnswered g request response t kind (BirthUnwanted u) = (kind ≡ kinds.BirthNotWanted) × IsUnwantedPart Birth request response (items_born t.births) u
TellsAnswered g request response t kind (BirthFormless f) = (kind ≡ kinds.BirthForm) × IsFormlessBirth g request response t.births f
TellsAnswered g request response t kind (Aside number) = (kind ≡ kinds.AsideForm) × IsFirstAside t.asides number
TellsAnswered g request response t kind other = TellsFill request response t.fills kind other

-- the call has a response by this turn, of which this is told
pub record TellsByResponse (g : GrantsOf) (c : CallOf) (t : TurnOf) (kind : WitnessKind) (unfit : Unfit) : Type 0 where
  pub response : ResponseOf
  pub answered : IsAnswered c t response
  pub tells : TellsAnswered g c.request response t kind unfit

-- what is told of what a turn gives to a call
abbrev pub TellsGiven : GrantsOf → CallOf → TurnOf → WitnessKind → Unfit → Type 0
TellsGiven g c t kind Ended = (kind ≡ kinds.AnswerNotWanted) × IsEndedCall c t
TellsGiven g c t kind Open = (kind ≡ kinds.AnswerMissing) × IsOpenCall c t
TellsGiven g c t kind (Answer o) = (kind ≡ kinds.AnswerForm) × IsOutsideAnswer c t o.item o.kind
TellsGiven g c t kind other = TellsByResponse g c t kind other
