-- What the definitions say together of steps.
use Rattle.std.specs.Prelude.{◌≡◌, ◌≤◌, true, All, IfSome}
use Rattle.kmipa_record.specs.Witnesses.{TurnOf}
use Rattle.kmipa_batch.specs.Orders.{order_given}
use Rattle.kmipa_bundle.specs.Bundles.{IsWhole, MayTake}
use Rattle.kmipa_bundle.specs.Refusals.{is_readable_call}
use Rattle.kmipa_check.specs.Grants.{GrantsOf}
use Rattle.kmipa_turns.specs.Recorded.{RecordedOf}
use Rattle.kmipa_turns.specs.Steps.{StepOf, TakenOf, leaves, takes, IsStep}

-- a call that can be read has its places and what there is to judge, and its items may be done in the order of these places, counted from 1
abbrev pub IsTakable : TakenOf → Type 0
IsTakable (leaves left counts) = Unit {0}
IsTakable (takes c places) = IsWhole c × (is_readable_call c ≡ true) × MayTake c (order_given places) × IfSome places (All (λ place. 1 ≤ place))

-- what a turn makes of its call can be taken
abbrev pub StepsAreTakable : Type 0
StepsAreTakable = (g : GrantsOf) (c : RecordedOf) (t : TurnOf) (s : StepOf) → IsStep g c t s → IsTakable s.taken
