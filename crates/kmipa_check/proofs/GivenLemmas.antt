-- What refuses a turn: the first fault of what it gives to its call.
use Rattle.std.proofs.Common.{◌≢◌, ℕ, ℤ, List, [], Option, refl}
use Rattle.kmipa_record.specs.Witnesses.{TurnOf}
use Rattle.kmipa_msgs.specs.Messages.{RequestOf, ResponseOf}
use Rattle.kmipa_check.specs.declared.fault.StepFault.{StepFault}
use Rattle.kmipa_check.specs.declared.fault.StepFault.TheVariants.{Unfit, Memory}
use Rattle.kmipa_check.specs.declared.fault.WitnessKind.TheVariants.{MomentForm, AsideForm}
use Rattle.kmipa_check.specs.Bearing.{BirthsRefused}
use Rattle.kmipa_check.specs.Births.{IsBorn}
use Rattle.kmipa_check.specs.Calls.{CallOf}
use Rattle.kmipa_check.specs.Fills.{IsFilled}
use Rattle.kmipa_check.specs.Filling.{FillsRefused}
use Rattle.kmipa_check.specs.Grants.{GrantsOf}
use Rattle.kmipa_check.specs.Moments.{IsMoment, IsUntimely}
use Rattle.kmipa_check.specs.Ordering.{AnswerRefused}
use Rattle.kmipa_check.specs.Orders.{Refuses, unfit_answer, untimely, unfit_places, unfilled, unfit_births, unfit_asides}
use Rattle.kmipa_check.specs.Places.{AreTaken, PlacesRefused}
use Rattle.kmipa_check.specs.Steps.{IsAnswered}

module _ (g : GrantsOf) (c : CallOf) (t : TurnOf) where
  pub answer_refuses : (fault : StepFault) → AnswerRefused c t fault → Refuses g c t fault
  answer_refuses (Unfit kind) told = unfit_answer told
  answer_refuses Memory told = tt

  -- where the call has a response by the turn
  module _ (response : ResponseOf) (had : IsAnswered c t response) where
    pub moment_refuses : IsUntimely g response.stamp t.moment → Refuses g c t (Unfit MomentForm)
    moment_refuses late = untimely response had late refl

    -- and a moment
    module _ (moment : ℤ) (timed : IsMoment g response.stamp t.moment moment) where
      pub places_refuse : (fault : StepFault) → PlacesRefused c.request response t.places fault → Refuses g c t fault
      places_refuse (Unfit kind) told = unfit_places response had moment timed told
      places_refuse Memory told = tt

      -- and its items are taken so
      module _ (places : Option (List ℕ)) (taken : AreTaken c.request response t.places places) where
        pub fills_refuse : (fault : StepFault) → FillsRefused c.request response t.fills fault → Refuses g c t fault
        fills_refuse (Unfit kind) told = unfilled response had moment timed places taken.0 taken.1 told
        fills_refuse Memory told = tt

        -- and the fills are put in
        module _ (full : ResponseOf) (filled : IsFilled c.request response t.fills full) where
          pub births_refuse : (fault : StepFault) → BirthsRefused g c.request response t.births fault → Refuses g c t fault
          births_refuse (Unfit kind) told = unfit_births response had moment timed places taken.0 taken.1 full filled told
          births_refuse Memory told = tt

          pub asides_refuse : (asked : RequestOf) → IsBorn g c.request response t.births asked → t.asides ≢ [] → Refuses g c t (Unfit AsideForm)
          asides_refuse asked born some = unfit_asides response had moment timed places taken.0 taken.1 full filled asked born some refl
