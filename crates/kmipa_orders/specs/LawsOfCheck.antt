-- The laws of a check that a search stands on, together. Not promised.
use Rattle.kmipa_check.specs.Plain.{PlainCallHasOneStep, PlainCallIsTakenBare}
use Rattle.kmipa_check.specs.Laws.{OneListOfCalls, CallsAreTimed, TakenIsKnown, RefusedIsNever, StepIsReadable, KnownIsAccepted}
use Rattle.kmipa_check.specs.Verdicts.{AcceptedIsYes}

pub record LawsOfCheck : Type 0 where
  pub one_step : PlainCallHasOneStep
  pub taken_bare : PlainCallIsTakenBare
  pub one_list : OneListOfCalls
  pub timed : CallsAreTimed
  pub taken : TakenIsKnown
  pub refused : RefusedIsNever
  pub readable : StepIsReadable
  pub accepted : KnownIsAccepted
  pub is_yes : AcceptedIsYes
