-- The step of a plain call.
use Rattle.std.proofs.Common.{◌≡◌, ℕ, ℤ, pos, ◌+ℤ◌, ◌≤ℤ◌, List, Option, Some, None, refl, sym, ap, ◌∙◌, subst, arith}
use Rattle.std.proofs.lemmas.Int.{ints}
use Rattle.kmipa_record.specs.Witnesses.{TurnOf}
use Rattle.kmipa_msgs.specs.Messages.{RequestOf, ResponseOf}
use Rattle.kmipa_check.specs.Calls.{CallOf}
use Rattle.kmipa_check.specs.Fills.{IsFilled}
use Rattle.kmipa_check.specs.Grants.{GrantsOf, GrantsNothing}
use Rattle.kmipa_check.specs.Moments.{IsMoment, at_moment}
use Rattle.kmipa_check.specs.Places.{MayBeTaken}
use Rattle.kmipa_check.specs.Steps.{IsAnswered, recorded, given, step_at, step_with}
use Rattle.kmipa_check.specs.Plain.{IsPlainCall, PlainCallHasOneStep, PlainCallIsTakenBare}
use Rattle.kmipa_check.proofs.BornLemmas.{born_itself, born_same}
use Rattle.kmipa_check.proofs.FillLemmas.{filled_itself, filled_same}

-- a turn leaves a plain call its response
its_response : (c : CallOf) (response : ResponseOf) (t : TurnOf) (other : ResponseOf) → c.response ≡ Some response → IsAnswered c t other → other ≡ response
its_response c response t other is (recorded had none) = cc
its_response c response t other is (given bytes none had says) = absurd cc

-- a plain call is taken by place
its_places : (c : CallOf) (response other : ResponseOf) (places : Option (List ℕ)) → IsPlainCall c response → MayBeTaken c.request other places → places ≡ None
its_places c response other None plain taken = refl
its_places c response other (Some places) plain taken = let a = plain.ordered in let b = taken.0.0 in cc

-- where nothing is granted, it is taken at its Time Stamp
pub its_moment : (g : GrantsOf) (stamp : ℤ) (told : Option ℤ) (moment : ℤ) → GrantsNothing g → IsMoment g stamp told moment → moment ≡ stamp
its_moment g stamp None moment nothing timed = timed
its_moment g stamp (Some told) moment nothing timed = timed.0 ∙ same (subst P nothing.tolerance timed.1)
  where
    P : ℤ → Type 0
    P tolerance = (told ≤ℤ (stamp +ℤ tolerance)) × (stamp ≤ℤ (told +ℤ tolerance))

    same : P (pos 0) → told ≡ stamp
    same h = omega (arith, ints, h.0, h.1)

pub plain_call_has_one_step_lem : PlainCallHasOneStep
plain_call_has_one_step_lem g c response t s nothing plain step =
    let same = its_response c response t step.response plain.given step.answered in
    let P : ResponseOf → Type 0 = λ r. IsFilled c.request r t.fills step.full in
    let full = filled_same c.request response t.fills step.full plain.complete (subst P same step.filled) in
    let moment = its_moment g step.response.stamp t.moment step.moment nothing step.timed ∙ ap (λ (r : ResponseOf). r.stamp) same in
    let asked = born_same g c.request step.response t.births step.asked nothing.own step.born in
    step.is ∙ ap (step_at c step.asked step.full step.moment) (its_places c response step.response step.places plain step.taken)
    ∙ ap (λ (r : RequestOf). step_at c r step.full step.moment None) asked
    ∙ ap (λ (r : ResponseOf). step_at c c.request r step.moment None) full ∙ ap (λ (m : ℤ). step_at c c.request response m None) moment

pub plain_call_is_taken_bare_lem : PlainCallIsTakenBare
plain_call_is_taken_bare_lem g c response plain = record {
  named = refl;
  response = response;
  answered = recorded plain.given refl;
  moment = response.stamp;
  timed = refl;
  places = None;
  ordered = refl;
  taken = tt;
  full = response;
  filled = filled_itself c.request response plain.complete;
  asked = c.request;
  born = born_itself g c.request response;
  no_aside = refl;
  is = refl;
}
