-- The parts of a turn, put together.
use Rattle.std.proofs.Common.{◌≡◌, inl, inr, ℕ, ℤ, List, Option, Some, None, refl}
use Rattle.kmipa_ttlv.specs.Tree.{Tree}
use Rattle.kmipa_record.specs.Witnesses.{TurnOf}
use Rattle.kmipa_passed.specs.Leaving.{AsideOf as LeftOf}
use Rattle.kmipa_places.specs.Calls.{ReadOf, unread, read, IsCall}
use Rattle.kmipa_check.specs.Grants.{GrantsOf}
use Rattle.kmipa_check.specs.Moments.{IsMoment, IsUntimely}
use Rattle.kmipa_check.specs.declared.fault.StepFault.{StepFault}
use Rattle.kmipa_check.specs.declared.fault.StepFault.TheVariants.{Unfit, Memory}
use Rattle.kmipa_check.specs.declared.fault.WitnessKind.TheVariants.{MomentForm, AsideForm}
use Rattle.kmipa_turns.specs.Answered.{IsAnswered}
use Rattle.kmipa_turns.specs.Faults as faults
use Rattle.kmipa_turns.specs.Faults.{Refuses, unfit_answer, uncompleted, unfit_asides}
use Rattle.kmipa_turns.specs.Recorded.{RecordedOf, IsItem}
use Rattle.kmipa_turns.specs.Steps.{StepOf, Completes, IsStep, MaySetAside, leaves, takes, excepted_in}
use Rattle.kmipa_turns.specs.Turning.{AnswerRefused, AreTaken, FullRefused, IsFull, PlacesRefused, ReadRefused, ReadStep, UnreadRefused, UnreadStep}

-- ---- a call that can be read

module _ (g : GrantsOf) (t : TurnOf) (x : ReadOf) where
  pub untimely_refuses : IsUntimely g x.stamp t.moment → ReadRefused g t x (Unfit MomentForm)
  untimely_refuses late = inl (faults.untimely late refl)

  module _ (moment : ℤ) (timed : IsMoment g x.stamp t.moment moment) where
    pub places_refuse : (fault : StepFault) → PlacesRefused x t.places fault → ReadRefused g t x fault
    places_refuse (Unfit kind) told = inl (faults.unfit_places moment timed told)
    places_refuse Memory told = tt

    module _ (places : Option (List ℕ)) (taken : AreTaken x t.places places) where
      pub full_refuses : (fault : StepFault) → FullRefused g x t fault → ReadRefused g t x fault
      full_refuses (Unfit kind) (inl f) = inl (faults.unfilled moment timed places taken.0 taken.1 f)
      full_refuses (Unfit kind) (inr (full, filled, f)) = inl (faults.unfit_births moment timed places taken.0 taken.1 full filled f)
      full_refuses Memory told = tt

      module _ (full : ReadOf) (f : IsFull g x t moment full) where
        pub completes : Completes g x t full places
        completes = record {
          moment = moment;
          timed = timed;
          ordered = taken.0;
          may = taken.1;
          response = f.response;
          filled = f.filled;
          request = f.request;
          born = f.born;
          is = f.is;
        }

        pub asides_refuse : (MaySetAside (read x) t.asides → ⊥) → ReadRefused g t x (Unfit AsideForm)
        asides_refuse not = inr ((full, places, completes), not, refl)

        pub read_made : (c : RecordedOf) (s : StepOf) → MaySetAside (read x) t.asides
            → s ≡ record { number = c.number; client = c.client; begin = c.begin; end = c.end; stamp = Some x.stamp; taken = takes full places; excepted = excepted_in x.places } → ReadStep g c t x s
        read_made c s may is = record { full = full; places = places; completes = completes; aside = may; is = is }

-- ---- the turn

module _ (g : GrantsOf) (c : RecordedOf) (t : TurnOf) (request : Option Tree) (asks : IsItem c.request request) where
  pub answer_refuses : (fault : StepFault) → AnswerRefused c t request fault → Refuses g c t fault
  answer_refuses (Unfit kind) told = unfit_answer request asks told
  answer_refuses Memory told = tt

  module _ (response : Option Tree) (answers : IsAnswered c t request response) where
    pub unread_refuses : (left : LeftOf) → IsCall request response t.asides (unread left) → (fault : StepFault) → UnreadRefused t left fault → Refuses g c t fault
    unread_refuses left said (Unfit kind) (inl f) = uncompleted request response asks answers (unread left) said f
    unread_refuses left said (Unfit kind) (inr (nothing, not, is)) = unfit_asides request response asks answers (unread left) said nothing not is
    unread_refuses left said Memory told = tt

    pub unread_makes : (left : LeftOf) → IsCall request response t.asides (unread left) → t.call ≡ c.number → (s : StepOf) → UnreadStep c t request response left s → IsStep g c t s
    unread_makes left said named s u = record {
      named = named;
      request = request;
      asks = asks;
      response = response;
      answers = answers;
      call = unread left;
      said = said;
      aside = u.aside;
      stamp = None;
      taken = leaves left u.counts;
      excepted = u.excepted;
      takes = (u.nothing, refl, (u.counts, u.counted, refl), u.is_excepted);
      is = u.is;
    }

    pub read_refuses : (x : ReadOf) → IsCall request response t.asides (read x) → (fault : StepFault) → ReadRefused g t x fault → Refuses g c t fault
    read_refuses x said (Unfit kind) (inl f) = uncompleted request response asks answers (read x) said f
    read_refuses x said (Unfit kind) (inr (done, not, is)) = unfit_asides request response asks answers (read x) said done not is
    read_refuses x said Memory told = tt

    pub read_makes : (x : ReadOf) → IsCall request response t.asides (read x) → t.call ≡ c.number → (s : StepOf) → ReadStep g c t x s → IsStep g c t s
    read_makes x said named s r = record {
      named = named;
      request = request;
      asks = asks;
      response = response;
      answers = answers;
      call = read x;
      said = said;
      aside = r.aside;
      stamp = Some x.stamp;
      taken = takes r.full r.places;
      excepted = excepted_in x.places;
      takes = (refl, (r.full, r.places, r.completes, refl), refl);
      is = r.is;
    }
