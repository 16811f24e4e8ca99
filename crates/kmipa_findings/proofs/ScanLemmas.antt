-- The scan for turns that are forced, one call more.
use Rattle.std.proofs.Common.{◌≡◌, ◌<◌, ◌≤◌, ◌⊎◌, inl, inr, ℕ, ◌+◌, ◌-◌, List, [], map, length, get_or, Option, Some, None, slice_get, refl, sym, ap, subst, arith}
use Rattle.std.proofs.lemmas.Option.{slice_get_within}
use Rattle.kmipa_record.specs.Witnesses.{TurnOf, fill_of, turn_of}
use Rattle.kmipa_record.specs.declared.turn.Turn.{Turn}
use Rattle.kmipa_check.specs.Runs.{EndsAhead}
use Rattle.kmipa_check.proofs.PlaceLemmas.{apart, get_at, mapped_at}
use Rattle.kmipa_turns.specs.Recorded.{RecordedOf, recorded_of}
use Rattle.kmipa_turns.specs.Steps.{StepOf, step_of, taken_of}
use Rattle.kmipa_turns.specs.declared.recorded.Recorded.{Recorded}
use Rattle.kmipa_turns.specs.declared.step.Step.{Step}
use Rattle.kmipa_findings.specs.Forced.{BeginFrom, IsForcedAt, IsOneWay, ScannedFrom}

pub scanned_none : (calls : List RecordedOf) (turns : List TurnOf) (order : List StepOf) (count from mark : ℕ) → length calls ≤ from → count ≤ from → ScannedFrom calls turns order count from mark
scanned_none calls turns order count from mark all few = record {
  behind = λ later other after there. absurd (omega (arith, all, after, slice_get_within calls later other there));
  forced = λ place after below. absurd (omega (arith, few, after, below));
}

module _ (calls : List RecordedOf) (turns : List TurnOf) (order : List StepOf) (count k : ℕ) (c : RecordedOf) (at : slice_get calls k ≡ Some c) (least next : ℕ) (low : next ≤ least)
    (under : next ≤ c.begin) (this : k < count → BeginFrom calls (k + 1) least → IsForcedAt calls turns order k) (s : ScannedFrom calls turns order count (k + 1) least) where
  begin_more : BeginFrom calls k next
  begin_more later other from there = by (apart k later)
    where
      by : (k < later) ⊎ ((later < k) ⊎ (k ≡ later)) → next ≤ other.begin
      by (inl b) = omega (arith, low, s.behind later other (omega (arith, b)) there)
      by (inr (inl b)) = absurd (omega (arith, from, b))
      by (inr (inr e)) =
          let P : ℕ → Type 0 = λ n. slice_get calls n ≡ Some other in
          let here = subst P (sym e) there in
          let same : c ≡ other = cc in
          let B : RecordedOf → Type 0 = λ x. next ≤ x.begin in
          subst B same under

  forced_here : (place : ℕ) → k ≤ place → place < count → IsForcedAt calls turns order place
  forced_here place from below = by (apart k place)
    where
      by : (k < place) ⊎ ((place < k) ⊎ (k ≡ place)) → IsForcedAt calls turns order place
      by (inl b) = s.forced place (omega (arith, b)) below
      by (inr (inl b)) = absurd (omega (arith, from, b))
      by (inr (inr e)) =
          let P : ℕ → Type 0 = λ n. IsForcedAt calls turns order n in
          subst P e (this (omega (arith, e, below)) s.behind)

  scanned_next : ScannedFrom calls turns order count k next
  scanned_next = record { behind = begin_more; forced = forced_here }

-- one call more, before the others
pub scanned_more : (calls : List Recorded) (turns : List TurnOf) (order : List StepOf) (count p : ℕ) (c : Recorded) (least next : ℕ) → 0 < p → p ≤ length calls → c ≡ get_or calls (p - 1) c → next ≤ least
    → next ≤ c.begin → (p - 1 < count → BeginFrom (map recorded_of calls) (p - 1 + 1) least → IsForcedAt (map recorded_of calls) turns order (p - 1))
    → ScannedFrom (map recorded_of calls) turns order count p least → ScannedFrom (map recorded_of calls) turns order count (p - 1) next
scanned_more calls turns order count p c least next some within is low under this s =
    let at = mapped_at recorded_of calls (p - 1) c (omega (arith, some, within)) is in
    let P : ℕ → Type 0 = λ n. ScannedFrom (map recorded_of calls) turns order count n least in
    let step : p ≡ p - 1 + 1 = omega (arith, some) in
    scanned_next (map recorded_of calls) turns order count (p - 1) (recorded_of c) at least next low under this (subst P step s)

-- the turn at a place is forced, by what is tested of its call, of itself and of its step
pub forced_at : (calls : List Recorded) (turns : List Turn) (steps : List Step) (place least : ℕ) (call : Recorded) (turn : Turn) (step : Step) → slice_get calls place ≡ Some call
    → slice_get turns place ≡ Some turn → slice_get steps place ≡ Some step → step.number ≡ call.number → IsOneWay (taken_of step.taken) → EndsAhead step.end least → turn.asides.items ≡ []
    → turn.fills.items ≡ [] → BeginFrom (map recorded_of calls) (place + 1) least → IsForcedAt (map recorded_of calls) (map turn_of turns) (map step_of steps) place
forced_at calls turns steps place least call turn step has taking made same way ahead unaside unfilled behind = by step.end refl ahead
  where
    by : (e : Option ℕ) → step.end ≡ e → EndsAhead e least → IsForcedAt (map recorded_of calls) (map turn_of turns) (map step_of steps) place
    by None is none = absurd none
    by (Some end) is before = record {
      call = recorded_of call;
      there = get_at recorded_of calls place call has;
      step = step_of step;
      made = get_at step_of steps place step made;
      taken = same;
      one_way = way;
      end = end;
      ended = is;
      ahead = λ later other beyond there. omega (arith, before, behind later other (omega (arith, beyond)) there);
      turn = turn_of turn;
      taking = get_at turn_of turns place turn taking;
      unaside = unaside;
      unfilled = ap (map fill_of) unfilled;
    }
