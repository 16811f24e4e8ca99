-- The fault of a witness: of a turn, by what is found at it, or of a call that is left out.
use Rattle.std.proofs.Common.{◌≡◌, ◌≤◌, ℕ, ◌-◌, ℤ, pos, ◌≤ℤ◌, List, map, Some, slice_get, refl, sym, ap, ◌∙◌, subst, arith}
use mir.Syntax.{w32}
use mir.Val.{SFits}
use Rattle.std.proofs.lemmas.Int.{ints}
use Rattle.std.proofs.lemmas.Option.{get_or_from_slice_get, slice_get_within}
use Rattle.kmipa_record.specs.Marks.{MarkOf, AreRecorded, IsCallNumber, begins, call_of}
use Rattle.kmipa_record.specs.Witnesses.{TurnOf}
use Rattle.kmipa_check.specs.Calls.{CallOf, AreCalls, IsRecorded}
use Rattle.kmipa_check.specs.CallReading.{CallsFault}
use Rattle.kmipa_check.specs.Births
use Rattle.kmipa_check.specs.Fills
use Rattle.kmipa_check.specs.Grants.{GrantsOf}
use Rattle.kmipa_check.specs.declared.fault.CheckFault.{CheckFault}
use Rattle.kmipa_check.specs.declared.fault.CheckFault.TheVariants.{Outside, Witness, Memory}
use Rattle.kmipa_check.specs.Orders.{NamesAt, HasCall, NamesBefore, answered, unanswered, formless, GivenFault, unfit_answer, untimely, unfit_places, unfilled, unfit_births, unfit_asides, TurnFault, unknown, twice, unfit, WitnessFaultAt, in_turn, left_out}
use Rattle.kmipa_check.specs.Places
use Rattle.kmipa_check.specs.declared.fault.WitnessKind.{WitnessKind}
use Rattle.kmipa_check.specs.declared.fault.WitnessKind.TheVariants.{UnknownCall, Twice, LeftOut}
use Rattle.kmipa_check.proofs.CheckLemmas.{calls_once}
use Rattle.kmipa_check.proofs.FirstOutsideLemmas.{none_outside}
use Rattle.kmipa_check.proofs.OnceLemmas.{IsOnce, once_pairs}
use Rattle.kmipa_check.proofs.PlaceLemmas.{at_contains, contains_at}
use Rattle.kmipa_check.proofs.RecordedLemmas.{same_calls, recorded_at}
use Rattle.kmipa_check.proofs.WholeOrderLemmas.{number_of, same_call}
use Rattle.kmipa_unfit.specs.Finding.{IsBegun, IsFound, IsNamedFault, IsTurnFault, LeavesOut}
use Rattle.kmipa_unfit.specs.Explanations.{HasFault}

-- what a turn gives to a call is another fault than a call that is left out
given_kind : (g : GrantsOf) (c : CallOf) (t : TurnOf) (kind : WitnessKind) → GivenFault g c t kind → kind ≡ LeftOut → ⊥
given_kind g c t kind (unfit_answer (answered x has some is)) e = absurd cc
given_kind g c t kind (unfit_answer (unanswered unended none is)) e = absurd cc
given_kind g c t kind (unfit_answer (formless bytes i k unended some out is)) e = absurd cc
given_kind g c t kind (untimely x had late is) e = absurd cc
given_kind g c t kind (unfit_places x had moment timed (Places.unwanted some wants is)) e = absurd cc
given_kind g c t kind (unfit_places x had moment timed (Places.disordered some wants none is)) e = absurd cc
given_kind g c t kind (unfilled x had moment timed ps gives taken (Fills.unwanted none is)) e = absurd cc
given_kind g c t kind (unfilled x had moment timed ps gives taken (Fills.missing all none is)) e = absurd cc
given_kind g c t kind (unfilled x had moment timed ps gives taken (Fills.misformed all none some is)) e = absurd cc
given_kind g c t kind (unfit_births x had moment timed ps gives taken full filled (Births.not_wanted none is)) e = absurd cc
given_kind g c t kind (unfit_births x had moment timed ps gives taken full filled (Births.formless all some is)) e = absurd cc
given_kind g c t kind (unfit_asides x had moment timed ps gives taken full filled asked born some is) e = absurd cc

turn_kind : (g : GrantsOf) (calls : List CallOf) (turns : List TurnOf) (place : ℕ) (kind : WitnessKind) → TurnFault g calls turns place kind → kind ≡ LeftOut → ⊥
turn_kind g calls turns place kind (unknown n at none is) e = absurd cc
turn_kind g calls turns place kind (twice n at has before is) e = absurd cc
turn_kind g calls turns place kind (unfit c t at named known first fault) e = given_kind g c t kind fault e

module _ (g : GrantsOf) (calls : List CallOf) (turns : List TurnOf) (at : ℕ) (kind : WitnessKind) where
  pub turn_of_fault : WitnessFaultAt g calls turns at kind → (kind ≡ LeftOut → ⊥) → IsTurnFault g calls turns at kind
  turn_of_fault (in_turn place below fault is) not = (place, is, fault)
  turn_of_fault (left_out place c below there left first is same) not = absurd (not same)

  pub call_of_fault : WitnessFaultAt g calls turns at kind → kind ≡ LeftOut → LeavesOut calls turns (pos at)
  call_of_fault (in_turn place below fault is) e = absurd (turn_kind g calls turns place kind fault e)
  call_of_fault (left_out place c below there left first is same) e = (c, (contains_at calls place c there, is), left)

-- the fault stands among the calls that are read
pub fault_stands : (g : GrantsOf) (marks : List MarkOf) (turns : List TurnOf) (at : ℕ) (kind : WitnessKind) (calls : List CallOf) → AreRecorded marks → AreCalls marks calls → HasFault g marks turns at kind
    → WitnessFaultAt g calls turns at kind
fault_stands g marks turns at kind calls recorded are h =
    let P : List CallOf → Type 0 = λ cs. WitnessFaultAt g cs turns at kind in
    subst P (same_calls marks h.0 calls recorded h.1 are) h.2

-- a call has one number
pub its_numbers : (marks : List MarkOf) (calls : List CallOf) → AreRecorded marks → AreCalls marks calls → IsOnce (map number_of calls)
its_numbers marks calls r are = once_pairs (map number_of calls) (calls_once marks calls r are)

pub one_call : (calls : List CallOf) → IsOnce (map number_of calls) → (number : ℤ) (c d : CallOf) → IsFound calls number c → IsFound calls number d → c ≡ d
one_call calls once number c d f g =
    let p = at_contains calls c f.0 in
    let q = at_contains calls d g.0 in
    same_call calls once p.0 q.0 c d p.1 q.1 (f.1 ∙ sym g.1)

-- a call has its begin mark
pub begun : (marks : List MarkOf) (calls : List CallOf) (number : ℤ) (c : CallOf) → AreCalls marks calls → IsFound calls number c → IsBegun marks c
begun marks calls number c are found =
    let p = at_contains calls c found.0 in
    let its = recorded_at marks calls p.0 c are p.1 in
    record { client = its.carried.client; asked = its.asked; there = its.carried.there }

pub recorded : (marks : List MarkOf) (calls : List CallOf) (number : ℤ) (c : CallOf) → AreCalls marks calls → IsFound calls number c → IsRecorded marks c
recorded marks calls number c are found = let p = at_contains calls c found.0 in recorded_at marks calls p.0 c are p.1

module _ (g : GrantsOf) (calls : List CallOf) (turns : List TurnOf) (place : ℕ) (kind : WitnessKind) (t : TurnOf) (there : slice_get turns place ≡ Some t) (fault : TurnFault g calls turns place kind) where
  same_number : (n : ℤ) → NamesAt turns place n → n ≡ t.call
  same_number n (u, at, e) = let same : u ≡ t = cc in sym e ∙ ap (λ (x : TurnOf). x.call) same

  pub unknown_of : (HasCall calls t.call → ⊥) → kind ≡ UnknownCall
  unknown_of lacks = by fault
    where
      by : TurnFault g calls turns place kind → kind ≡ UnknownCall
      by (unknown n at none is) = is
      by (twice n at has before is) = absurd (lacks (has.0, has.1, has.2 ∙ same_number n at))
      by (unfit c u at named known first given) = let same : u ≡ t = cc in absurd (lacks (c, known, sym named ∙ ap (λ (x : TurnOf). x.call) same))

  pub twice_of : HasCall calls t.call → NamesBefore turns place t.call → kind ≡ Twice
  twice_of has before = by fault
    where
      by : TurnFault g calls turns place kind → kind ≡ Twice
      by (unknown n at none is) = absurd (none (has.0, has.1, has.2 ∙ sym (same_number n at)))
      by (twice n at had named is) = is
      by (unfit c u at named known first given) =
          let same : u ≡ t = cc in
          let P : TurnOf → Type 0 = λ x. NamesBefore turns place x.call in
          absurd (first (subst P (sym same) before))

  pub given_of : IsOnce (map number_of calls) → (c : CallOf) → IsFound calls t.call c → (NamesBefore turns place t.call → ⊥) → GivenFault g c t kind
  given_of once c found first = by fault
    where
      by : TurnFault g calls turns place kind → GivenFault g c t kind
      by (unknown n at none is) = absurd (none (c, found.0, found.1 ∙ sym (same_number n at)))
      by (twice n at has before is) = let P : ℤ → Type 0 = λ z. NamesBefore turns place z in absurd (first (subst P (same_number n at) before))
      by (unfit d u at named known f given) =
          let turn : u ≡ t = cc in
          let number : d.number ≡ t.call = sym named ∙ ap (λ (x : TurnOf). x.call) turn in
          let call : d ≡ c = one_call calls once t.call d c (known, number) found in
          let P : CallOf → Type 0 = λ x. GivenFault g x u kind in
          let Q : TurnOf → Type 0 = λ x. GivenFault g c x kind in
          subst Q turn (subst P call given)

-- a fault of a turn stands at the turn's place
pub fault_there : (g : GrantsOf) (calls : List CallOf) (turns : List TurnOf) (at : ℕ) (kind : WitnessKind) → IsTurnFault g calls turns at kind → TurnFault g calls turns (at - 1) kind
fault_there g calls turns at kind f =
    let stood : f.0 ≡ at - 1 = omega (arith, f.1) in
    let P : ℕ → Type 0 = λ n. TurnFault g calls turns n kind in
    subst P stood f.2

pub fault_within : (g : GrantsOf) (calls : List CallOf) (turns : List TurnOf) (place : ℕ) (kind : WitnessKind) → TurnFault g calls turns place kind → (t : TurnOf) × (slice_get turns place ≡ Some t)
fault_within g calls turns place kind (unknown n at none is) = (at.0, at.1)
fault_within g calls turns place kind (twice n at has before is) = (at.0, at.1)
fault_within g calls turns place kind (unfit c t at named known first given) = (t, at)

-- the fault of a turn that names a call
pub named_fault : (g : GrantsOf) (marks : List MarkOf) (calls : List CallOf) (turns : List TurnOf) (place : ℕ) (kind : WitnessKind) → AreRecorded marks → AreCalls marks calls → TurnFault g calls turns place kind → (t : TurnOf)
    → slice_get turns place ≡ Some t → (c : CallOf) → IsFound calls t.call c → IsNamedFault g c turns place kind
named_fault g marks calls turns place kind r are fault t there c found = (
  t,
  there,
  sym found.1,
  (λ before. twice_of g calls turns place kind t there fault (c, found.0, found.1) before),
  (λ first. given_of g calls turns place kind t there fault (its_numbers marks calls r are) c found first),
)

-- a recorded transcript is read, unless memory runs out
pub only_memory : (marks : List MarkOf) (calls : List CallOf) (f : CheckFault) → AreRecorded marks → AreCalls marks calls → CallsFault marks f → f ≡ Memory
only_memory marks calls (Outside number side o) r are h = absurd (none_outside marks r calls number side o.item o.kind are h)
only_memory marks calls (Witness w) r are h = absurd h
only_memory marks calls Memory r are h = refl

-- the number of a call is one of 32 bits
call_small : (marks : List MarkOf) (calls : List CallOf) (number : ℤ) (c : CallOf) → AreRecorded marks → AreCalls marks calls → IsFound calls number c → number ≤ℤ pos 2_147_483_647
call_small marks calls number c r are found =
    let its = recorded marks calls number c are found in
    let mark : MarkOf = begins c.number its.carried.client its.asked in
    let Q : MarkOf → Type 0 = λ m. IsCallNumber (call_of m) in
    let small : IsCallNumber c.number = subst Q (get_or_from_slice_get marks c.begin mark mark its.carried.there) (r.numbered c.begin mark (slice_get_within marks c.begin mark its.carried.there)) in
    let P : ℤ → Type 0 = λ z. z ≤ℤ pos 2_147_483_647 in
    subst P found.1 small.greatest

pub left_fits : (marks : List MarkOf) (calls : List CallOf) (turns : List TurnOf) (at : ℕ) → AreRecorded marks → AreCalls marks calls → LeavesOut calls turns (pos at) → SFits w32 (pos at)
left_fits marks calls turns at r are left =
    let small = call_small marks calls (pos at) left.0 r are left.1 in
    let below : at ≤ 2_147_483_647 = omega (arith, ints, small) in
    record { sfits = omega (arith, below) }
