-- THE ORDER OF A WITNESS: each turn names a call and makes a step with it, and no call is named twice or left out (profile).
use Rattle.std.specs.Prelude.{◌≡◌, ◌<◌, ℕ, ◌+◌, ℤ, pos, List, Contains, slice_get, length, Some}
use Rattle.kmipa_record.specs.Witnesses.{TurnOf}
use Rattle.kmipa_check.specs.Grants.{GrantsOf}
use Rattle.kmipa_check.specs.Orders.{NamesAt, NamesBefore, IsNamed}
use Rattle.kmipa_check.specs.declared.fault.WitnessKind.{WitnessKind}
use Rattle.kmipa_check.specs.declared.fault.WitnessKind.TheVariants.{UnknownCall, Twice, LeftOut}
use Rattle.kmipa_turns.specs.Faults.{GivenFault}
use Rattle.kmipa_turns.specs.Recorded.{RecordedOf}
use Rattle.kmipa_turns.specs.Steps.{StepOf, IsStep}

-- a call has this number
abbrev pub HasCall : List RecordedOf → ℤ → Type 0
HasCall calls number = (c : RecordedOf) × Contains calls c × (c.number ≡ number)

-- the turn at this place is the first one that names a call, and makes this step with it
pub record IsFormed (g : GrantsOf) (calls : List RecordedOf) (turns : List TurnOf) (place : ℕ) (s : StepOf) : Type 0 where
  pub turn : TurnOf
  pub there : slice_get turns place ≡ Some turn
  pub first : NamesBefore turns place turn.call → ⊥
  pub call : RecordedOf
  pub known : Contains calls call
  pub step : IsStep g call turn s

-- each turn before this place is formed
abbrev pub AreFormedBelow : GrantsOf → List RecordedOf → List TurnOf → ℕ → Type 0
AreFormedBelow g calls turns count = (place : ℕ) → place < count → (s : StepOf) × IsFormed g calls turns place s

-- the witness is formed: each turn makes the step at its place, and no call that has ended is left out
pub record IsOrder (g : GrantsOf) (calls : List RecordedOf) (turns : List TurnOf) (steps : List StepOf) : Type 0 where
  pub counted : length steps ≡ length turns
  pub formed : (place : ℕ) (s : StepOf) → slice_get steps place ≡ Some s → IsFormed g calls turns place s
  pub all : (c : RecordedOf) (end : ℕ) → Contains calls c → c.end ≡ Some end → IsNamed turns c.number

-- the first fault of the turn at this place
pub data TurnFault (g : GrantsOf) (calls : List RecordedOf) (turns : List TurnOf) (place : ℕ) (kind : WitnessKind) : Type 0 where
  unknown : (number : ℤ) → NamesAt turns place number → (HasCall calls number → ⊥) → kind ≡ UnknownCall → TurnFault g calls turns place kind
  twice : (number : ℤ) → NamesAt turns place number → HasCall calls number → NamesBefore turns place number → kind ≡ Twice → TurnFault g calls turns place kind
  unfit : (c : RecordedOf) (t : TurnOf) → slice_get turns place ≡ Some t → t.call ≡ c.number → Contains calls c → (NamesBefore turns place t.call → ⊥)
      → GivenFault g c t kind → TurnFault g calls turns place kind

-- the call has ended, and no turn names it
pub record IsLeftOut (turns : List TurnOf) (c : RecordedOf) : Type 0 where
  pub end : ℕ
  pub ended : c.end ≡ Some end
  pub unnamed : IsNamed turns c.number → ⊥

-- The fault of a witness: that of its first faulty turn, counted from 1; or, where no turn is faulty, the number of the first call that has
-- ended, by begin marks, that no turn names.
pub data WitnessFaultAt (g : GrantsOf) (calls : List RecordedOf) (turns : List TurnOf) (at : ℕ) (kind : WitnessKind) : Type 0 where
  in_turn : (place : ℕ) → AreFormedBelow g calls turns place → TurnFault g calls turns place kind → at ≡ place + 1 → WitnessFaultAt g calls turns at kind
  left_out : (place : ℕ) (c : RecordedOf) → AreFormedBelow g calls turns (length turns) → slice_get calls place ≡ Some c → IsLeftOut turns c
      → ((earlier : ℕ) (d : RecordedOf) → earlier < place → slice_get calls earlier ≡ Some d → IsLeftOut turns d → ⊥)
      → c.number ≡ pos at → kind ≡ LeftOut → WitnessFaultAt g calls turns at kind
