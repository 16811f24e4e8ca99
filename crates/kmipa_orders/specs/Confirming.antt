-- The witness of an order, and what its check comes to. Not promised: `Found` says what a search tells.
use Rattle.std.specs.Prelude.{◌≡◌, ℕ, List, map, Result, Ok, Err}
use Rattle.kmipa_record.specs.Marks.{MarkOf}
use Rattle.kmipa_record.specs.Declarations.{DeclarationOf}
use Rattle.kmipa_record.specs.Witnesses.{TurnOf, IsWitness, bare_turn, witness_of}
use Rattle.kmipa_record.specs.declared.witness.Witness.{Witness}
use Rattle.kmipa_check.specs.Steps.{StepOf}
use Rattle.kmipa_check.specs.Runs.{IsAccepted}
use Rattle.kmipa_check.specs.declared.fault.CheckFault.{CheckFault}
use Rattle.kmipa_check.specs.declared.fault.CheckFault.TheVariants as fault
use Rattle.kmipa_orders.specs.Taken.{step_at}
use Rattle.kmipa_orders.specs.declared.found.Found.{Found}
use Rattle.kmipa_orders.specs.declared.found.Found.TheVariants.{Yes, GaveUp, Refuted, Impossible, OutOfTime}

abbrev pub turns_at : List StepOf → List ℕ → List TurnOf
turns_at calls places = map (λ place. bare_turn (step_at calls place).number) places

-- an accepted witness is handed out, unless memory runs out
abbrev pub Confirms : Witness → ℕ → Result Found CheckFault → Type 0
Confirms witness count (Ok (Yes w n)) = (w ≡ witness) × (n ≡ count)
Confirms witness count (Ok (GaveUp n)) = ⊥
Confirms witness count (Ok (Refuted n object)) = ⊥
Confirms witness count (Ok (Impossible n place)) = ⊥
Confirms witness count (Ok (OutOfTime n after)) = ⊥
Confirms witness count (Err fault.Memory) = Unit {0}
Confirms witness count (Err (fault.Outside number side o)) = ⊥
Confirms witness count (Err (fault.Witness f)) = ⊥

-- a witness is handed out that is accepted and can be written, or nothing is reported but the count
abbrev pub IsTried : List MarkOf → DeclarationOf → Witness → ℕ → Result Found CheckFault → Type 0
IsTried marks declared witness count (Ok (Yes w n)) = (w ≡ witness) × (n ≡ count) × IsAccepted marks declared (witness_of witness) × ((bytes : List ℕ) × IsWitness bytes (witness_of witness))
IsTried marks declared witness count (Ok (GaveUp n)) = n ≡ count
IsTried marks declared witness count (Ok (Refuted n object)) = ⊥
IsTried marks declared witness count (Ok (Impossible n place)) = ⊥
IsTried marks declared witness count (Ok (OutOfTime n after)) = ⊥
IsTried marks declared witness count (Err fault.Memory) = Unit {0}
IsTried marks declared witness count (Err (fault.Outside number side o)) = ⊥
IsTried marks declared witness count (Err (fault.Witness f)) = ⊥
