-- WHICH ITEMS ARE PASSED: those that aren't judged for their request or their answer, whatever the witness sets aside (profile). They are those that a tally
-- counts by request or by answer, but for the calls that can't be read.
use Rattle.std.specs.Prelude.{ℕ, if◌then◌else◌, List, [], ◌∷◌, ◌++◌, Option, Some, None}
use Rattle.kmipa_msgs.specs.declared.operation.Operation.{Operation}
use Rattle.kmipa_msgs.specs.Messages.{operation_asked}
use Rattle.kmipa_msgs.specs.Operations.{operation_number, operation_of}
use Rattle.kmipa_places.specs.Counting.{is_judged_operation}
use Rattle.kmipa_places.specs.Places.{PlaceOf, judged, passed}
use Rattle.kmipa_places.specs.declared.place.By.{By}
use Rattle.kmipa_places.specs.declared.place.By.TheVariants.{Request, Answer, Witness}
use Rattle.kmipa_turns.specs.Steps.{StepOf, TakenOf, leaves, takes}

-- a place that is judged, but asks for none of the operations that are, as Query
abbrev pub passed_judged : Operation → Option ℕ
passed_judged operation = if is_judged_operation operation then None else Some (operation_number operation)

-- one that isn't judged, unless the witness alone sets it aside
abbrev pub unless_witness : By → ℕ → Option ℕ
unless_witness Request number = Some number
unless_witness Answer number = Some number
unless_witness Witness number = None

abbrev pub passed_by : By → ℕ → Option ℕ
passed_by by number = if is_judged_operation (operation_of number) then unless_witness by number else Some number

-- the number of the operation that a passed place asks for; 0 where it can't be read
abbrev pub passed_at : PlaceOf → Option ℕ
passed_at (judged ask answer) = passed_judged (operation_asked ask.asked)
passed_at (passed by p) = passed_by by p.asks

abbrev pub with_number : Option ℕ → List ℕ → List ℕ
with_number None ns = ns
with_number (Some n) ns = n ∷ ns

-- those of places, one by one
abbrev pub passed_among : List PlaceOf → List ℕ
passed_among [] = []
passed_among (p ∷ ps) = with_number (passed_at p) (passed_among ps)

-- the items of a call that can't be read have no places, and aren't told
abbrev pub passed_in : TakenOf → List ℕ
passed_in (leaves left counts) = []
passed_in (takes c places) = passed_among c.places

-- THE DEFINITION: those of steps, one by one
abbrev pub passed_along : List StepOf → List ℕ
passed_along [] = []
passed_along (s ∷ steps) = passed_in s.taken ++ passed_along steps
