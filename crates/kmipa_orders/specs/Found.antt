-- What a search tells.
use Rattle.std.specs.Prelude.{◌≡◌, ◌<◌, ◌≤◌, ℕ, pos, List, length, map, Result, Ok, Err}
use Rattle.std.specs.String.{string_bytes}
use Rattle.kmipa_record.specs.Marks.{MarkOf}
use Rattle.kmipa_record.specs.Declarations.{DeclarationOf}
use Rattle.kmipa_record.specs.Witnesses.{witness_of, IsWitness}
use Rattle.kmipa_check.specs.Calls.{CallOf, AreCalls, IsFirstOutside}
use Rattle.kmipa_check.specs.Grants.{GrantsNothing, grants_declared}
use Rattle.kmipa_check.specs.Steps.{StepOf}
use Rattle.kmipa_check.specs.Runs.{IsAccepted, IsExplained}
use Rattle.kmipa_check.specs.declared.fault.CheckFault.{CheckFault}
use Rattle.kmipa_check.specs.declared.fault.CheckFault.TheVariants.{Outside, Witness, Memory}
use Rattle.kmipa_orders.specs.Plain.{ArePlain, IsForced}
use Rattle.kmipa_orders.specs.ByObject.{IsRefutedBy}
use Rattle.kmipa_orders.specs.Hopeless.{IsHopelessIn}
use Rattle.kmipa_orders.specs.Next.{weight}
use Rattle.kmipa_orders.specs.declared.found.Found.{Found}
use Rattle.kmipa_orders.specs.declared.found.Found.TheVariants.{Yes, GaveUp, Refuted, Impossible, OutOfTime}

-- Where a search that gives up has decided: the calls are plain, and steps were left, or the budget was enough for every try; or they are
-- forced at their stamps, and it was enough to try each call once.
pub data HasDecided (calls : List CallOf) (budget count : ℕ) : Type 0 where
  stopped : (steps : List StepOf) → ArePlain calls steps → count < budget → HasDecided calls budget count
  enough : (steps : List StepOf) → ArePlain calls steps → weight steps ≤ budget → HasDecided calls budget count
  one_by_one : IsForced (pos 0) calls → length calls ≤ budget → HasDecided calls budget count

-- A yes comes with a witness that is accepted and can be written. Each of its turns was tried, within the budget. Giving up comes
-- only where all messages are inside, and tells that nothing explains these calls, where the search has decided and the declaration grants
-- nothing. Where some objects refute the transcript, one or several, or the answer of one call is
-- impossible over every inventory, nothing explains it, whatever the budget.
abbrev pub Finds : List MarkOf → DeclarationOf → ℕ → Found → Type 0
Finds marks declared budget (Yes witness count) = IsAccepted marks declared (witness_of witness) × ((bytes : List ℕ) × IsWitness bytes (witness_of witness))
    × (count ≤ budget) × (length (witness_of witness) ≤ count)
Finds marks declared budget (GaveUp count) = (count ≤ budget)
    × ((calls : List CallOf) × AreCalls marks calls × (GrantsNothing (grants_declared declared) → HasDecided calls budget count → IsExplained marks declared → ⊥))
Finds marks declared budget (Refuted count objects) = (count ≤ budget) × IsRefutedBy marks declared (map string_bytes objects.items) × (IsExplained marks declared → ⊥)
Finds marks declared budget (Impossible count place) = (count ≤ budget) × IsHopelessIn marks place × (IsExplained marks declared → ⊥)
Finds marks declared budget (OutOfTime count after) = ⊥

-- what a search answers: what it found, or the first message that is outside
abbrev pub Searches : List MarkOf → DeclarationOf → ℕ → Result Found CheckFault → Type 0
Searches marks declared budget (Ok found) = Finds marks declared budget found
Searches marks declared budget (Err (Outside number side o)) = IsFirstOutside marks number side o.item o.kind
Searches marks declared budget (Err (Witness f)) = ⊥
Searches marks declared budget (Err Memory) = Unit {0}

-- ---- what is told of a search that has so many seconds, or all the time that it takes, where these are 0

-- The same; or these seconds are over. Then all messages are inside, and of orders nothing is said.
abbrev pub FindsIn : ℕ → List MarkOf → DeclarationOf → ℕ → Found → Type 0
FindsIn seconds marks declared budget (Yes witness count) = Finds marks declared budget (Yes witness count)
FindsIn seconds marks declared budget (GaveUp count) = Finds marks declared budget (GaveUp count)
FindsIn seconds marks declared budget (Refuted count objects) = Finds marks declared budget (Refuted count objects)
FindsIn seconds marks declared budget (Impossible count place) = Finds marks declared budget (Impossible count place)
FindsIn seconds marks declared budget (OutOfTime count after) = (count ≤ budget) × ((calls : List CallOf) × AreCalls marks calls) × (after ≡ seconds) × (0 < after)

abbrev pub SearchesIn : ℕ → List MarkOf → DeclarationOf → ℕ → Result Found CheckFault → Type 0
SearchesIn seconds marks declared budget (Ok found) = FindsIn seconds marks declared budget found
SearchesIn seconds marks declared budget (Err fault) = Searches marks declared budget (Err fault)
