-- Laws: where a search decides, and what the words of its promise come to.
use Rattle.std.specs.Prelude.{◌≡◌, ◌≢◌, ◌≤◌, ◌⊎◌, ◌↔◌, ℕ, pos, Bool, true, false, List, ◌∷◌, length, AllPairs, IsPermutation}
use Rattle.kmipa_store.specs.Choices.{IsSound}
use Rattle.kmipa_store.specs.Ledger.{Meaning}
use Rattle.kmipa_record.specs.Marks.{MarkOf, AreRecorded}
use Rattle.kmipa_record.specs.Declarations.{DeclarationOf}
use Rattle.kmipa_check.specs.Calls.{CallOf, AreCalls}
use Rattle.kmipa_check.specs.Grants.{GrantsNothing, grants_declared}
use Rattle.kmipa_batch.specs.Refusals.{CallExplainsAlong}
use Rattle.kmipa_check.specs.Steps.{StepOf, order_of}
use Rattle.kmipa_check.specs.Runs.{IsExplained, rules_declared}
use Rattle.kmipa_check.specs.Verdicts.{AreKnown}
use Rattle.kmipa_check.specs.Deciding.{Decided}
use Rattle.kmipa_orders.specs.Idle.{IsIdleStep}
use Rattle.kmipa_orders.specs.Plain.{ArePlain, IsForced}
use Rattle.kmipa_orders.specs.Next.{IsNext, is_next, weight}
use Rattle.kmipa_orders.specs.Taken.{so_far, AreNext, IsDead, AreSame}
use Rattle.kmipa_orders.specs.Found.{Finds}
use Rattle.kmipa_orders.specs.declared.found.Found.{Found}
use Rattle.kmipa_orders.specs.declared.found.Found.TheVariants.{Yes, GaveUp, Refuted, Impossible, OutOfTime}
use Rattle.kmipa_orders.specs.Stills.{stills}

abbrev pub is_yes : Found → Bool
is_yes (Yes witness count) = true
is_yes (GaveUp count) = false
is_yes (Refuted count object) = false
is_yes (Impossible count place) = false
is_yes (OutOfTime count after) = false

-- the budget is enough for every try, or, of calls that are forced at their stamps, to try each once
abbrev pub IsEnough : List CallOf → ℕ → Type 0
IsEnough calls budget = ((steps : List StepOf) × ArePlain calls steps × (weight steps ≤ budget)) ⊎ (IsForced (pos 0) calls × (length calls ≤ budget))

-- then, where the declaration grants nothing, a search says yes exactly where the transcript is explained
abbrev pub EnoughDecides : Type 0
EnoughDecides = (marks : List MarkOf) (declared : DeclarationOf) (calls : List CallOf) (budget : ℕ) (found : Found)
    → GrantsNothing (grants_declared declared) → AreRecorded marks → AreCalls marks calls → IsEnough calls budget → Finds marks declared budget found
    → Decided (is_yes found) (IsExplained marks declared)

-- of calls that are forced at their stamps the weight is at most their number
abbrev pub ForcedIsLight : Type 0
ForcedIsLight = (calls : List CallOf) (f : IsForced (pos 0) calls) → weight f.steps ≤ length calls

-- the test by which tries are counted is true exactly of what may be next
abbrev pub NextIsTested : Type 0
NextIsTested = (steps : List StepOf) (taken : List ℕ) (place : ℕ) → IsNext steps taken place ↔ (is_next steps taken place ≡ true)

-- Idle first: where a call without effect may be next, and is possible over what is known, it comes first in some run that goes on from here, if
-- there is any.
abbrev pub IdleFirst : Type 0
IdleFirst = (declared : DeclarationOf) (calls : List StepOf) (taken : List ℕ) (p : ℕ) (n : IsNext calls taken p) (m k : Meaning)
    → AllPairs (λ (a b : StepOf). a ≢ b) calls → AreNext calls taken → AreKnown declared (so_far calls taken) m
    → CallExplainsAlong (rules_declared declared) m n.call.request n.call.response (order_of n.call) k → IsSound k → IsIdleStep n.call
    → IsDead declared calls (p ∷ taken) → IsDead declared calls taken

-- Equal is equal: the same calls taken, and ledgers with the same objects as they stand, in whatever order these arrived and whatever numbers their
-- secrets have: where the one leads to no run, nor does the other.
abbrev pub EqualIsEqual : Type 0
EqualIsEqual =
    (declared : DeclarationOf) (calls : List StepOf) (taken others : List ℕ) (m n : Meaning) → AllPairs (λ (a b : StepOf). a ≢ b) calls
    → AreNext calls taken → AreNext calls others → AreSame taken others
    → AreKnown declared (so_far calls taken) m → IsSound m → AreKnown declared (so_far calls others) n → IsSound n → IsPermutation (stills m) (stills n)
    → IsDead declared calls taken → IsDead declared calls others
