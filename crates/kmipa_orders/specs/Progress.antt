-- A search on its way: the places taken, the newest first. Not promised: `Found` says what a search tells.
use Rattle.std.specs.Prelude.{◌≡◌, ◌≢◌, ◌<◌, ◌≤◌, ◌⊎◌, ◌+◌, ◌-◌, ℕ, suc, true, cond, List, [], ◌∷◌, map, length, AllPairs, Contains, IsPermutation, Option, Some, None, Result, Ok, Err}
use Rattle.kmipa_object.specs.Inventory.{Thing}
use Rattle.kmipa_store.specs.Ledger.{LedgerState, Meaning}
use Rattle.kmipa_store.specs.Choices.{IsSound}
use Rattle.kmipa_record.specs.Declarations.{DeclarationOf}
use Rattle.kmipa_msgs.specs.Messages.{RulesOf}
use Rattle.kmipa_ops.specs.declared.why.Why.{Why}
use Rattle.kmipa_batch.specs.Readable.{IsReadableCall}
use Rattle.kmipa_batch.specs.Refusals.{CallExplainsAlong, CallRefutedAlong}
use Rattle.kmipa_check.specs.Steps.{StepOf, order_of}
use Rattle.kmipa_check.specs.Described.{Describes}
use Rattle.kmipa_check.specs.Runs.{Before, IsPlaced, rules_declared}
use Rattle.kmipa_check.specs.Verdicts.{AreKnown}
use Rattle.kmipa_check.specs.Laws.{TakenIsKnown, RefusedIsNever}
use Rattle.kmipa_check.specs.declared.fault.CheckFault.{CheckFault}
use Rattle.kmipa_check.specs.declared.fault.CheckFault.TheVariants.{Outside, Witness, Memory}
use Rattle.kmipa_orders.specs.Next.{IsNext, is_next, sum_from, weigh, weight}
use Rattle.kmipa_orders.specs.Cursors.{IsCursor}
use Rattle.kmipa_orders.specs.Tries.{IsTried}
use Rattle.kmipa_orders.specs.declared.tried.Tried.{Tried}
use Rattle.kmipa_orders.specs.declared.tried.Visit.{Visit}
use Rattle.kmipa_orders.specs.Taken.{step_at, TakesAll, so_far, IsDead, AreNext}

-- the steps at these places
abbrev pub ordered : List StepOf → List ℕ → List StepOf
ordered calls places = map (λ place. step_at calls place) places

-- each step can be judged
abbrev pub AllReadable : List StepOf → Type 0
AllReadable calls = (c : StepOf) → Contains calls c → IsReadableCall c.request c.response

-- steps that begin in their order
abbrev pub AreBegun : List StepOf → Type 0
AreBegun calls = (p q : ℕ) → p < q → q < length calls → (step_at calls p).begin < (step_at calls q).begin

-- some described inventory and some order of these steps have a run
pub record HaveRun (declared : DeclarationOf) (calls : List StepOf) : Type 0 where
  pub start : List Thing
  pub described : Describes declared start
  pub order : List StepOf
  pub run : TakesAll (rules_declared declared) calls start order

-- an order of these steps that can be taken, and what is known after it
pub record CanBeTaken (declared : DeclarationOf) (calls order : List StepOf) : Type 0 where
  pub once : IsPermutation calls order
  pub placed : IsPlaced order
  pub known : Meaning
  pub knows : AreKnown declared order known
  pub sound : IsSound known

-- no next call that was tried leads to a run
abbrev pub Cleared : DeclarationOf → List StepOf → List ℕ → List ℕ → Tried → Type 0
Cleared declared calls wishes taken t = (p : ℕ) → IsTried wishes t p → IsNext calls taken p → IsDead declared calls (p ∷ taken)

-- the places of the calls taken
abbrev pub places : List Visit → List ℕ
places visits = map (λ (v : Visit). v.place) visits

-- Nor, at each call taken, one that was tried before it; and if it leads to none either, that one is as it was noted. If it is without effect,
-- no other does.
abbrev pub ClearedBehind : DeclarationOf → List StepOf → List ℕ → List Visit → Type 0
ClearedBehind declared calls wishes [] = Unit {0}
ClearedBehind declared calls wishes (v ∷ visits) =
    (IsDead declared calls (places (v ∷ visits)) → Cleared declared calls wishes (places visits) v.tried)
    × (v.idle ≡ true → IsDead declared calls (places (v ∷ visits)) → IsDead declared calls (places visits))
    × ClearedBehind declared calls wishes visits

-- the tries go on at each call taken where a next one begins
abbrev pub AreCursors : List StepOf → List Visit → Type 0
AreCursors calls [] = Unit {0}
AreCursors calls (v ∷ visits) = IsCursor calls (places visits) v.tried.from × AreCursors calls visits

-- the ledger knows what the calls taken leave, and at each mark what those before it left
abbrev pub KnowsAll : DeclarationOf → List StepOf → List ℕ → Meaning → List Meaning → Type 0
KnowsAll declared calls [] now marks = AreKnown declared [] now × IsSound now
KnowsAll declared calls (p ∷ taken) now [] = ⊥
KnowsAll declared calls (p ∷ taken) now (m ∷ marks) = (AreKnown declared (so_far calls (p ∷ taken)) now × IsSound now) × KnowsAll declared calls taken m marks

-- what the tries of one call come to
abbrev pub cost : List StepOf → List ℕ → ℕ → ℕ
cost calls taken place = cond (is_next calls taken place) (suc (weigh (length calls - suc (length taken)) calls (place ∷ taken))) 0

-- no more than so much is left to be tried at a place of the search
pub record IsOwed (calls : List StepOf) (wishes taken : List ℕ) (t : Tried) (amount : ℕ) : Type 0 where
  pub each : ℕ → ℕ
  pub enough : (p : ℕ) → IsNext calls taken p → (IsTried wishes t p → ⊥) → suc (weigh (length calls - suc (length taken)) calls (p ∷ taken)) ≤ each p
  pub sum : sum_from each (length calls) 0 ≤ amount

-- and at each call taken after it
abbrev pub IsOwedBehind : List StepOf → List ℕ → List Visit → ℕ → Type 0
IsOwedBehind calls wishes [] amount = Unit {0}
IsOwedBehind calls wishes (v ∷ visits) amount =
    (here : ℕ) × (rest : ℕ) × IsOwed calls wishes (places visits) v.tried here × IsOwedBehind calls wishes visits rest × (here + rest ≤ amount)

-- no more is left to be tried than the weight allows
pub record IsPaid (calls : List StepOf) (wishes : List ℕ) (visits : List Visit) (t : Tried) (steps : ℕ) : Type 0 where
  pub here : ℕ
  pub rest : ℕ
  pub owed : IsOwed calls wishes (places visits) t here
  pub after : IsOwedBehind calls wishes visits rest
  pub within : steps + here + rest ≤ weight calls

-- a search that took these calls, and has tried some of the next ones
pub record Searching (declared : DeclarationOf) (calls : List StepOf) (wishes : List ℕ) (visits : List Visit) (t : Tried) (steps : ℕ) (now : Meaning) (marks : List Meaning) : Type 0 where
  pub knows : KnowsAll declared calls (places visits) now marks
  pub nexts : AreNext calls (places visits)
  pub here : Cleared declared calls wishes (places visits) t
  pub after : ClearedBehind declared calls wishes visits
  pub paid : length visits ≤ steps
  pub owed : length visits < length calls → IsPaid calls wishes visits t steps

-- the next call from a place on, or that there is none
abbrev pub IsNextFrom : List StepOf → List ℕ → ℕ → Option ℕ → Type 0
IsNextFrom calls taken from None = (q : ℕ) → from ≤ q → IsNext calls taken q → ⊥
IsNextFrom calls taken from (Some p) = (from ≤ p) × IsNext calls taken p × ((q : ℕ) → from ≤ q → q < p → IsNext calls taken q → ⊥)

-- no step is before itself
abbrev pub AreTimed : List StepOf → Type 0
AreTimed calls = (c : StepOf) → Contains calls c → Before c c → ⊥

-- What a search stands on: each step stands once, they begin in their order, none is before itself, the ledger knows what is declared, and
-- the laws of steps that are taken and of those that are refused.
pub record Opens (declared : DeclarationOf) (rules : RulesOf) (calls : List StepOf) (m : Meaning) : Type 0 where
  pub rules_are : rules ≡ rules_declared declared
  pub once : AllPairs (λ (a b : StepOf). a ≢ b) calls
  pub begun : AreBegun calls
  pub timed : AreTimed calls
  pub known : AreKnown declared [] m
  pub taken : TakenIsKnown
  pub refused : RefusedIsNever

-- what trying a call comes to: taken after a new mark, whose depth is reported; or not, and nothing is changed
abbrev pub CallTried : RulesOf → LedgerState → StepOf → Result (Option ℕ) CheckFault → LedgerState → Type 0
CallTried rules s c (Ok (Some depth)) u = CallExplainsAlong rules s.now c.request c.response (order_of c) u.now × IsSound u.now × (u.marks ≡ s.now ∷ s.marks) × (depth ≡ length u.marks)
CallTried rules s c (Ok None) u = ((item : ℕ) × (why : Why) × CallRefutedAlong rules s.now c.request c.response (order_of c) item why) × (u ≡ s)
CallTried rules s c (Err Memory) u = Unit {0}
CallTried rules s c (Err (Outside number side o)) u = ⊥
CallTried rules s c (Err (Witness f)) u = ⊥

-- what a search of the calls comes to: the places of an order that can be taken, or none, and the steps
abbrev pub ComesTo : DeclarationOf → List StepOf → ℕ → Option (List ℕ) → ℕ → Type 0
ComesTo declared calls budget (Some order) steps = (steps ≤ budget) × (length calls ≤ steps) × CanBeTaken declared calls (ordered calls order)
ComesTo declared calls budget None steps = (steps ≤ budget) × ((steps < budget) ⊎ (weight calls ≤ budget) → HaveRun declared calls → ⊥)

-- the ledger is sound at each mark
abbrev pub AreSoundBehind : List ℕ → List Meaning → Type 0
AreSoundBehind [] marks = Unit {0}
AreSoundBehind (p ∷ taken) [] = ⊥
AreSoundBehind (p ∷ taken) (m ∷ marks) = IsSound m × AreSoundBehind taken marks
