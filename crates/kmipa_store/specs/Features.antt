-- Not promised. The places of objects by what these are and have, found by codes. More may be listed than there is.
use mir.Syntax.{w32}
use Rattle.std.specs.Prelude.{◌≡◌, ◌==◌, ◌+◌, ◌*◌, ℕ, ℤ, Bool, true, false, cond, List, Option, Some, None, option_map, slice_get}
use Rattle.std.specs.Int.{cast_unsigned}
use Rattle.kmipa_object.specs.Life.{state_number}
use Rattle.kmipa_object.specs.declared.state.State.{State}
use Rattle.kmipa_object.specs.declared.state.State.TheVariants.{PreActive, Active, Deactivated, Compromised, Destroyed, DestroyedCompromised}
use Rattle.kmipa_store.specs.Ledger.{Held}
use Rattle.kmipa_store.specs.Names.{is_listed}
use Rattle.kmipa_store.specs.Queries.{has_feature}
use Rattle.kmipa_store.specs.declared.feature.Feature.{Feature}
use Rattle.kmipa_store.specs.declared.feature.Feature.TheVariants.{Live, State as InState, Kind, Algorithm, Length}
use Rattle.kmipa_store.specs.declared.features.Features.{Features}

-- an object that has the feature has it as long as it stands
abbrev pub is_lasting : Feature → Bool
is_lasting Live = false
is_lasting (InState number) = false
is_lasting (Kind number) = true
is_lasting (Algorithm number) = true
is_lasting (Length bits) = true

-- the number under which a feature is listed
abbrev pub code : Feature → ℕ
code Live = 0
code (InState number) = number * 8 + 1
code (Kind number) = number * 8 + 2
code (Algorithm number) = number * 8 + 3
code (Length bits) = cast_unsigned w32 bits * 8 + 4

-- a state in which an object has no Destroy Date
abbrev pub is_live_state : State → Bool
is_live_state PreActive = true
is_live_state Active = true
is_live_state Deactivated = true
is_live_state Compromised = true
is_live_state Destroyed = false
is_live_state DestroyedCompromised = false

-- an object in this state has the feature, one that doesn't last
abbrev pub state_has : Feature → State → Bool
state_has Live s = is_live_state s
state_has (InState number) s = number == state_number s
state_has (Kind number) s = false
state_has (Algorithm number) s = false
state_has (Length bits) s = false

-- the algorithm and the length of an object as features; and what a state says of the life of an object
abbrev pub algorithm_of : Held → Option Feature
algorithm_of h = option_map Algorithm h.card.given.algorithm

abbrev pub length_of : Held → Option Feature
length_of h = option_map Length h.card.given.length

abbrev pub life_of : State → Option Feature
life_of s = cond (is_live_state s) (Some Live) None

-- there is an object at a place, with the feature
abbrev pub stands_with_of : Option Held → Feature → ℤ → Bool
stands_with_of None feature t = false
stands_with_of (Some h) feature t = has_feature feature t h

abbrev pub stands_with : List Held → ℕ → Feature → ℤ → Bool
stands_with objects place feature t = stands_with_of (slice_get objects place) feature t

-- a place is listed under a feature
abbrev pub is_noted : Features → Feature → ℕ → Bool
is_noted fs feature place = is_listed fs.by_code.keys (code feature) place 0

-- where lists are begun each object with the feature is listed
abbrev pub KnowsFeature : Features → Feature → ℤ → List Held → Type 0
KnowsFeature fs feature t objects = fs.is_known ≡ true → (p : ℕ) (h : Held) → slice_get objects p ≡ Some h → has_feature feature t h ≡ true → is_noted fs feature p ≡ true

-- each object is listed under all that lasts of it
abbrev pub KnowsLasting : Features → List Held → Type 0
KnowsLasting fs objects = fs.is_known ≡ true → (feature : Feature) → is_lasting feature ≡ true → (t : ℤ) (p : ℕ) (h : Held) → slice_get objects p ≡ Some h
    → has_feature feature t h ≡ true → is_noted fs feature p ≡ true

-- each place is listed under what its state says
abbrev pub KnowsStates : Features → List State → Type 0
KnowsStates fs states = fs.is_known ≡ true → (feature : Feature) (p : ℕ) (s : State) → slice_get states p ≡ Some s → state_has feature s ≡ true → is_noted fs feature p ≡ true

-- what was listed still is
abbrev pub Keeps : Features → Features → Type 0
Keeps old new = (feature : Feature) (p : ℕ) → is_noted old feature p ≡ true → is_noted new feature p ≡ true

-- the place is listed under this feature, unless there was no memory
abbrev pub Notes : Features → ℕ → Feature → Features → Type 0
Notes old place feature new = new.is_known ≡ true → (old.is_known ≡ true) × Keeps old new × (is_noted new feature place ≡ true)

-- under a feature, where there is one
abbrev pub NotesIf : Features → ℕ → Option Feature → Features → Type 0
NotesIf old place o new = new.is_known ≡ true → (old.is_known ≡ true) × Keeps old new × ((feature : Feature) → o ≡ Some feature → is_noted new feature place ≡ true)

-- under each that lasts of an object
abbrev pub NotesLasting : Features → ℕ → Held → Features → Type 0
NotesLasting old place h new = new.is_known ≡ true
    → (old.is_known ≡ true) × Keeps old new × ((feature : Feature) (t : ℤ) → is_lasting feature ≡ true → has_feature feature t h ≡ true → is_noted new feature place ≡ true)

-- under each that a state says
abbrev pub NotesState : Features → ℕ → State → Features → Type 0
NotesState old place s new = new.is_known ≡ true → (old.is_known ≡ true) × Keeps old new × ((feature : Feature) → state_has feature s ≡ true → is_noted new feature place ≡ true)

-- what was listed of other places still is
abbrev pub Forgets : Features → ℕ → Features → Type 0
Forgets old place new = (new.is_known ≡ old.is_known) × ((feature : Feature) (p : ℕ) → (p ≡ place → ⊥) → is_noted old feature p ≡ true → is_noted new feature p ≡ true)
