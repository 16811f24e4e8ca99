-- Dead ends that are remembered: which calls were taken, and what the ledger stood for. Not promised.
use Rattle.std.specs.Prelude.{◌≡◌, ◌<◌, ◌≤◌, ◌⊎◌, ℕ, Vec, Bool, true, false, List, length, map, slice_get, slice_index_or, Contains, Option, Some, None, option_map}
use Rattle.std.specs.declared.alloc.Global.{Global}
use Rattle.std.specs.declared.rc.Rc.{Rc}
use Rattle.kmipa_object.specs.Inventory.{card_of}
use Rattle.kmipa_store.specs.Ledger.{Meaning}
use Rattle.kmipa_store.specs.Choices.{IsSound}
use Rattle.kmipa_record.specs.Declarations.{DeclarationOf}
use Rattle.kmipa_record.specs.Entries.{items_of}
use Rattle.kmipa_msgs.specs.Messages.{RulesOf}
use Rattle.kmipa_check.specs.Steps.{StepOf}
use Rattle.kmipa_check.specs.Verdicts.{AreKnown}
use Rattle.kmipa_orders.specs.Progress.{AreBegun, Opens}
use Rattle.kmipa_orders.specs.Taken.{so_far, AreNext, IsDead}
use Rattle.kmipa_orders.specs.Settled.{IsFront}
use Rattle.kmipa_orders.specs.Tries.{none_tried, all_tried}
use Rattle.kmipa_orders.specs.declared.tried.Tried.{Tried}
use Rattle.kmipa_orders.specs.declared.taken.TakenCalls.{TakenCalls}
use Rattle.kmipa_orders.specs.declared.taken.CallSet.{CallSet}
use Rattle.kmipa_orders.specs.declared.stills.Still.{Still}
use Rattle.kmipa_orders.specs.declared.ends.End.{End}
use Rattle.kmipa_orders.specs.Stills.{StillOf, stills}

-- WHAT A LEDGER STANDS FOR

-- what the program's copy of an object means
abbrev pub still_of : Still → StillOf
still_of s = record { card = card_of s.object; bytes = option_map items_of s.bytes }

-- a copy that ends share
abbrev pub Shared : Type 0
Shared = Rc Still Global

abbrev pub still_shared : Shared → StillOf
still_shared s = still_of s.value

abbrev pub stills_shared : List Shared → List StillOf
stills_shared objects = map still_shared objects

-- two objects stand alike as far as they can change: their dates, and their bytes where they are known
pub record LiveAlike (a b : StillOf) : Type 0 where
  pub dates : a.card.dates ≡ b.card.dates
  pub bytes : a.bytes ≡ b.bytes

-- and of the places behind the first so many in full
abbrev pub IsAlikeAt : ℕ → ℕ → StillOf → StillOf → Type 0
IsAlikeAt front place a b = LiveAlike a b × (front ≤ place → a ≡ b)

-- all objects stand so, place by place
pub record AreAlike (front : ℕ) (ones others : List StillOf) : Type 0 where
  pub long : length ones ≡ length others
  pub each : (place : ℕ) (a b : StillOf) → slice_get ones place ≡ Some a → slice_get others place ≡ Some b → IsAlikeAt front place a b

-- the same, or nothing is compared
abbrev pub AreAlikeFrom : Option ℕ → List StillOf → List StillOf → Type 0
AreAlikeFrom None ones others = Unit {0}
AreAlikeFrom (Some front) ones others = AreAlike front ones others

-- an object of a place stands among others too: one of the first so many at its own place, and any other wherever it is
pub record StandsAmong (front place : ℕ) (a : StillOf) (others : List StillOf) : Type 0 where
  pub at : ℕ
  pub other : StillOf
  pub there : slice_get others at ≡ Some other
  pub alike : IsAlikeAt front place a other
  pub own : place < front → at ≡ place

-- all objects do, and there are no more: behind the first so many they may have arrived in another order
pub record StandAmong (front : ℕ) (ones others : List StillOf) : Type 0 where
  pub long : length ones ≡ length others
  pub each : (place : ℕ) (a : StillOf) → slice_get ones place ≡ Some a → StandsAmong front place a others

-- the same, or nothing is compared
abbrev pub StandAmongFrom : Option ℕ → List StillOf → List StillOf → Type 0
StandAmongFrom None ones others = Unit {0}
StandAmongFrom (Some front) ones others = StandAmong front ones others

-- WHICH CALLS ARE TAKEN

-- whether a place is marked
abbrev pub flag : List Bool → ℕ → Bool
flag flags p = slice_index_or flags p false

-- each taken call is marked, and no other; all ahead of `low` are, and none from `high` on
pub record AreFlagged (count : ℕ) (taken : List ℕ) (f : TakenCalls) : Type 0 where
  pub long : length f.flags.items ≡ count
  pub marked : (p : ℕ) → Contains taken p → flag f.flags.items p ≡ true
  pub only : (p : ℕ) → flag f.flags.items p ≡ true → Contains taken p
  pub low : (p : ℕ) → p < f.low → flag f.flags.items p ≡ true
  pub high : (p : ℕ) → flag f.flags.items p ≡ true → p < f.high

-- these are the calls taken: so many, all ahead of a place, and of the others these
pub record IsSetOf (taken : List ℕ) (k : CallSet) : Type 0 where
  pub count : length taken ≡ k.count
  pub are : (p : ℕ) → Contains taken p → (p < k.low) ⊎ Contains k.rest.items p
  pub only : (p : ℕ) → (p < k.low) ⊎ Contains k.rest.items p → Contains taken p

-- ENDS

-- an end is that of these calls over a ledger whose objects stand alike, place by place: those of the first so many places as far as they can
-- change, and the others in full; or only of these calls, where they say how all objects stand.
pub record IsEndOf (front : Option ℕ) (taken : List ℕ) (m : Meaning) (e : End) : Type 0 where
  pub set : IsSetOf taken e.set
  pub stands : AreAlikeFrom front (stills_shared e.objects.items) (stills m)

-- the same, where the objects behind the first so many may have arrived in another order
pub record IsEndLike (front : Option ℕ) (taken : List ℕ) (m : Meaning) (e : End) : Type 0 where
  pub set : IsSetOf taken e.set
  pub stands : StandAmongFrom front (stills_shared e.objects.items) (stills m)

-- However these calls were taken, if the ledger stands for this, no run begins so.
abbrev pub IsDeadEnd : Option ℕ → DeclarationOf → List StepOf → End → Type 0
IsDeadEnd front declared calls e = (taken : List ℕ) (m : Meaning) → AreNext calls taken → AreKnown declared (so_far calls taken) m → IsSound m → IsEndLike front taken m e → IsDead declared calls taken

abbrev pub AreDeadEnds : Option ℕ → DeclarationOf → List StepOf → List End → Type 0
AreDeadEnds front declared calls ends = (e : End) → Contains ends e → IsDeadEnd front declared calls e

-- one of the ends is that of these calls over this ledger
abbrev pub HasEnd : Option ℕ → List End → List ℕ → Meaning → Type 0
HasEnd front ends taken m = (e : End) × Contains ends e × IsEndLike front taken m e

-- where a call was taken: all is left to try, or nothing, since this end is known
abbrev pub IsArrival : Option ℕ → List End → List ℕ → Meaning → Tried → Type 0
IsArrival front ends taken m t = (t ≡ none_tried) ⊎ ((t ≡ all_tried) × HasEnd front ends taken m)

-- no end is there but the old ones and one of this set and these objects
abbrev pub IsAdded : List End → CallSet → Vec Shared Global → List End → Type 0
IsAdded old set objects new = (e : End) → Contains new e → Contains old e ⊎ ((e.set ≡ set) × (e.objects ≡ objects))

-- no end is there but the old ones and this one
abbrev pub IsNoted : Option ℕ → List End → List ℕ → Meaning → List End → Type 0
IsNoted front old taken m new = (e : End) → Contains new e → Contains old e ⊎ IsEndOf front taken m e

-- WHAT A SEARCH REMEMBERS

-- What a search remembers: the calls taken are marked, where these begin in their order, and each end leads to no run. The front are the objects
-- with which it began, where they are compared.
pub record Remembers (rules : RulesOf) (calls : List StepOf) (first : Meaning) (front : Option ℕ) (taken : List ℕ) (f : TakenCalls) (ends : List End) : Type 0 where
  pub opened : IsFront calls first front
  pub flagged : AreBegun calls → AreFlagged (length calls) taken f
  pub dead : (declared : DeclarationOf) → Opens declared rules calls first → AreDeadEnds front declared calls ends
