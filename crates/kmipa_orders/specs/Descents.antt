-- A search for an order of calls, on its way. Not promised.
use Rattle.std.specs.Prelude.{◌≡◌, ◌<◌, ◌≤◌, ◌+◌, ℕ, Bool, true, false, List, length, reverse, Contains, Option}
use Rattle.kmipa_store.specs.Ledger.{LedgerState, Meaning}
use Rattle.kmipa_store.specs.Choices.{IsSound}
use Rattle.kmipa_record.specs.Declarations.{DeclarationOf}
use Rattle.kmipa_msgs.specs.Messages.{RulesOf}
use Rattle.kmipa_check.specs.Steps.{StepOf}
use Rattle.kmipa_orders.specs.Cursors.{IsCursor}
use Rattle.kmipa_orders.specs.Ends.{Remembers}
use Rattle.kmipa_orders.specs.Progress.{places, AreBegun, AreCursors, AreSoundBehind, Opens, Searching}
use Rattle.kmipa_orders.specs.Ranks.{InAnyOrder, IsRanked, WereLinked}
use Rattle.kmipa_orders.specs.Remaining.{AreRemaining}
use Rattle.kmipa_orders.specs.Tries.{IsPicked}
use Rattle.kmipa_orders.specs.declared.order.Descent.{Descent}
use Rattle.kmipa_orders.specs.declared.remaining.Remaining.{Remaining}
use Rattle.kmipa_orders.specs.declared.tried.Pick.{Pick}
use Rattle.kmipa_orders.specs.declared.tried.Tried.{Tried}
use Rattle.kmipa_orders.specs.declared.tried.Visit.{Visit}

-- Where the calls begin in their order, those that are not taken remain, and the tries go on after a next call.
pub record Progress (rules : RulesOf) (calls : List StepOf) (wishes : List ℕ) (budget : ℕ) (first : Meaning) (w : Remaining) (visits : List Visit) (t : Tried) (depth steps : ℕ) (u : LedgerState) : Type 0 where
  pub searching : (declared : DeclarationOf) → Opens declared rules calls first → Searching declared calls wishes visits t steps u.now u.marks
  pub sound : IsSound u.now
  pub after : AreSoundBehind (places visits) u.marks
  pub remaining : AreBegun calls → AreRemaining calls (places visits) w
  pub cursor : AreBegun calls → IsCursor calls (places visits) t.from
  pub cursors : AreBegun calls → AreCursors calls visits
  pub within : (p : ℕ) → Contains (places visits) p → p < length calls
  pub deep : 0 < length visits → depth ≡ length u.marks
  pub few : steps ≤ budget

-- So far has a search come that began over a ledger with this meaning.
pub record Descends (rules : RulesOf) (calls : List StepOf) (budget : ℕ) (first : Meaning) (d : Descent) (u : LedgerState) : Type 0 where
  pub progress : Progress rules calls d.wishes.rank.items budget first d.remaining (reverse d.path.items) d.tried d.depth d.steps u
  pub ranked : IsRanked (length calls) InAnyOrder d.wishes.order.items d.wishes.rank.items
  pub wished : AreBegun calls → WereLinked (length calls) d.wishes.rank.items (places (reverse d.path.items)) d.by_wish.after.items d.by_wish.before.items
  pub memory : Remembers rules calls first d.front (places (reverse d.path.items)) d.taken d.ends.ends.items
  pub paid : length d.path.items ≤ d.steps

-- this is the call to try next, or there is none
abbrev pub IsDue : List StepOf → Descent → Option Pick → Type 0
IsDue calls d pick = AreBegun calls → IsPicked calls (places (reverse d.path.items)) d.wishes.rank.items d.tried pick

-- a call was tried
abbrev pub IsStep : Descent → Descent → Type 0
IsStep d e = (e.steps ≡ d.steps + 1) × (length e.path.items ≤ length d.path.items + 1)

-- the call that was taken last was given back, or there is none
abbrev pub IsBack : Descent → Descent → Bool → Type 0
IsBack d e true = (e.steps ≡ d.steps) × (length d.path.items ≡ length e.path.items + 1)
IsBack d e false = (e.steps ≡ d.steps) × (length d.path.items ≡ 0)
