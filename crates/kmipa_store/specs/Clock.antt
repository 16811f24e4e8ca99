-- Not promised. A moment, the state of each object at it, and the dates at which states change, in order, with the objects' places.
use Rattle.std.specs.Prelude.{◌≡◌, ◌||◌, ℕ, ℤ, true, Bool, if◌then◌else◌, int_le, List, [], ◌∷◌, ◌++◌, map, Option, Some, None, Result, Ok, Err, slice_get}
use Rattle.std.specs.declared.cmp.Ordering.{Ordering}
use Rattle.std.specs.Int.{int_max}
use Rattle.std.specs.Ordering.{int_cmp, nat_cmp, ordering_then}
use Rattle.std.specs.List.{list_any}
use Rattle.std.specs.BTreeMap.{is_at}
use Rattle.std.specs.BTreeSet.{insert_key}
use Rattle.std.specs.Set.{remove_key}
use Rattle.kmipa_object.specs.Lists.{updated}
use Rattle.kmipa_object.specs.Life.{state, dates_of}
use Rattle.kmipa_object.specs.declared.life.Life.{Life}
use Rattle.kmipa_object.specs.declared.state.State.{State}
use Rattle.kmipa_store.specs.Ledger.{Held}
use Rattle.kmipa_store.specs.declared.clock.Brought.{Brought}
use Rattle.kmipa_store.specs.declared.fault.StoreFault.{StoreFault}
use Rattle.kmipa_store.specs.declared.fault.StoreFault.TheVariants.{Memory}

-- a date, and the place of the object whose date it is
abbrev pub Due : Type 0
Due = ℤ × ℕ

-- the order of dates, and at one date that of places
abbrev pub due_cmp : Due → Due → Ordering
due_cmp x y = ordering_then (int_cmp x.0 y.0) (nat_cmp x.1 y.1)

-- the dates that stand in order, and the floor: a date that is at most the floor need not stand there
pub record Dues : Type 0 where
  pub floor : ℤ
  pub keys : List Due

pub record Time : Type 0 where
  pub moment : ℤ
  pub states : List State
  pub due : Dues

-- the states that the dates say at a moment
abbrev pub states_at : List Held → ℤ → List State
states_at objects t = map (λ (h : Held). state h.card.dates t) objects

-- a date stands in order for the object at a place
abbrev pub is_due : List Due → ℤ → ℕ → Bool
is_due due date place = list_any (is_at (due_cmp (date, place))) due

-- a date is at most the floor, or it stands in order
abbrev pub is_awaited : Dues → ℤ → ℕ → Bool
is_awaited due date place = int_le date due.floor || is_due due.keys date place

-- with a date more: the floor rises to one that is at most the moment, and a later one stands in order
abbrev pub noted : ℤ → Dues → ℕ → Option ℤ → Dues
noted moment due place None = due
noted moment due place (Some date) =
    if int_le date moment then record due { floor = int_max due.floor date } else
    record due { keys = insert_key due_cmp due.keys (date, place) }

abbrev pub dropped : List Due → ℕ → Option ℤ → List Due
dropped due place None = due
dropped due place (Some date) = remove_key (is_at (due_cmp (date, place))) due

-- with both dates of a life, and without those that a change brought, at the floor before it
abbrev pub noted_life : ℤ → Dues → ℕ → Life → Dues
noted_life moment due place life = noted moment (noted moment due place life.activation) place life.deactivation

abbrev pub without : Dues → ℕ → Brought → Dues
without due place brought = record { floor = brought.floor; keys = dropped (dropped due.keys place brought.deactivation) place brought.activation }

-- the date is waited for, and what was brought can be taken away again
abbrev pub NotesDate : Time → ℕ → Option ℤ → Result (Option ℤ) StoreFault → Time → Type 0
NotesDate old place date (Ok brought) new = (new ≡ record old { due = noted old.moment old.due place date }) × (dropped new.due.keys place brought ≡ old.due.keys)
NotesDate old place date (Err fault) new = (fault ≡ Memory) × (new ≡ old)

-- the same of both dates of a life
abbrev pub NotesLife : Time → ℕ → Life → Result Brought StoreFault → Time → Type 0
NotesLife old place life (Ok brought) new = (new ≡ record old { due = noted_life old.moment old.due place life }) × (without new.due place brought ≡ old.due)
NotesLife old place life (Err fault) new = (fault ≡ Memory) × (new ≡ old)

-- and one state more
abbrev pub AddsLife : Time → ℕ → Life → Result Brought StoreFault → Time → Type 0
AddsLife old place life (Ok brought) new =
    (new ≡ record old { states = old.states ++ state (dates_of life) old.moment ∷ []; due = noted_life old.moment old.due place life }) × (without new.due place brought ≡ old.due)
AddsLife old place life (Err fault) new = (fault ≡ Memory) × (new ≡ old)

-- the object at a place, if there is one, is looked at again
abbrev pub looked_at : Option Held → List State → ℕ → ℤ → List State
looked_at None states place t = states
looked_at (Some h) states place t = updated states place (λ _. state h.card.dates t)

abbrev pub looked : List Held → List State → ℕ → ℤ → List State
looked objects states place t = looked_at (slice_get objects place) states place t

-- each Activation Date and each Deactivation Date of each object stands in order, or is at most the floor
pub record Awaits (objects : List Held) (due : Dues) : Type 0 where
  pub activation : (p : ℕ) (h : Held) (date : ℤ) → slice_get objects p ≡ Some h → h.card.dates.activation ≡ Some date → is_awaited due date p ≡ true
  pub deactivation : (p : ℕ) (h : Held) (date : ℤ) → slice_get objects p ≡ Some h → h.card.dates.deactivation ≡ Some date → is_awaited due date p ≡ true
