-- Not promised. Filters that were looked for, and the places of objects that may have all that lasts of what one of them asks for.
use Rattle.std.specs.Prelude.{◌≡◌, ◌<◌, ℕ, Bool, true, false, List, Some, slice_get}
use Rattle.kmipa_attrs.specs.Filters.{filter_of}
use Rattle.kmipa_store.specs.Ledger.{Held}
use Rattle.kmipa_store.specs.Names.{is_listed}
use Rattle.kmipa_store.specs.Queries.{Lasting, lacks, lasting}
use Rattle.kmipa_store.specs.declared.sought.Sought.{Sought}
use Rattle.kmipa_store.specs.declared.sought.Wanted.{Wanted}

-- a place is listed for the filter of a number
abbrev pub is_kept : Sought → ℕ → ℕ → Bool
is_kept s number place = is_listed s.by_number.keys number place 0

-- an object stands at a place, and lacks something of what is asked for
abbrev pub LacksAt : Lasting → List Held → ℕ → Type 0
LacksAt asked objects p = (h : Held) × (slice_get objects p ≡ Some h) × (lacks asked h ≡ true)

abbrev pub asked_by : Wanted → Lasting
asked_by w = lasting (filter_of w.filter)

-- so does each before the end of a filter that isn't listed for it
abbrev pub KnowsSought : Sought → List Held → Type 0
KnowsSought s objects = (i : ℕ) (w : Wanted) → slice_get s.wanted.items i ≡ Some w → (p : ℕ) → p < w.end → is_kept s i p ≡ false → LacksAt (asked_by w) objects p

-- a filter that asks for the same stands under a number
abbrev pub IsNumberOf : Sought → Lasting → ℕ → Type 0
IsNumberOf s asked number = (w : Wanted) × (slice_get s.wanted.items number ≡ Some w) × (asked_by w ≡ asked)

-- objects that are others at one place alone
abbrev pub DifferAt : ℕ → List Held → List Held → Type 0
DifferAt place objects others = (p : ℕ) (h : Held) → (p ≡ place → ⊥) → slice_get objects p ≡ Some h → slice_get others p ≡ Some h
