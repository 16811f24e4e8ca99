-- Whether the object at a place has a name, at one place among its names.
use Rattle.std.specs.Prelude.{◌&&◌, ℕ, Bool, false, List, Option, Some, None, slice_get}
use Rattle.kmipa_attrs.specs.Sets.{NameOf}
use Rattle.kmipa_object.specs.Inventory.{live}
use Rattle.kmipa_store.specs.Ledger.{Held}
use Rattle.kmipa_store.specs.Queries.{is_name}

-- a name that is there and is the name
abbrev pub is_the_name : Option NameOf → List ℕ → ℕ → Bool
is_the_name None value kind = false
is_the_name (Some n) value kind = is_name value kind n

-- this one of the object's names is the name
abbrev pub is_named_at : Held → ℕ → List ℕ → ℕ → Bool
is_named_at h slot value kind = is_the_name (slice_get h.card.given.names slot) value kind

abbrev pub bears_of : Option Held → ℕ → List ℕ → ℕ → Bool
bears_of None slot value kind = false
bears_of (Some h) slot value kind = is_named_at h slot value kind

-- the object at this place has the name there
abbrev pub bears : List Held → ℕ → ℕ → List ℕ → ℕ → Bool
bears objects place slot value kind = bears_of (slice_get objects place) slot value kind

abbrev pub bears_live_of : Option Held → ℕ → List ℕ → ℕ → Bool
bears_live_of None slot value kind = false
bears_live_of (Some h) slot value kind = live h.card && is_named_at h slot value kind

-- it has, and isn't destroyed
abbrev pub bears_live : List Held → ℕ → ℕ → List ℕ → ℕ → Bool
bears_live objects place slot value kind = bears_live_of (slice_get objects place) slot value kind
