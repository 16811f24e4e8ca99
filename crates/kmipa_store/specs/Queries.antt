-- What a ledger answers of its objects' names, of what else they are and have, and of their states.
use Rattle.std.specs.Prelude.{◌≡◌, ◌≤◌, ◌<◌, ◌&&◌, ◌||◌, ◌==◌, ℕ, ℤ, pos, Bool, true, false, not, List, Option, Some, None, option_map, bytes_eq, slice_get, drop}
use Rattle.std.specs.List.{list_any, position_from}
use Rattle.std.specs.Ordering.{int_eq}
use Rattle.kmipa_attrs.specs.Filters.{FilterOf}
use Rattle.kmipa_attrs.specs.ObjectTypes.{type_number}
use Rattle.kmipa_attrs.specs.Sets.{NameOf}
use Rattle.kmipa_object.specs.Inventory.{live}
use Rattle.kmipa_object.specs.Life.{state, state_number}
use Rattle.kmipa_object.specs.declared.state.State.{State}
use Rattle.kmipa_store.specs.Ledger.{Held}
use Rattle.kmipa_store.specs.declared.feature.Feature.{Feature}
use Rattle.kmipa_store.specs.declared.feature.Feature.TheVariants.{Live, State as InState, Kind, Algorithm, Length}

-- a name of this value and this type
abbrev pub is_name : List ℕ → ℕ → NameOf → Bool
is_name value kind n = (kind == n.kind) && bytes_eq value n.value

-- the object has the name
abbrev pub has_name : List ℕ → ℕ → Held → Bool
has_name value kind h = list_any (is_name value kind) h.card.given.names

-- the first place from this one on whose object has the name
abbrev pub next_named : List ℕ → ℕ → ℕ → List Held → Option ℕ
next_named value kind from objects = position_from (has_name value kind) from (drop from objects)

-- the object has no Destroy Date, and has the name
abbrev pub has_name_alive : List ℕ → ℕ → Held → Bool
has_name_alive value kind h = live h.card && has_name value kind h

-- the first place from this one on whose object is so
abbrev pub next_live_named : List ℕ → ℕ → ℕ → List Held → Option ℕ
next_live_named value kind from objects = position_from (has_name_alive value kind) from (drop from objects)

-- an object without a Destroy Date has the name
abbrev pub any_live_named : List ℕ → ℕ → List Held → Bool
any_live_named value kind objects = list_any (has_name_alive value kind) objects

-- a number is there, and is this one; and so a length
abbrev pub has_number : Option ℕ → ℕ → Bool
has_number None number = false
has_number (Some own) number = own == number

abbrev pub has_length : Option ℤ → ℤ → Bool
has_length None bits = false
has_length (Some own) bits = int_eq own bits

-- the object has the feature at a moment
abbrev pub has_feature : Feature → ℤ → Held → Bool
has_feature Live t h = live h.card
has_feature (InState number) t h = number == state_number (state h.card.dates t)
has_feature (Kind number) t h = number == type_number h.card.kind
has_feature (Algorithm number) t h = has_number h.card.given.algorithm number
has_feature (Length bits) t h = has_length h.card.given.length bits

-- the first place from this one on whose object has the feature
abbrev pub next_with : Feature → ℤ → ℕ → List Held → Option ℕ
next_with feature t from objects = position_from (has_feature feature t) from (drop from objects)

-- the state that the dates of the object at a place say at a moment, where there is one
abbrev pub state_of_place : List Held → ℕ → ℤ → Option State
state_of_place objects place t = option_map (λ (h : Held). state h.card.dates t) (slice_get objects place)

-- what a filter asks for that an object has as long as it stands, or never
pub record Lasting : Type 0 where
  pub names : List NameOf
  pub object_type : Option ℕ
  pub algorithm : Option ℕ
  pub length : Option ℤ

abbrev pub lasting : FilterOf → Lasting
lasting q = record { names = q.names; object_type = q.object_type; algorithm = q.algorithm; length = q.length }

-- a feature is asked for, and the object doesn't have it; and so one of some names
abbrev pub lacks_feature : Option Feature → Held → Bool
lacks_feature None h = false
lacks_feature (Some feature) h = not (has_feature feature (pos 0) h)

abbrev pub lacks_name : List NameOf → Held → Bool
lacks_name names h = list_any (λ (n : NameOf). not (has_name n.value n.kind h)) names

-- the object lacks something of it
abbrev pub lacks : Lasting → Held → Bool
lacks asked h =
    lacks_name asked.names h || lacks_feature (option_map Kind asked.object_type) h || lacks_feature (option_map Algorithm asked.algorithm) h || lacks_feature (option_map Length asked.length) h

-- each object from one place to another does
abbrev pub AllLack : Lasting → List Held → ℕ → ℕ → Type 0
AllLack asked objects from to = (p : ℕ) (h : Held) → from ≤ p → p < to → slice_get objects p ≡ Some h → lacks asked h ≡ true

-- a place from one on, ahead of which each does
abbrev pub Leaps : Lasting → List Held → ℕ → ℕ → Type 0
Leaps asked objects from to = (from ≤ to) × AllLack asked objects from to
