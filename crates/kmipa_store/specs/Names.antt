-- Not promised. The names of objects, found by their hashes. More may be listed than there is.
use Rattle.std.specs.Prelude.{◌≡◌, ◌≢◌, ℕ, Bool, true, List, Result, Ok, Err, Some, slice_get}
use Rattle.std.specs.declared.cmp.Ordering.{Ordering}
use Rattle.std.specs.List.{list_any}
use Rattle.std.specs.Ordering.{nat_cmp, ordering_then}
use Rattle.std.specs.BTreeMap.{is_at}
use Rattle.kmipa_attrs.specs.Sets.{NameOf}
use Rattle.kmipa_store.specs.Hashes.{name_hash}
use Rattle.kmipa_store.specs.Ledger.{Held}
use Rattle.kmipa_store.specs.declared.fault.StoreFault.{StoreFault}
use Rattle.kmipa_store.specs.declared.fault.StoreFault.TheVariants.{Memory}
use Rattle.kmipa_store.specs.declared.names.Names.{Names}

-- the hash of a name, the place of an object that has it, and its own place among the names of the object; in this order
abbrev pub Named : Type 0
Named = ℕ × ℕ × ℕ

abbrev pub named_cmp : Named → Named → Ordering
named_cmp x y = ordering_then (ordering_then (nat_cmp x.0 y.0) (nat_cmp x.1 y.1)) (nat_cmp x.2 y.2)

abbrev pub is_listed : List Named → ℕ → ℕ → ℕ → Bool
is_listed listed hash place slot = list_any (is_at (named_cmp (hash, place, slot))) listed

-- each of these names is listed, as one of the object at this place
abbrev pub AreListed : Names → ℕ → List NameOf → Type 0
AreListed names place ns = (slot : ℕ) (n : NameOf) → slice_get ns slot ≡ Some n → is_listed names.by_hash.keys (name_hash n.value n.kind) place slot ≡ true

-- what was listed still is
abbrev pub Keeps : Names → Names → Type 0
Keeps old new = (hash place slot : ℕ) → is_listed old.by_hash.keys hash place slot ≡ true → is_listed new.by_hash.keys hash place slot ≡ true

-- what was listed for the objects at other places still is
abbrev pub KeepsOthers : Names → ℕ → Names → Type 0
KeepsOthers old gone new = (hash place slot : ℕ) → place ≢ gone → is_listed old.by_hash.keys hash place slot ≡ true → is_listed new.by_hash.keys hash place slot ≡ true

abbrev pub Notes : Names → ℕ → List NameOf → Result (Unit {0}) StoreFault → Names → Type 0
Notes old place ns (Ok u) new = Keeps old new × AreListed new place ns
Notes old place ns (Err fault) new = (fault ≡ Memory) × Keeps old new

-- each name of each object is listed
pub record Covers (names : Names) (objects : List Held) : Type 0 where
  pub all : (p : ℕ) (h : Held) → slice_get objects p ≡ Some h → AreListed names p h.card.given.names

-- so it is, unless a name of what went back to a mark found no memory
abbrev pub Knows : Bool → Names → List Held → Type 0
Knows listed names objects = listed ≡ true → Covers names objects

-- these names are listed, as ones of the object at this place; it is answered that all are, if they were, unless one found no memory
abbrev pub ListsAgain : Names → Bool → ℕ → List NameOf → Bool → Names → Type 0
ListsAgain old listed place ns result new = result ≡ true → (listed ≡ true) × Keeps old new × AreListed new place ns
