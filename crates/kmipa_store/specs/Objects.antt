-- Not promised. Objects in the order of arrival, and places by the hashes of identifiers.
use Rattle.std.specs.Prelude.{◌≡◌, ℕ, Bool, false, List, map, Option, Some, None, bytes_eq}
use Rattle.std.specs.declared.cmp.Ordering.{Ordering}
use Rattle.std.specs.List.{list_any}
use Rattle.std.specs.Ordering.{nat_cmp, ordering_then}
use Rattle.std.specs.BTreeMap.{is_at}
use Rattle.kmipa_object.specs.Lists.{updated}
use Rattle.kmipa_object.specs.declared.object.Object.{Object}
use Rattle.kmipa_store.specs.Ledger.{Held, held}

abbrev pub objects_of : List Object → List Held
objects_of objects = map held objects

-- a hash, and the place of an object whose identifier has it; in order of the hashes, and at one hash of the places
abbrev pub Hashed : Type 0
Hashed = ℕ × ℕ

abbrev pub hashed_cmp : Hashed → Hashed → Ordering
hashed_cmp x y = ordering_then (nat_cmp x.0 y.0) (nat_cmp x.1 y.1)

abbrev pub is_hashed : List Hashed → ℕ → ℕ → Bool
is_hashed places hash place = list_any (is_at (hashed_cmp (hash, place))) places

-- the object at a place, if there is one, has the identifier
abbrev pub has_id : Option Held → List ℕ → Bool
has_id None id = false
has_id (Some h) id = bytes_eq id h.card.id

-- an object that is another one but for its identifier
abbrev pub become : Held → Held → Held
become g h = record { card = record h.card { id = g.card.id }; material = h.material }

-- the object at a place, if there is one, is so
abbrev pub exchanged : List Held → ℕ → Held → List Held
exchanged objects place h = updated objects place (λ g. become g h)

-- and the other one is what stood there
abbrev pub GivesFormer : Option Held → Held → Held → Type 0
GivesFormer None old new = new ≡ old
GivesFormer (Some h) old new = new ≡ become old h
