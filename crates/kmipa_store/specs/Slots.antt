-- Not promised. The slots of identifiers, by a cheap number of each, and the hashes of those that found an earlier one in their slot.
use Rattle.std.specs.Prelude.{◌≡◌, ◌≤◌, ◌<◌, ◌-◌, ◌⊎◌, ℕ, Bool, true, false, nat_lt, List, length, get_or, Option, Some, None, Result, Ok, Err, slice_get}
use Rattle.std.specs.Int.Bits.{bit_and}
use Rattle.kmipa_store.specs.Hashes.{id_hash, id_number}
use Rattle.kmipa_store.specs.Ledger.{Held}
use Rattle.kmipa_store.specs.Objects.{is_hashed}
use Rattle.kmipa_store.specs.declared.fault.StoreFault.{StoreFault}
use Rattle.kmipa_store.specs.declared.fault.StoreFault.TheVariants.{Memory}
use Rattle.kmipa_store.specs.declared.slots.Slots.{Slots}

-- the slot of an identifier, among so many
abbrev pub slot_of : List ℕ → ℕ → ℕ
slot_of id count = bit_and (id_number id) (count - 1)

-- the place that stands in the slot of an identifier, if one does
abbrev pub holder : Slots → List ℕ → Option ℕ
holder slots id = get_or slots.places.items (slot_of id (length slots.places.items)) None

-- a place stands there, and is before another
abbrev pub is_before : Option ℕ → ℕ → Bool
is_before None place = false
is_before (Some first) place = nat_lt first place

-- an identifier is noted with a place: that place stands in its slot, or an earlier one does and its hash is listed with the place
pub record IsNoted (slots : Slots) (id : List ℕ) (place : ℕ) : Type 0 where
  pub first : ℕ
  pub stands : holder slots id ≡ Some first
  pub up_to : first ≤ place
  pub found : (first ≡ place) ⊎ (is_hashed slots.by_hash.keys (id_hash id) place ≡ true)

-- what was noted with the places before one still is
abbrev pub KeepsBefore : Slots → ℕ → Slots → Type 0
KeepsBefore old place new = (id : List ℕ) (p : ℕ) → p < place → IsNoted old id p → IsNoted new id p

-- an identifier is noted with its place too, or memory ran out
abbrev pub Notes : Slots → List ℕ → ℕ → Result (Unit {0}) StoreFault → Slots → Type 0
Notes old id place (Ok u) new = KeepsBefore old place new × IsNoted new id place
Notes old id place (Err fault) new = (fault ≡ Memory) × KeepsBefore old place new

-- each object is noted
abbrev pub AreAllNoted : Slots → List Held → Type 0
AreAllNoted slots objects = (p : ℕ) (h : Held) → slice_get objects p ≡ Some h → IsNoted slots h.card.id p

-- each object is noted, and no two have one identifier
pub record AreNoted (slots : Slots) (objects : List Held) : Type 0 where
  pub noted : AreAllNoted slots objects
  pub distinct : (p q : ℕ) (g h : Held) → slice_get objects p ≡ Some g → slice_get objects q ≡ Some h → g.card.id ≡ h.card.id → p ≡ q

-- each object with an identifier is listed by its hash
abbrev pub AreListed : Slots → List Held → List ℕ → Type 0
AreListed slots objects id = (p : ℕ) (h : Held) → slice_get objects p ≡ Some h → id ≡ h.card.id → is_hashed slots.by_hash.keys (id_hash id) p ≡ true
