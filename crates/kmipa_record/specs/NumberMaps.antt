-- A map by number: the value that each number has.
use Rattle.std.specs.Prelude.{◌≡◌, ◌≢◌, ℕ, ◌+◌, ℤ, pos, negsuc, List, get_or, Option, None, Some}
use Rattle.std.specs.Ordering.{int_cmp}
use Rattle.std.specs.BTreeMap.{get}
use Rattle.kmipa_record.specs.declared.number_map.NumberMap.{NumberMap}

-- the value in the slot of a number
abbrev pub slot_at : {V : Type 0} → List (Option V) → ℤ → Option V
slot_at slots (pos n) = get_or slots n None
slot_at slots (negsuc n) = None

-- the first of two that is there
abbrev pub or_else : {V : Type 0} → Option V → Option V → Option V
or_else None other = other
or_else (Some value) other = Some value

-- the slot at this place has this value now, and the others theirs as before
pub record PutsSlot {V : Type 0} (old new : List (Option V)) (place : ℕ) (value : V) : Type 0 where
  pub here : get_or new place None ≡ Some value
  pub others : (other : ℕ) → other ≢ place → get_or new other None ≡ get_or old other None

-- the value of a number: that of its slot, or else that of the tree
unfoldable pub value_at : {V : Type 0} → NumberMap V → ℤ → Option V
value_at m number = or_else (slot_at m.slots.items number) (get int_cmp m.others number)

-- how many numbers have a value
abbrev pub count_of : {V : Type 0} → NumberMap V → ℕ
count_of m = m.count

pub record HasNone {V : Type 0} (m : NumberMap V) : Type 0 where
  pub each : (number : ℤ) → value_at m number ≡ None
  pub count : count_of m ≡ 0

-- each number has the value that it had
pub record IsSame {V : Type 0} (old new : NumberMap V) : Type 0 where
  pub each : (number : ℤ) → value_at new number ≡ value_at old number
  pub count : count_of new ≡ count_of old

-- this number has this value now, and the others theirs as before
pub record Sets {V : Type 0} (old new : NumberMap V) (number : ℤ) (value : V) : Type 0 where
  pub here : value_at new number ≡ Some value
  pub others : (other : ℤ) → other ≢ number → value_at new other ≡ value_at old other

-- the same, and one number more has a value
pub record Gains {V : Type 0} (old new : NumberMap V) (number : ℤ) (value : V) : Type 0 where
  pub sets : Sets old new number value
  pub count : count_of new ≡ count_of old + 1
