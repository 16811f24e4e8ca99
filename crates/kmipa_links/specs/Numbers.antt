-- Not promised: how call numbers are kept.
use Rattle.std.specs.Prelude.{◌≡◌, ◌<◌, ℕ, ℤ, List, [], map, length, get_or, Contains, Option, None, Some}
use Rattle.kmipa_record.specs.Marks.{begun}
use Rattle.kmipa_record.specs.NumberMaps.{value_at}
use Rattle.kmipa_record.specs.declared.number_map.NumberMap.{NumberMap}
use Rattle.kmipa_links.specs.Links.{SegmentOf}
use Rattle.kmipa_links.specs.declared.numbers.Clash.{Clash}

-- the call numbers of each segment
abbrev pub numbers_of : List SegmentOf → List (List ℤ)
numbers_of segments = map (λ (s : SegmentOf). begun s.marks) segments

-- each number has the place of a list in which it stands, if it stands in any
pub record Know (numbers : List (List ℤ)) (calls : NumberMap ℕ) : Type 0 where
  pub there : (call : ℤ) (place : ℕ) → value_at calls call ≡ Some place → (place < length numbers) × Contains (get_or numbers place []) call
  pub nowhere : (call : ℤ) → value_at calls call ≡ None → (place : ℕ) → ¬ (Contains (get_or numbers place []) call)

-- none of these numbers stands in those lists; or this one does, in the list at this place
abbrev pub IsClash : List (List ℤ) → List ℤ → Option Clash → Type 0
IsClash numbers own None = (call : ℤ) (place : ℕ) → Contains own call → ¬ (Contains (get_or numbers place []) call)
IsClash numbers own (Some clash) = (clash.place < length numbers) × Contains (get_or numbers clash.place []) clash.call × Contains own clash.call

-- the clash that was there first
abbrev pub first_of : Option Clash → Clash → Option Clash
first_of None other = Some other
first_of (Some first) other = Some first
