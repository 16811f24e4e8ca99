-- Identifiers that are looked up. Not promised.
use Rattle.std.specs.Prelude.{◌≡◌, ℕ, Bool, List, Option, bytes_eq, find, slice_get, option_and_then}
use Rattle.std.specs.BTreeMap.{get_by_text}
use Rattle.std.specs.BTreeSet.{contains_text}
use Rattle.std.specs.List.{list_any}
use Rattle.kmipa_record.specs.Entries.{EntryOf}
use Rattle.kmipa_explain.specs.declared.entry_index.EntryIndex.{EntryIndex}
use Rattle.kmipa_explain.specs.declared.id_set.IdSet.{IdSet}

-- whether an identifier is in the set
abbrev pub has_id : IdSet → List ℕ → Bool
has_id set id = contains_text set.ids id

-- the set has exactly these
abbrev pub HasIds : List (List ℕ) → IdSet → Type 0
HasIds ids set = (id : List ℕ) → has_id set id ≡ list_any (bytes_eq id) ids

-- the place of an identifier's entry, where it has one
abbrev pub place_in : EntryIndex → List ℕ → Option ℕ
place_in index id = get_by_text index.places id

-- each identifier has the place of the first of these entries that has it
abbrev pub Indexes : List EntryOf → EntryIndex → Type 0
Indexes entries index = (id : List ℕ) → option_and_then (slice_get entries) (place_in index id) ≡ find (λ (e : EntryOf). bytes_eq id e.id) entries
