-- Not promised. Entries of what is set aside, kept as objects that have nothing but an identifier, and a Destroy Date once they are taken in.
use Rattle.std.specs.Prelude.{◌+◌, ◌-◌, ℕ, Bool, cond, List, [], ◌∷◌, map, length, take, Option, option_map, bytes_eq, slice_get}
use Rattle.std.specs.List.{position_from}
use Rattle.kmipa_object.specs.Inventory.{live}
use Rattle.kmipa_object.specs.Lists.{updated}
use Rattle.kmipa_store.specs.Aside.{Entry}
use Rattle.kmipa_store.specs.Ledger.{Held}
use Rattle.kmipa_store.specs.declared.changes.AsideChange.{AsideChange}
use Rattle.kmipa_store.specs.declared.changes.AsideChange.TheVariants.{Added, Said}

abbrev pub entry_of : Held → Entry
entry_of h = (h.card.id, live h.card)

abbrev pub entries_of : List Held → List Entry
entries_of objects = map entry_of objects

-- the place of the first entry of an identifier
abbrev pub entry_place : List ℕ → List Entry → Option ℕ
entry_place id es = position_from (λ (e : Entry). bytes_eq id e.0) 0 es

-- what the entry at a place says, where there is one
abbrev pub said_at : List Entry → ℕ → Option Bool
said_at es place = option_map (λ (e : Entry). e.1) (slice_get es place)

-- how many say no more that they are set aside
abbrev pub count_in : List Entry → ℕ
count_in [] = 0
count_in (e ∷ es) = cond e.1 0 1 + count_in es

-- the entry at a place, if there is one, says this
abbrev pub said : List Entry → ℕ → Bool → List Entry
said es place aside = updated es place (λ e. (e.0, aside))

-- a change taken back
abbrev pub aside_unmade : List Entry → AsideChange → List Entry
aside_unmade es Added = take (length es - 1) es
aside_unmade es (Said place before) = said es place before
