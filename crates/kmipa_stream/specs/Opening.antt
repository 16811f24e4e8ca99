-- What opened a ledger while a declaration was read, and its lines. Not promised.
use Rattle.std.specs.Prelude.{◌≡◌, ◌||◌, ℕ, Bool, nat_lt, List, [], map, length, false, is_some, Option, option_map}
use Rattle.std.specs.String.{string_bytes}
use Rattle.kmipa_msgs.specs.Messages.{row_of}
use Rattle.kmipa_object.specs.Inventory.{place_of}
use Rattle.kmipa_store.specs.Aside.{is_any_aside, is_named_aside}
use Rattle.kmipa_store.specs.Ledger.{Meaning, cards_of}
use Rattle.kmipa_store.specs.States.{state_of_journal}
use Rattle.kmipa_record.specs.Declarations.{DeclarationOf}
use Rattle.kmipa_record.specs.DeclarationRecords.{RecordOf}
use Rattle.kmipa_record.specs.Entries.{EntryOf}
use Rattle.kmipa_check.specs.Described.{each_aside}
use Rattle.kmipa_check.specs.Opening.{Opened}
use Rattle.kmipa_stream.specs.declared.opening.Opening.{Opening}

-- the owner of each entry, where it has one
abbrev pub owners_of : List EntryOf → List (Option (List ℕ))
owners_of entries = map (λ (e : EntryOf). e.owner) entries

-- its ledger is that of the entries, and of the identifiers that are set aside by their names; and it has the rows, the allow lines, the own lines, and the
-- owner of each entry
pub record Opens (o : Opening) (declared : DeclarationOf) : Type 0 where
  pub opened : Opened declared.entries (state_of_journal o.ledger).now
  pub aside : (state_of_journal o.ledger).now.aside ≡ record { ids = each_aside declared.asides []; rest = false; over = false }
  pub rows : map row_of o.rows.items ≡ declared.rows
  pub lines : o.allow_lines.items ≡ declared.allow_lines
  pub own : o.own_attributes.items ≡ declared.own_attributes
  pub owners : map (option_map string_bytes) o.owners.items ≡ owners_of declared.entries

-- it takes each record
abbrev pub IsOpened : RecordOf → Type 0
IsOpened r = Unit {0}

-- there are objects, or something is set aside
abbrev pub has_objects : Meaning → Bool
has_objects m = nat_lt 0 (length m.objects) || is_any_aside m.aside

-- an object has the identifier, or it is set aside
abbrev pub is_used : Meaning → List ℕ → Bool
is_used m id = is_some (place_of id (cards_of m.objects)) || is_named_aside m.aside id
