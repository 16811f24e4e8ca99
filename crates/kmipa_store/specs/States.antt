-- What the ledgers in memory mean.
use Rattle.std.specs.Prelude.{ℤ, List, map, reverse}
use Rattle.kmipa_store.specs.Ledger.{LedgerState, Meaning}
use Rattle.kmipa_store.specs.Journal.{Asides, journal_state}
use Rattle.kmipa_store.specs.declared.copies.Copies.{Copies}
use Rattle.kmipa_store.specs.declared.copies.Saved.{Saved}
use Rattle.kmipa_store.specs.declared.journal.Journal.{Journal}

abbrev pub asides_of : Journal → Asides
asides_of j = record { aside = record { ids = j.asides; rest = j.rest; over = j.over }; changes = j.aside_changes.items }

abbrev pub state_of_journal : Journal → LedgerState
state_of_journal j = journal_state j.present.dated j.object_changes.items j.secrets j.secret_changes.items (asides_of j) j.places.items

abbrev pub meaning_of : Saved → Meaning
meaning_of s = record { objects = s.objects; secrets = s.secrets; aside = record { ids = s.asides; rest = s.rest; over = s.over } }

-- the marks, the newest first
abbrev pub marks_of : List Saved → List Meaning
marks_of saved = map meaning_of (reverse saved)

abbrev pub state_of_copies : Copies → LedgerState
state_of_copies c = record {
  now = record { objects = c.objects; secrets = c.secrets; aside = record { ids = c.asides; rest = c.rest; over = c.over } };
  marks = marks_of c.marks.items;
}

-- the moment at which they tell states
abbrev pub moment_of_journal : Journal → ℤ
moment_of_journal j = j.present.moment

abbrev pub moment_of_copies : Copies → ℤ
moment_of_copies c = c.moment
