use Rattle.std.proofs.Common.{◌≡◌, map, take}
use Rattle.kmipa_store.specs.Aside.{nothing_aside}
use Rattle.kmipa_store.specs.States.{state_of_journal}
use Rattle.kmipa_record.specs.Entries.{entry_of}
use Rattle.kmipa_check.specs.Opening.{Opened}
use Rattle.kmipa_check.proofs.opening.open_ledger.Given as goal

abbrev pub invariant-entries : goal.invariant-entries
invariant-entries l = record {
  opened : Opened (take l.entry-index (map entry_of l.declaration.entries.items)) (state_of_journal l.ledger).now;
  aside : (state_of_journal l.ledger).now.aside ≡ nothing_aside;
}
