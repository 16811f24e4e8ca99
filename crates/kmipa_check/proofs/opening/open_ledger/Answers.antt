use Rattle.std.proofs.Common.{[], sym, ap, ◌∙◌, subst, arith}
use Rattle.std.proofs.lemmas.List.{length-map}
use Rattle.kmipa_store.specs.Ledger.{LedgerState}
use Rattle.kmipa_store.specs.States.{state_of_journal}
use Rattle.kmipa_record.specs.Declarations.{declaration_of}
use Rattle.kmipa_record.specs.Entries.{entry_of}
use Rattle.kmipa_check.specs.Opening.{Opened}
use Rattle.kmipa_check.proofs.OpeningLemmas.{declared_aside, opened_none, opened_next, opened_known, next_declarable, next_unheld, entry_at}
use Rattle.kmipa_check.proofs.opening.open_ledger.Goals as goal

pub entries-init : goal.entries-init
entries-init c = record {
  opened = let P : LedgerState → Type 0 = λ s. Opened [] s.now in subst P (sym c.new-ledger.ensures.meaning) opened_none;
  aside = ap (λ (s : LedgerState). s.now.aside) c.new-ledger.ensures.meaning;
}

pub declare-requires-clause-declarable : goal.declare-requires-clause-declarable
declare-requires-clause-declarable c =
    next_declarable (declaration_of c.args.declaration.now) c.requires c.entries.entry-index (entry_of c.entry-item.result)
    (entry_at c.args.declaration.now.entries.items c.deref-entry-items.result.now c.entries.entry-index c.entry-item.result c.deref-entry-items.ensures.value c.entries-test.true c.entry-item.is)

pub declare-requires-clause-free : goal.declare-requires-clause-free
declare-requires-clause-free c =
    next_unheld (declaration_of c.args.declaration.now) c.requires c.entries.entry-index (entry_of c.entry-item.result)
    (entry_at c.args.declaration.now.entries.items c.deref-entry-items.result.now c.entries.entry-index c.entry-item.result c.deref-entry-items.ensures.value c.entries-test.true c.entry-item.is)
    (state_of_journal c.entries.ledger).now c.entries.invariant.opened

pub entries-preserved : goal.entries-preserved
entries-preserved c = record {
  opened = opened_next (declaration_of c.args.declaration.now) c.requires c.entries.entry-index (entry_of c.entry-item.result)
      (entry_at c.args.declaration.now.entries.items c.deref-entry-items.result.now c.entries.entry-index c.entry-item.result c.deref-entry-items.ensures.value c.entries-test.true c.entry-item.is)
      (state_of_journal c.entries.ledger) (state_of_journal c.declare.new.ledger) c.entries.invariant.opened c.in-Ok.ensures;
  aside = declared_aside (state_of_journal c.entries.ledger) (entry_of c.entry-item.result) (state_of_journal c.declare.new.ledger) c.in-Ok.ensures ∙ c.entries.invariant.aside;
}

pub returns-clause-opened : goal.returns-clause-opened
returns-clause-opened c =
    opened_known (declaration_of c.args.declaration.now) c.entries.entry-index (state_of_journal c.entries.ledger).now
    (omega (arith, c.entries-test.false, length-map c.args.declaration.now.entries.items entry_of)) c.entries.invariant.opened

pub returns-clause-aside : goal.returns-clause-aside
returns-clause-aside c = c.entries.invariant.aside
