use Rattle.kmipa_store.proofs.journal.JournalLedger.end_of.Goals as goal

pub returns : goal.returns
returns c = c.end_of.ensures
