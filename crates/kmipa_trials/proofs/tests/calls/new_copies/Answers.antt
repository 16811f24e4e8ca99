use Rattle.std.proofs.Common.{subst, sym}
use Rattle.kmipa_store.specs.Choices.{IsSound}
use Rattle.kmipa_store.specs.Ledger.{LedgerState}
use Rattle.kmipa_ops.proofs.AddLemmas.{empty_sound}
use Rattle.kmipa_trials.proofs.tests.calls.new_copies.Goals as goal

pub returns : goal.returns
returns c = let P : LedgerState → Type 0 = λ s. IsSound s.now in subst P (sym c.new.ensures.meaning) empty_sound
