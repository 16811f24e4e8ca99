-- A ledger that goes back to its newest mark.
use Rattle.std.proofs.Common.{◌≡◌, ◌∙◌, ap, sym, subst}
use Rattle.kmipa_store.specs.Ledger.{LedgerState, marked, gone_back}
use Rattle.kmipa_store.specs.Choices.{IsSound}
use Rattle.kmipa_store.proofs.InventoryLemmas.{gone_back-at}

-- it is as it was when the mark was set, whatever was done over it
pub back_as_before : (s t u v : LedgerState) → t ≡ marked s → u.marks ≡ t.marks → v ≡ gone_back u → v ≡ s
back_as_before s t u v is kept to = to ∙ gone_back-at u s.now s.marks (kept ∙ ap (λ (x : LedgerState). x.marks) is)

-- and sound, if it was
pub sound_as_before : (s t u v : LedgerState) → t ≡ marked s → u.marks ≡ t.marks → v ≡ gone_back u → IsSound s.now → IsSound v.now
sound_as_before s t u v is kept to sound = let P : LedgerState → Type 0 = λ x. IsSound x.now in subst P (sym (back_as_before s t u v is kept to)) sound
