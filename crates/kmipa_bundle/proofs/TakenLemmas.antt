-- What is sound stays sound, whatever a call comes to.
use Rattle.std.proofs.Common.{ℕ, List, Option, Result, Ok, Err, sym, subst}
use Rattle.kmipa_store.specs.Ledger.{LedgerState}
use Rattle.kmipa_store.specs.Choices.{IsSound}
use Rattle.kmipa_msgs.specs.Messages.{RulesOf}
use Rattle.kmipa_passed.specs.Leaving.{empty}
use Rattle.kmipa_batch.specs.declared.refusal.CallRefusal.{CallRefusal}
use Rattle.kmipa_batch.specs.declared.refusal.CallRefusal.TheVariants.{Impossible, Memory}
use Rattle.kmipa_places.specs.Calls.{ReadOf}
use Rattle.kmipa_bundle.specs.Refusals.{CallTaken}
use Rattle.kmipa_bundle.specs.declared.counts.Counts.{Counts}

pub taken_sound : (rules : RulesOf) (s : LedgerState) (c : ReadOf) (order : Option (List ℕ)) (result : Result Counts CallRefusal) (u : LedgerState) → IsSound s.now → CallTaken rules s c order result u
    → IsSound u.now
taken_sound rules s c order (Ok counts) u sound t = (t empty).sound
taken_sound rules s c order (Err (Impossible item why)) u sound t = subst (λ (x : LedgerState). IsSound x.now) (sym t.1) sound
taken_sound rules s c order (Err Memory) u sound t = subst (λ (x : LedgerState). IsSound x.now) (sym t) sound
