-- What is sound stays sound, whatever a call comes to.
use Rattle.std.proofs.Common.{ℕ, List, Option, Result, Ok, Err, sym, subst}
use Rattle.kmipa_store.specs.Ledger.{LedgerState}
use Rattle.kmipa_store.specs.Choices.{IsSound}
use Rattle.kmipa_msgs.specs.Messages.{RulesOf, RequestOf, ResponseOf}
use Rattle.kmipa_batch.specs.declared.refusal.CallRefusal.{CallRefusal}
use Rattle.kmipa_batch.specs.declared.refusal.CallRefusal.TheVariants.{Impossible, Memory}
use Rattle.kmipa_batch.specs.Refusals.{CallTakenAlong}

pub taken_sound : (rules : RulesOf) (s : LedgerState) (request : RequestOf) (response : ResponseOf) (order : Option (List ℕ)) (result : Result (Unit {0}) CallRefusal) (u : LedgerState)
    → IsSound s.now → CallTakenAlong rules s request response order result u → IsSound u.now
taken_sound rules s request response order (Ok done) u sound t = t.1
taken_sound rules s request response order (Err (Impossible item why)) u sound t = subst (λ (x : LedgerState). IsSound x.now) (sym t.1) sound
taken_sound rules s request response order (Err Memory) u sound t = subst (λ (x : LedgerState). IsSound x.now) (sym t) sound
