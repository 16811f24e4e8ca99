-- The item taken, as the caller says it.
use Rattle.std.proofs.Common.{◌≡◌, ℕ, ℤ, List, Option, Result, sym, subst}
use Rattle.kmipa_store.specs.Ledger.{LedgerState}
use Rattle.kmipa_msgs.specs.Messages.{RulesOf, AskedOf, AskOf, AnswerOf}
use Rattle.kmipa_ops.specs.declared.why.Refusal.{Refusal}
use Rattle.kmipa_ops.specs.Asks.{ask_with}
use Rattle.kmipa_ops.specs.Explains.{Taken}

pub taken_as : (rules : RulesOf) (s : LedgerState) (p : Option (List ℕ)) {t u : ℤ} (batch : Option (List ℕ)) {asked a : AskedOf} (answer : AnswerOf) (r : Result (Unit {0}) Refusal) (n : LedgerState) (q : Option (List ℕ))
    → u ≡ t → asked ≡ a → Taken rules s p u (ask_with batch a) answer r n q → Taken rules s p t (ask_with batch asked) answer r n q
taken_as rules s p {t} {u} batch {asked} {a} answer r n q same is x =
    let P : ℤ → Type 0 = λ z. Taken rules s p z (ask_with batch asked) answer r n q in
    let Q : AskedOf → Type 0 = λ z. Taken rules s p u (ask_with batch z) answer r n q in
    subst P same (subst Q (sym is) x)

-- over a ledger that is set to the moment
pub taken_from : (rules : RulesOf) (s v : LedgerState) (p : Option (List ℕ)) (t u : ℤ) (ask : AskOf) (answer : AnswerOf) (r : Result (Unit {0}) Refusal) (n : LedgerState) (q : Option (List ℕ))
    → v ≡ s → u ≡ t → Taken rules v p u ask answer r n q → Taken rules s p t ask answer r n q
taken_from rules s v p t u ask answer r n q same moment x =
    let P : LedgerState → Type 0 = λ z. Taken rules z p t ask answer r n q in
    let Q : ℤ → Type 0 = λ z. Taken rules v p z ask answer r n q in
    subst P same (subst Q moment x)
