-- One place, taken.
use Rattle.std.proofs.Common.{◌≡◌, sym, subst, ℤ, Result, Ok, Err}
use Rattle.kmipa_store.specs.Ledger.{LedgerState}
use Rattle.kmipa_msgs.specs.Messages.{AskOf, AnswerOf}
use Rattle.kmipa_ops.specs.declared.why.Refusal.{Refusal}
use Rattle.kmipa_ops.specs.declared.why.Refusal.TheVariants.{Impossible, Memory}
use Rattle.kmipa_passed.specs.Leaving.{HeldOf}
use Rattle.kmipa_passed.specs.declared.leaving.Held.{Held}
use Rattle.kmipa_aside.specs.Passed.{PassedOf}
use Rattle.kmipa_aside.specs.Places as asides
use Rattle.kmipa_aside.specs.InSight.{TakenInSight}
use Rattle.kmipa_aside.specs.Sights.{SightOf}
use Rattle.kmipa_aside.specs.Taking.{TakenPassed}
use Rattle.kmipa_places.specs.Places.{PlaceOf, judged, passed}
use Rattle.kmipa_places.specs.declared.place.By.{By}
use Rattle.kmipa_bundle.specs.Running.{TakenPlace}

module _ (sight : SightOf) (s : LedgerState) (before : HeldOf) (moment t : ℤ) (at : moment ≡ t) where
  taken_judged : (ask : AskOf) (answer : AnswerOf) (r : Result Held Refusal) (u : LedgerState) → TakenInSight sight s before t (asides.judged ask answer) r u → TakenPlace sight s before t (judged ask answer) r u
  taken_judged ask answer (Ok after) u x = x
  taken_judged ask answer (Err (Impossible why)) u x = (record { named = x.0; refutes = x.1 }, x.2)
  taken_judged ask answer (Err Memory) u x = x

  taken_passed : (by : By) (p : PassedOf) (r : Result Held Refusal) (u : LedgerState) → TakenPassed s before t p r u → TakenPlace sight s before t (passed by p) r u
  taken_passed by p (Ok after) u x = x
  taken_passed by p (Err (Impossible why)) u x = (record { named = x.0; refutes = x.1 }, x.2)
  taken_passed by p (Err Memory) u x = x

  pub judged_taken : (place : PlaceOf) (ask : AskOf) (answer : AnswerOf) → place ≡ judged ask answer → (r : Result Held Refusal) (u : LedgerState) → TakenInSight sight s before moment (asides.judged ask answer) r u
      → TakenPlace sight s before t place r u
  judged_taken place ask answer is r u x =
      let P : PlaceOf → Type 0 = λ y. TakenPlace sight s before t y r u in
      let Q : ℤ → Type 0 = λ m. TakenInSight sight s before m (asides.judged ask answer) r u in
      subst P (sym is) (taken_judged ask answer r u (subst Q at x))

  pub passed_taken : (place : PlaceOf) (by : By) (p : PassedOf) → place ≡ passed by p → (r : Result Held Refusal) (u : LedgerState) → TakenPassed s before moment p r u
      → TakenPlace sight s before t place r u
  passed_taken place by p is r u x =
      let P : PlaceOf → Type 0 = λ y. TakenPlace sight s before t y r u in
      let Q : ℤ → Type 0 = λ m. TakenPassed s before m p r u in
      subst P (sym is) (taken_passed by p r u (subst Q at x))
