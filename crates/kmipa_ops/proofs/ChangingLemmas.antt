-- The three operations that change an object have one row.
use Rattle.std.proofs.Common.{◌≡◌, ◌∙◌, ℕ, ℤ, find, List, Option, Result, Ok, Err, option_and_then, refl, sym, ap, subst}
use Rattle.kmipa_store.specs.Ledger.{Held, LedgerState, Meaning, changed}
use Rattle.kmipa_msgs.specs.Messages.{RulesOf, PayloadOf}
use Rattle.kmipa_ops.specs.After.{Changes, LeavesAfter, after_done, placeholder_done}
use Rattle.kmipa_ops.specs.Blame.{done_speaks}
use Rattle.kmipa_ops.specs.Changes.{asked_change, change_speaks, changed_at, held_left, id_in, seen_changed, with_changed}
use Rattle.kmipa_ops.specs.Effects.{changes}
use Rattle.kmipa_ops.specs.Rows.{effect_asked, subject_asked}
use Rattle.kmipa_ops.specs.Meant.{place_about, place_meant}
use Rattle.kmipa_ops.specs.Objects.{meant}
use Rattle.kmipa_ops.specs.Whys.{whys}
use Rattle.kmipa_ops.specs.declared.change.Change.{Change}
use Rattle.kmipa_ops.specs.declared.change.Change.TheVariants.{Activate, Revoke, Destroy}
use Rattle.kmipa_ops.specs.declared.why.Why.{Why}

module _ (id : Option (List ℕ)) where
  pub change_effect : (change : Change) → effect_asked (asked_change id change) ≡ changes change
  change_effect Activate = refl
  change_effect (Revoke code) = refl
  change_effect Destroy = refl

  pub change_holds : (change : Change) (before : Option (List ℕ)) (payload : Option PayloadOf) → placeholder_done before (asked_change id change) payload ≡ before
  change_holds Activate before payload = refl
  change_holds (Revoke code) before payload = refl
  change_holds Destroy before payload = refl

  change_leaves : (change : Change) (m : Meaning) (before : Option (List ℕ)) (t : ℤ) (payload : Option PayloadOf) → after_done m before t (asked_change id change) payload ≡ with_changed m (meant id before) t change
  change_leaves Activate m before t payload = refl
  change_leaves (Revoke code) m before t payload = refl
  change_leaves Destroy m before t payload = refl

  change_place : (change : Change) (objects : List Held) (before : Option (List ℕ)) → place_about objects before (subject_asked (asked_change id change)) ≡ place_meant objects (meant id before)
  change_place Activate objects before = refl
  change_place (Revoke code) objects before = refl
  change_place Destroy objects before = refl

  change_done_speaks : (change : Change) (rules : RulesOf) (m : Meaning) (before : Option (List ℕ)) (t : ℤ) (payload : Option PayloadOf)
      → find (change_speaks rules m.objects (meant id before) t change (id_in (option_and_then seen_changed payload))) whys ≡ find (done_speaks rules m before t (asked_change id change) payload) whys
  change_done_speaks Activate rules m before t payload = refl
  change_done_speaks (Revoke code) rules m before t payload = refl
  change_done_speaks Destroy rules m before t payload = refl

-- the lowest reason against a change is that of its row
pub change_why : (m : Meaning) (id : Option (List ℕ)) (change : Change) (rules : RulesOf) (before : Option (List ℕ)) (t : ℤ) (payload : Option PayloadOf) (about shown : Option (List ℕ)) (why : Option Why)
    → about ≡ meant id before → shown ≡ id_in (option_and_then seen_changed payload) → why ≡ find (change_speaks rules m.objects about t change shown) whys
    → why ≡ find (done_speaks rules m before t (asked_change id change) payload) whys
change_why m id change rules before t payload about shown why is_meant is_shown is =
    is ∙ ap (λ (o : Option (List ℕ)). find (change_speaks rules m.objects o t change shown) whys) is_meant
    ∙ ap (λ (o : Option (List ℕ)). find (change_speaks rules m.objects (meant id before) t change o) whys) is_shown
    ∙ change_done_speaks id change rules m before t payload

-- and the ledger that is left is as its row leaves it
pub change_leaves_after : (s u : LedgerState) (place : Option ℕ) (id : Option (List ℕ)) (change : Change) (before : Option (List ℕ)) (t : ℤ) (payload : Option PayloadOf) {E : Type 0}
    (result : Result (Unit {0}) E) → place ≡ place_about s.now.objects before (subject_asked (asked_change id change))
    → Changes s (record { objects = changed_at s.now.objects place (held_left change t); secrets = s.now.secrets; aside = s.now.aside }) result u
    → LeavesAfter s (after_done s.now before t (asked_change id change) payload) (placeholder_done before (asked_change id change) payload) result u before
change_leaves_after s u place id change before t payload (Ok done) is left =
    let N : Option ℕ → Meaning = λ o. record { objects = changed_at s.now.objects o (held_left change t); secrets = s.now.secrets; aside = s.now.aside } in
    let P : Meaning → Type 0 = λ n. u ≡ changed s n in
    (subst P (ap N (is ∙ change_place id change s.now.objects before) ∙ sym (change_leaves id change s.now before t payload)) left, sym (change_holds id change before payload))
change_leaves_after s u place id change before t payload (Err e) is left = left
