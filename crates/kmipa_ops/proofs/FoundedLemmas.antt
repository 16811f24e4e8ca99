-- A reason passes the test exactly where it is founded.
use Rattle.std.proofs.Common.{◌≡◌, ◌≢◌, ◌&&◌, ◌||◌, ◌==◌, ◌⊎◌, ℕ, ℤ, Bool, true, false, not, is_none, List, Option, Some, None, refl, ap, sym, ◌∙◌, inl, inr}
use Rattle.std.specs.Bool.{Decides}
use Rattle.std.proofs.lemmas.Bool.{and_parts, and_from}
use Rattle.std.proofs.lemmas.Bool.Decides.{Decides-eqb}
use Rattle.kmipa_object.specs.Inventory.{Card, live}
use Rattle.kmipa_object.specs.declared.allow.Act.{Act}
use Rattle.kmipa_object.specs.declared.allow.Allow.{Allow}
use Rattle.kmipa_object.specs.declared.allow.Allow.TheVariants.{Must, May, Not}
use Rattle.kmipa_msgs.specs.Messages.{RulesOf, RowOf}
use Rattle.kmipa_msgs.specs.declared.rules.Cause.{Cause}
use Rattle.kmipa_msgs.specs.declared.rules.Cause.TheVariants.{WrongState, NotFound, TakenName}
use Rattle.kmipa_ops.specs.Allowance.{allowance}
use Rattle.kmipa_ops.specs.Objects.{meant, card_meant}
use Rattle.kmipa_ops.specs.Row.{row_subject, SubjectOf, on_object, on_names, on_nothing}
use Rattle.kmipa_ops.specs.Rows.{asked_row}
use Rattle.kmipa_ops.specs.Founded.{Holds, IsOfNothing, FoundedOf, FoundedIsDecided, is_live_there, is_must, is_refusable, holds_of, is_of_nothing, has_row, has_cause, founded_of}
use Rattle.kmipa_ops.specs.Founded.FoundedOf.{unsaid, unlisted, of_nothing, caused}
use Rattle.kmipa_ops.proofs.TestLemmas.{some_if, some_not, false_if, true_not}
use Rattle.kmipa_ops.proofs.NameLemmas.{any_named-Decides}

not_found_if : (o : Option Card) → not (is_live_there o) ≡ true → (c : Card) → o ≡ Some c → live c ≡ true → ⊥
not_found_if None h c e alive = cc
not_found_if (Some d) h c e alive = let same : d ≡ c = cc in let q : live d ≡ true = ap live same ∙ alive in let r : not (live d) ≡ false = ap not q in cc

not_found_not : (o : Option Card) → ((c : Card) → o ≡ Some c → live c ≡ true → ⊥) → not (is_live_there o) ≡ true
not_found_not None f = refl
not_found_not (Some d) f = ap not (false_if (live d) (λ e. f d refl e))

must_is : (a : Allow) → is_must a ≡ true → a ≡ Must
must_is Must h = refl
must_is May h = cc
must_is Not h = cc

refusable_if : (rules : RulesOf) (act : Act) (t : ℤ) (o : Option Card) → is_refusable rules act t o ≡ true → (c : Card) × (o ≡ Some c) × (allowance rules act t c ≢ Must)
refusable_if rules act t None h = let bad : ⊥ = cc in absurd bad
refusable_if rules act t (Some c) h = (c, refl, λ e. let q : not (is_must (allowance rules act t c)) ≡ false = ap (λ (a : Allow). not (is_must a)) e in cc)

refusable_not : (rules : RulesOf) (act : Act) (t : ℤ) (o : Option Card) (c : Card) → o ≡ Some c → allowance rules act t c ≢ Must → is_refusable rules act t o ≡ true
refusable_not rules act t o c e f = ap (is_refusable rules act t) e ∙ ap not (false_if (is_must (allowance rules act t c)) (λ q. f (must_is _ q)))

holds_decides : (rules : RulesOf) (cs : List Card) (before : Option (List ℕ)) (t : ℤ) (subject : SubjectOf) (cause : Cause) → Decides (holds_of rules cs before t subject cause) (Holds rules cs before t subject cause)
holds_decides rules cs before t (on_object id act true) cause = (λ h. tt, λ h. refl)
holds_decides rules cs before t (on_object id act false) NotFound = (not_found_if (card_meant cs (meant id before)), not_found_not (card_meant cs (meant id before)))
holds_decides rules cs before t (on_object id act false) WrongState = (
  refusable_if rules act t (card_meant cs (meant id before)),
  λ h. refusable_not rules act t (card_meant cs (meant id before)) h.0 h.1 h.2,
)
holds_decides rules cs before t (on_object id act false) TakenName = (λ h. tt, λ h. refl)
holds_decides rules cs before t (on_names names) TakenName = any_named-Decides cs names
holds_decides rules cs before t (on_names names) NotFound = (λ h. tt, λ h. refl)
holds_decides rules cs before t (on_names names) WrongState = (λ h. tt, λ h. refl)
holds_decides rules cs before t on_nothing cause = (λ h. tt, λ h. refl)

none_if : {A : Type 0} (o : Option A) → is_none o ≡ true → o ≡ None
none_if None h = refl
none_if (Some x) h = let bad : ⊥ = cc in absurd bad

nothing_decides : (before : Option (List ℕ)) (subject : SubjectOf) → Decides (is_of_nothing before subject) (IsOfNothing before subject)
nothing_decides before (on_object id act unjudged) = (none_if (meant id before), λ e. ap is_none e)
nothing_decides before (on_names names) = (λ h. cc, λ h. absurd h)
nothing_decides before on_nothing = (λ h. cc, λ h. absurd h)

module _ (rules : RulesOf) (cs : List Card) (before : Option (List ℕ)) (t : ℤ) (subject : SubjectOf) (reason : ℕ) where
  abbrev has_it : RowOf → Bool
  has_it row = row.reason == reason

  abbrev is_cause : RowOf → Bool
  is_cause row = (row.reason == reason) && holds_of rules cs before t subject row.cause

  cause_decides : (row : RowOf) → Decides (is_cause row) ((row.reason ≡ reason) × Holds rules cs before t subject row.cause)
  cause_decides row = (
    λ h. let w = and_parts (row.reason == reason) (holds_of rules cs before t subject row.cause) h in ((Decides-eqb row.reason reason).0 w.0, (holds_decides rules cs before t subject row.cause).0 w.1),
    λ h. and_from (row.reason == reason) (holds_of rules cs before t subject row.cause) ((Decides-eqb row.reason reason).1 h.0) ((holds_decides rules cs before t subject row.cause).1 h.1),
  )

  abbrev Said : Type 0
  Said = FoundedOf rules cs before t subject (Some reason)

  founded_cases : (listed nothing cause : Bool) → has_row rules reason ≡ listed → is_of_nothing before subject ≡ nothing → has_cause rules cs before t subject reason ≡ cause
      → (not listed || nothing || cause) ≡ true → Said
  founded_cases false nothing cause is_listed is_nothing is_caused h =
      unlisted reason refl (λ row at e. true_not (has_row rules reason) (some_not has_it (λ (r : RowOf). r.reason ≡ reason) (λ r. Decides-eqb r.reason reason) rules.rows row at e) is_listed)
  founded_cases true true cause is_listed is_nothing is_caused h = of_nothing ((nothing_decides before subject).0 is_nothing)
  founded_cases true false true is_listed is_nothing is_caused h =
      let s = some_if is_cause (λ (r : RowOf). (r.reason ≡ reason) × Holds rules cs before t subject r.cause) cause_decides rules.rows is_caused in
      caused s.0 s.1 (ap Some (sym s.2.0)) s.2.1
  founded_cases true false false is_listed is_nothing is_caused h = let bad : ⊥ = cc in absurd bad

  founded_if : founded_of rules cs before t subject (Some reason) ≡ true → Said
  founded_if h = founded_cases (has_row rules reason) (is_of_nothing before subject) (has_cause rules cs before t subject reason) refl refl refl h

  some_holds : (a b c : Bool) → (a ≡ false → ⊥) ⊎ ((b ≡ true) ⊎ (c ≡ true)) → (a || b || c) ≡ true
  some_holds true b c h = refl
  some_holds false true c h = refl
  some_holds false false true h = refl
  some_holds false false false h = elim h [ inl f ↦ absurd (f refl) | inr g ↦ (elim g [ inl e ↦ e | inr e ↦ e ]) ]

  founded_not : Said → founded_of rules cs before t subject (Some reason) ≡ true
  founded_not (unsaid e) = cc
  founded_not (unlisted number e none) =
      let none_has : has_row rules reason ≡ false =
      false_if (has_row rules reason) (λ h.
      let s = some_if has_it (λ (r : RowOf). r.reason ≡ reason) (λ r. Decides-eqb r.reason reason) rules.rows h in
      let same : reason ≡ number = cc in
      none s.0 s.1 (s.2 ∙ same)) in
      ap (λ (b : Bool). not b || is_of_nothing before subject || has_cause rules cs before t subject reason) none_has
  founded_not (of_nothing h) = some_holds (not (has_row rules reason)) (is_of_nothing before subject) (has_cause rules cs before t subject reason) (inr (inl ((nothing_decides before subject).1 h)))
  founded_not (caused row at e h) =
      let same : row.reason ≡ reason = cc in
      some_holds (not (has_row rules reason)) (is_of_nothing before subject) (has_cause rules cs before t subject reason)
      (inr (inr (some_not is_cause (λ (r : RowOf). (r.reason ≡ reason) × Holds rules cs before t subject r.cause) cause_decides rules.rows row at (same, h))))

of_decides : (rules : RulesOf) (cs : List Card) (before : Option (List ℕ)) (t : ℤ) (subject : SubjectOf) (reason : Option ℕ) → Decides (founded_of rules cs before t subject reason) (FoundedOf rules cs before t subject reason)
of_decides rules cs before t subject None = (λ h. unsaid refl, λ h. refl)
of_decides rules cs before t subject (Some reason) = (founded_if rules cs before t subject reason, founded_not rules cs before t subject reason)

pub founded_decides : FoundedIsDecided
founded_decides rules cs before t asked reason = of_decides rules cs before t (row_subject (asked_row asked)) reason
