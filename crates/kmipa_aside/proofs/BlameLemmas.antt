-- What a reason speaks against is possible for no choice: so none speaks against what was taken.
use Rattle.std.proofs.Common.{◌≡◌, ◌∙◌, ◌&&◌, ◌||◌, not, refl, ap, sym, ℕ, ℤ, Bool, true, false, is_some, if◌then◌else◌, List, Option, Some, None, option_map, Err}
use Rattle.kmipa_store.specs.Ledger.{LedgerState}
use Rattle.kmipa_store.specs.Choices.{IsSound}
use Rattle.kmipa_msgs.specs.Messages.{RulesOf, AskOf, AnswerOf}
use Rattle.kmipa_ops.specs.declared.why.Why.{Why}
use Rattle.kmipa_ops.specs.declared.why.Refusal.TheVariants.{Impossible}
use Rattle.kmipa_ops.proofs.ExplainLemmas as told
use Rattle.kmipa_passed.specs.Leaving.{HeldOf}
use Rattle.kmipa_aside.specs.Becoming.{stand_in}
use Rattle.kmipa_aside.specs.Births.{BirthOf, birth_by}
use Rattle.kmipa_aside.specs.Cases.{case}
use Rattle.kmipa_aside.specs.Does.{DoesExcused, is_as_ever}
use Rattle.kmipa_aside.specs.Ever.{DoesPlain, is_plain, judged_by}
use Rattle.kmipa_aside.specs.Explains.{Refutes, Took, world}
use Rattle.kmipa_aside.specs.Graves.{body_of, grave}
use Rattle.kmipa_aside.specs.Listing.{DoesListing}
use Rattle.kmipa_aside.specs.Lists.{is_touched}
use Rattle.kmipa_aside.specs.Missed.{answer_with, ask_with, is_any, missed}
use Rattle.kmipa_aside.specs.Places.{DoesJudged, excused, judged, listing, lowest_at, plain, reborn}
use Rattle.kmipa_aside.specs.Reborn.{DoesReborn, lowest_beside}
use Rattle.kmipa_aside.specs.Seen.{DoesSeen, is_denied, lowest_seen}
use Rattle.kmipa_aside.specs.Sights.{SightOf}
use Rattle.kmipa_aside.specs.Standing.{StandOf}
use Rattle.kmipa_aside.specs.Taking.{NoBytes, Tells, frame_lowest, listing_lowest}
use Rattle.kmipa_aside.proofs.ListingLemmas.{listing_never}
use Rattle.kmipa_aside.proofs.PlaceLemmas.{only_excused, only_listing, only_plain, only_reborn, refutes_as}
use Rattle.kmipa_aside.proofs.PlainLemmas.{plain_refused}
use Rattle.kmipa_aside.proofs.RebornLemmas.{new_is, reborn_refutes}
use Rattle.kmipa_aside.proofs.SeenLemmas.{missing_refused, open_taken, seen_undenied}
use Rattle.kmipa_aside.proofs.TakenLemmas.{refutes_excused}

-- ---- a judged item

module _ (rules : RulesOf) (t : ℤ) (ask : AskOf) (answer : AnswerOf) (s : LedgerState) (before : HeldOf) (sound : IsSound s.now) where
  abbrev in_ledger : StandOf
  in_ledger = stand_in s.now

  abbrev is_ever : Bool
  is_ever = is_as_ever (case rules in_ledger before ask answer)

  abbrev lists : Bool
  lists = is_touched in_ledger ask answer

  abbrev dug : Option ℕ
  dug = grave in_ledger ask answer

  abbrev by : Option (List ℕ)
  by = judged_by before answer

  abbrev Never : Type 0
  Never = Refutes (DoesJudged rules t ask answer) s.now before

  of_excused : (w : Why) → is_ever ≡ false → frame_lowest ask answer ≡ Some w → Never
  of_excused w free e =
      refutes_as (DoesExcused rules t ask answer) (DoesJudged rules t ask answer) NoBytes (Tells ask answer) s before (λ c v h y. excused y) (only_excused rules t ask answer s before free)
      (refutes_excused rules t ask answer s.now before w e)

  of_listing : (w : Why) → is_ever ≡ true → lists ≡ true → listing_lowest rules s.now before t ask answer ≡ Some w → Never
  of_listing w ever has e =
      let both = ap (λ (b : Bool). b && lists) ever ∙ has in
      refutes_as (DoesListing rules t ask answer) (DoesJudged rules t ask answer) (Tells ask answer) (Tells ask answer) s before (λ c v h y. listing y) (only_listing rules t ask answer s before ever has)
      (listing_never rules t ask answer s before both w e)

  of_birth : (w : Why) (place : ℕ) → is_ever ≡ true → dug ≡ Some place → (o : Option BirthOf) → birth_by answer.status ask.asked answer.payload ≡ o → lowest_beside rules s.now before t ask answer (Some place) ≡ Some w
      → Refutes (DoesReborn rules t ask answer) s.now before
  of_birth w place ever body None none e =
      let nobody : dug ≡ None = ap (body_of in_ledger) (new_is answer.status ask.asked answer.payload ∙ ap (option_map (λ (b : BirthOf). b.answered.id)) none) in
      let bad : None ≡ Some place = sym nobody ∙ body in
      let no : ⊥ = cc in
      absurd no
  of_birth w place ever body (Some b) born e = reborn_refutes rules t ask answer s before b place sound born ever body w e

  of_reborn : (w : Why) (place : ℕ) → is_ever ≡ true → dug ≡ Some place → lowest_beside rules s.now before t ask answer (Some place) ≡ Some w → Never
  of_reborn w place ever body e =
      refutes_as (DoesReborn rules t ask answer) (DoesJudged rules t ask answer) (Tells ask answer) (Tells ask answer) s before (λ c v h y. reborn y)
      (only_reborn rules t ask answer s before ever (ap is_some body)) (of_birth w place ever body (birth_by answer.status ask.asked answer.payload) refl e)

  of_plain : (w : Why) → is_ever ≡ true → lists ≡ false → dug ≡ None → lowest_beside rules s.now before t ask answer None ≡ Some w → Never
  of_plain w ever has body e =
      let plainly : is_plain rules in_ledger before ask answer ≡ true =
      ap (λ (b : Bool). b && not (lists || is_some dug)) ever ∙ ap (λ (b : Bool). not (b || is_some dug)) has ∙ ap (λ (o : Option ℕ). not (is_some o)) body in
      refutes_as (DoesPlain rules t ask answer) (DoesJudged rules t ask answer) (Tells ask answer) (Tells ask answer) s before (λ c v h y. plain y) (only_plain rules t ask answer s before plainly)
      (plain_refused rules t ask answer s s before (Impossible w) by by plainly refl (told.refuted rules s.now by t ask answer w e, refl, refl)).2

  of_grave : (w : Why) (o : Option ℕ) → is_ever ≡ true → lists ≡ false → dug ≡ o → lowest_beside rules s.now before t ask answer o ≡ Some w → Never
  of_grave w None ever has body e = of_plain w ever has body e
  of_grave w (Some place) ever has body e = of_reborn w place ever body e

  abbrev chosen : Bool → Bool → Option Why
  chosen a b = if a then (if b then listing_lowest rules s.now before t ask answer else lowest_beside rules s.now before t ask answer dug) else frame_lowest ask answer

  of_both : (w : Why) (a b : Bool) → is_ever ≡ a → lists ≡ b → chosen a b ≡ Some w → Never
  of_both w true true ever has e = of_listing w ever has e
  of_both w true false ever has e = of_grave w dug ever has refl e
  of_both w false b ever has e = of_excused w ever e

  pub place_never : (w : Why) → lowest_at rules s.now before t (judged ask answer) ≡ Some w → Never
  place_never w e = of_both w is_ever lists refl refl e

-- ---- and one by what its client sees

module _ (sight : SightOf) (t : ℤ) (ask : AskOf) (answer : AnswerOf) (s : LedgerState) (before : HeldOf) (sound : IsSound s.now) where
  abbrev denies : Bool
  denies = is_denied sight (stand_in s.now) before ask answer

  abbrev misses : Bool
  misses = is_any (missed sight (stand_in s.now) t ask answer)

  abbrev ask' : AskOf
  ask' = ask_with ask

  abbrev answer' : AnswerOf
  answer' = answer_with (missed sight (stand_in s.now) t ask answer) answer

  abbrev NeverSeen : Type 0
  NeverSeen = Refutes (DoesSeen sight t ask answer) s.now before

  abbrev chosen_seen : Bool → Bool → Option Why
  chosen_seen a b =
      if a then frame_lowest ask answer
      else (if b then lowest_at sight.rules s.now before t (judged ask' answer') else lowest_at sight.rules s.now before t (judged ask answer))

  seen_by : (w : Why) (a b : Bool) → denies ≡ a → misses ≡ b → chosen_seen a b ≡ Some w → NeverSeen
  seen_by w true b d m e = (seen_undenied sight t ask answer s before w d e).1
  seen_by w false true d m e = (missing_refused sight t ask answer s before (Impossible w) s d m (e, place_never sight.rules t ask' answer' s before sound w e, refl)).1
  seen_by w false false d m e = (open_taken sight t ask answer s before (Err (Impossible w)) s d m (e, place_never sight.rules t ask answer s before sound w e, refl)).1

  pub seen_never : (w : Why) → lowest_seen sight s.now before t (judged ask answer) ≡ Some w → NeverSeen
  seen_never w e = seen_by w denies misses refl refl e

  pub none_against : (u : LedgerState) (after : HeldOf) → Took (DoesSeen sight t ask answer) (Tells ask answer) s before u after → lowest_seen sight s.now before t (judged ask answer) ≡ None
  none_against u after k =
      let c = k.sound.choice.0 in
      let d = k.explains.sound c k.sound.choice.1 in
      elim (lowest_seen sight s.now before t (judged ask answer)) as (λ o. lowest_seen sight s.now before t (judged ask answer) ≡ o → o ≡ None) [
        | None ↦ λ e. refl
        | Some w ↦ λ e. absurd ((seen_never w e).never c d.0 (world c u.now) after d.1)
      ] refl
