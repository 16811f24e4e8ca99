-- A story, from the place of the refused item.
use Rattle.std.proofs.Common.{◌≡◌, ℕ, ◌+◌, ◌==◌, ◌&&◌, suc, Bool, true, false, List, drop, take, map, filter, find, option_map, Option, Some, None, is_some, refl, sym, ap, ◌∙◌, subst, arith}
use Rattle.std.proofs.lemmas.Bool.Decides.{nat_tests}
use Rattle.kmipa_record.specs.Declarations.{DeclarationOf}
use Rattle.kmipa_check.specs.declared.verdict.Refused.{Refused}
use Rattle.kmipa_check.proofs.PlaceLemmas.{at_contains}
use Rattle.kmipa_check.proofs.RecordedLemmas.{cut}
use Rattle.kmipa_explain.specs.Items.{ItemOf}
use Rattle.kmipa_explain.specs.Kept.{AreNone, PassesAt}
use Rattle.kmipa_explain.specs.Reading.{IsStoryAt, is_that}
use Rattle.kmipa_explain.specs.Stories.{IsStory, HasNoStory, event_of, happens_to, is_declared, makes_it}
use Rattle.kmipa_explain.specs.declared.explanation.Story.{Story}

all_three : (a b c : Bool) → (a && b && c) ≡ true → (a ≡ true) × (b ≡ true) × (c ≡ true)
all_three true true true e = (refl, refl, refl)
all_three true true false e = absurd cc
all_three true false c e = absurd cc
all_three false b c e = absurd cc

is_equal : (m n : ℕ) → (m == n) ≡ true → m ≡ n
is_equal m n e = grind (arith, nat_tests)

tests_equal : (m n : ℕ) → m ≡ n → (m == n) ≡ true
tests_equal m n e = grind (arith, nat_tests)

module _ (r : Refused) (i : ItemOf) where
  parts : is_that r i ≡ true → ((i.turn == r.turn) ≡ true) × ((i.item == r.item) ≡ true) × (is_some i.about ≡ true)
  parts e = all_three (i.turn == r.turn) (i.item == r.item) (is_some i.about) e

  pub that_turn : is_that r i ≡ true → i.turn ≡ r.turn
  that_turn e = is_equal i.turn r.turn (parts e).0

  pub that_item : is_that r i ≡ true → i.item ≡ r.item
  that_item e = is_equal i.item r.item (parts e).1

  pub that_about : is_that r i ≡ true → i.about ≡ None → ⊥
  that_about e none = let some : is_some i.about ≡ true = (parts e).2 in let not_some : is_some i.about ≡ false = ap is_some none in absurd cc

  -- another one with this turn and item is about nothing
  not_that : is_that r i ≡ false → i.turn ≡ r.turn → i.item ≡ r.item → i.about ≡ None
  not_that e turn item = by i.about refl
    where
      by : (about : Option (List ℕ)) → i.about ≡ about → i.about ≡ None
      by None is = is
      by (Some id) is =
          let a : (i.turn == r.turn) ≡ true = tests_equal i.turn r.turn turn in
          let b : (i.item == r.item) ≡ true = tests_equal i.item r.item item in
          let c : is_some i.about ≡ true = ap is_some is in
          let yes_it_is : is_that r i ≡ true = ap (λ (x : Bool). x && (i.item == r.item) && is_some i.about) a ∙ ap (λ (x : Bool). true && x && is_some i.about) b ∙ ap (λ (x : Bool). true && true && x) c in
          absurd cc

pub no_story : (r : Refused) (items : List ItemOf) → AreNone (is_that r) items → HasNoStory items r
no_story r items none here has turn item = let p = at_contains items here has in not_that r here (none p.0 here p.1) turn item

module _ (declared : DeclarationOf) (items : List ItemOf) (r : Refused) (place : ℕ) (at : PassesAt (is_that r) items place) where
  -- the refused item is about an identifier
  pub not_about : (about : Option (List ℕ)) → at.0.about ≡ about → about ≡ None → ⊥
  not_about about is none = that_about r at.0 at.2 (is ∙ none)

  pub story_there : (id : List ℕ) (s : Story) → at.0.about ≡ Some id → IsStoryAt declared items place id s → IsStory declared items r s
  story_there id s is told =
      let same = sym told.identifier in
      let P : List ℕ → Type 0 = λ x. s.declared ≡ is_declared declared x in
      let Q : List ℕ → Type 0 = λ x. s.events.items ≡ map event_of (filter (happens_to x) (take place items)) in
      let R : List ℕ → Type 0 = λ x. s.born_later ≡ option_map event_of (find (makes_it x) (drop (suc place) items)) in
      let next : place + 1 ≡ suc place = omega arith in
      let B : ℕ → Type 0 = λ n. s.born_later ≡ option_map event_of (find (makes_it id) (drop n items)) in
      record {
        ahead = take place items;
        here = at.0;
        behind = drop (suc place) items;
        cut = cut items place at.0 at.1;
        turn = that_turn r at.0 at.2;
        item = that_item r at.0 at.2;
        about = is ∙ ap Some same;
        at_start = subst P same told.at_start;
        events = subst Q same told.events;
        born_later = subst R same (subst B next told.born_later);
      }
