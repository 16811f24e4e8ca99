-- One judged place of a call, by what its client sees.
use Rattle.std.proofs.Common.{◌≡◌, ◌∙◌, ◌&&◌, refl, ap, sym, subst, ℤ, Bool, true, false, if◌then◌else◌, Option, None, Result, Ok, Err}
use Rattle.kmipa_store.specs.Ledger.{LedgerState}
use Rattle.kmipa_store.specs.Choices.{Choice}
use Rattle.kmipa_msgs.specs.Messages.{AskOf, AnswerOf, RulesOf}
use Rattle.kmipa_ops.specs.declared.why.Why.{Why}
use Rattle.kmipa_ops.specs.declared.why.Refusal.{Refusal}
use Rattle.kmipa_ops.specs.declared.why.Refusal.TheVariants.{Impossible, Memory}
use Rattle.kmipa_passed.specs.Leaving.{HeldOf, held_of}
use Rattle.kmipa_passed.specs.declared.leaving.Held.{Held}
use Rattle.kmipa_aside.specs.Becoming.{stand_in}
use Rattle.kmipa_aside.specs.Explains.{world}
use Rattle.kmipa_aside.specs.InSight.{DoesInSight, SeenWithoutHidden, TakenInSight, may_share, sight_for, with_shared}
use Rattle.kmipa_aside.specs.Permitted.{DoesPermitted, TakenPermitted, is_must, lowest_permitted, why_denied}
use Rattle.kmipa_aside.specs.Places.{judged}
use Rattle.kmipa_aside.specs.Sights.{SightOf, all_in_sight}
use Rattle.kmipa_aside.specs.Standing.{StandOf}
use Rattle.kmipa_aside.specs.Taking.{Tells}
use Rattle.kmipa_aside.specs.Worlds.{WorldOf, stand}
use Rattle.kmipa_aside.proofs.NearLemmas.{stand_world}
use Rattle.kmipa_aside.proofs.PlaceLemmas.{refutes_as, took_as}
use Rattle.kmipa_aside.proofs.SeenLemmas.{seen_alone}

module _ (sight : SightOf) (t : ℤ) (ask : AskOf) (answer : AnswerOf) (s : LedgerState) (before : HeldOf) where
  abbrev by : StandOf → SightOf
  by x = sight_for sight x ask

  abbrev Does : SightOf → WorldOf → HeldOf → WorldOf → HeldOf → Type 0
  Does x = DoesPermitted x t ask answer

  abbrev D : WorldOf → HeldOf → WorldOf → HeldOf → Type 0
  D = DoesInSight sight t ask answer

  module _ (used : SightOf) (is : by (stand_in s.now) ≡ used) where
    used_in : (c : Choice) → by (stand (world c s.now)) ≡ used
    used_in c = ap by (stand_world c s.now) ∙ is

    to : (c : Choice) (w : WorldOf) (h : HeldOf) → Does used (world c s.now) before w h → D (world c s.now) before w h
    to c w h y = let P : SightOf → Type 0 = λ x. Does x (world c s.now) before w h in subst P (sym (used_in c)) y

    back : (c : Choice) (w : WorldOf) (h : HeldOf) → D (world c s.now) before w h → Does used (world c s.now) before w h
    back c w h y = let P : SightOf → Type 0 = λ x. Does x (world c s.now) before w h in subst P (used_in c) y

    taken_by : (r : Result Held Refusal) (u : LedgerState) → TakenPermitted used s before t (judged ask answer) r u → TakenInSight sight s before t (judged ask answer) r u
    taken_by (Ok after) u k = took_as (Does used) D (Tells ask answer) (Tells ask answer) s before to back (λ bytes x. x) u (held_of after) k
    taken_by (Err (Impossible why)) u k = (
      ap (λ (x : SightOf). lowest_permitted x s.now before t (judged ask answer)) is ∙ k.0,
      refutes_as (Does used) D (Tells ask answer) (Tells ask answer) s before to back k.1,
      k.2,
    )
    taken_by (Err Memory) u k = k

  pub taken_alone : may_share sight (stand_in s.now) ask ≡ false → (r : Result Held Refusal) (u : LedgerState) → TakenPermitted sight s before t (judged ask answer) r u
      → TakenInSight sight s before t (judged ask answer) r u
  taken_alone e r u k = taken_by sight (ap (λ (b : Bool). if b then record sight { rules = with_shared sight.rules } else sight) e) r u k

  pub taken_shared : may_share sight (stand_in s.now) ask ≡ true → (rules : RulesOf) → rules ≡ with_shared sight.rules → (r : Result Held Refusal) (u : LedgerState)
      → TakenPermitted (record sight { rules = rules }) s before t (judged ask answer) r u → TakenInSight sight s before t (judged ask answer) r u
  taken_shared e rules same r u k =
      let used : SightOf = record sight { rules = rules } in
      let shares : by (stand_in s.now) ≡ record sight { rules = with_shared sight.rules } = ap (λ (b : Bool). if b then record sight { rules = with_shared sight.rules } else sight) e in
      taken_by used (shares ∙ ap (λ (x : RulesOf). record sight { rules = x }) (sym same)) r u k

-- ---- where nothing is hidden

none_forbidden : (b : Bool) (o : Option Why) → (if b && false then o else None) ≡ None
none_forbidden true o = refl
none_forbidden false o = refl

pub seen_without_hidden : SeenWithoutHidden
seen_without_hidden rules t ask answer w before w' after =
    let law = seen_alone rules t ask answer w before w' after in (
      λ d. law.0 d.does,
      λ d. record { permitted = none_forbidden (is_must rules.visibility) (why_denied (all_in_sight rules) (stand w) before ask answer); does = law.1 d },
    )
