-- What is told along a run, step by step.
use Rattle.std.proofs.Common.{◌≡◌, ◌≤◌, ℕ, ℤ, suc, ◌+◌, List, [], ◌∷◌, ◌++◌, length, take, Some, slice_get, refl, sym, ap, ◌∙◌, subst, add-one}
use Rattle.std.proofs.lemmas.List.{take_all}
use Rattle.kmipa_object.specs.Inventory.{Card}
use Rattle.kmipa_store.specs.Ledger.{Meaning, LedgerState}
use Rattle.kmipa_store.specs.Choices.{Choice, IsSound}
use Rattle.kmipa_store.proofs.InventoryLemmas.{cards-inv}
use Rattle.kmipa_msgs.specs.Messages.{RulesOf}
use Rattle.kmipa_record.specs.Declarations.{DeclarationOf}
use Rattle.kmipa_passed.specs.Leaving.{empty}
use Rattle.kmipa_aside.specs.Becoming.{stand_in}
use Rattle.kmipa_aside.specs.Explains.{Took, world}
use Rattle.kmipa_aside.specs.Sights.{OwnedOf, hidden_from}
use Rattle.kmipa_aside.specs.Standing.{StandOf}
use Rattle.kmipa_aside.specs.Worlds.{WorldOf, stand}
use Rattle.kmipa_bundle.specs.Composing.{DoesDeed, TellsDeed}
use Rattle.kmipa_check.specs.Runs.{rules_declared}
use Rattle.kmipa_check.proofs.RunLemmas.{take_next}
use Rattle.kmipa_turns.specs.Steps.{StepOf, TakenOf, leaves, takes, taken_hiding}
use Rattle.kmipa_trail.specs.Leading.{AreKnown, deed_in, deed_of}
use Rattle.kmipa_trail.specs.Owners.{identity, step_seen}
use Rattle.kmipa_unjudged.specs.Asides.{AreAside, TellsAlong, told_each}
use Rattle.kmipa_unjudged.specs.Following.{AreToldAfter}
use Rattle.kmipa_unjudged.specs.Naming.{named_in, named_taken}
use Rattle.kmipa_unjudged.specs.Told.{NamedOf}

-- what is hidden from its client changes nothing of what a step names
named_hiding : (call : ℤ) (hidden : List (List ℕ)) (t : TakenOf) → named_taken call (taken_hiding hidden t) ≡ named_taken call t
named_hiding call hidden (leaves left counts) = refl
named_hiding call hidden (takes c places) = refl

pub named_seen : (owners : List OwnedOf) (s : StepOf) → named_in (step_seen owners s) ≡ named_in s
named_seen owners s = named_hiding s.number (hidden_from (identity s.client) owners) s.taken

-- what is seen of a ledger is seen of each world
stand_world : (c : Choice) (m : Meaning) → stand (world c m) ≡ stand_in m
stand_world c m = ap (λ (cs : List Card). let s : StandOf = record { cards = cs; aside = m.aside } in s) (cards-inv c m.objects)

-- along some steps, and then along others
tell_join : (rules : RulesOf) (w : WorldOf) (told : List NamedOf) (xs ys : List StepOf) (v : WorldOf) (between : List NamedOf) (u : WorldOf) (all : List NamedOf)
    → TellsAlong rules w told xs v between → TellsAlong rules v between ys u all → TellsAlong rules w told (xs ++ ys) u all
tell_join rules w told [] ys v between u all t r =
    let P : WorldOf → Type 0 = λ x. TellsAlong rules x between ys u all in
    let Q : List NamedOf → Type 0 = λ x. TellsAlong rules w x ys u all in
    subst Q t.1 (subst P t.0 r)
tell_join rules w told (x ∷ xs) ys v between u all t r =
    (t.0, t.1, tell_join rules t.0 (told_each (stand t.0) told (named_in x)) xs ys v between u all t.2 r)

-- before the first step nothing is told
pub told_none : (declared : DeclarationOf) (m : Meaning) → AreKnown declared [] m → AreToldAfter declared [] m []
told_none declared m known = λ c h. let f = known.sound c h in (f.0, f.1, (f.2.0, refl))

-- one step more
pub told_more : (declared : DeclarationOf) (order : List StepOf) (n : ℕ) (s : StepOf) (v u : LedgerState) (told after : List NamedOf) (rules : RulesOf) → rules ≡ rules_declared declared
    → slice_get order n ≡ Some s → AreToldAfter declared (take n order) v.now told
    → Took (DoesDeed rules (deed_in s.taken)) (TellsDeed (deed_in s.taken)) v empty u empty
    → after ≡ told_each (stand_in u.now) told (named_in s) → AreToldAfter declared (take (n + 1) order) u.now after
told_more declared order n s v u told after rules is there so took e =
    let P : RulesOf → Type 0 = λ x. Took (DoesDeed x (deed_in s.taken)) (TellsDeed (deed_in s.taken)) v empty u empty in
    let d = subst P is took in
    let next : take (suc n) order ≡ take n order ++ s ∷ [] = take_next order n s there in
    let T : List StepOf → Type 0 = λ x. AreToldAfter declared x u.now after in
    let N : ℕ → Type 0 = λ x. AreToldAfter declared (take x order) u.now after in
    subst N (sym (add-one n))
    (subst T (sym next)
    (λ c h.
    let f = d.explains.sound c h in
    let g = so c f.0 in (
      g.0,
      g.1,
      tell_join (rules_declared declared) g.0 [] (take n order) (s ∷ []) (world c v.now) told (world c u.now) after g.2
          (world c u.now, f.1, (refl, e ∙ ap (λ (x : StandOf). told_each x told (named_in s)) (sym (stand_world c u.now)))),
    )))

-- past the last step all is told
pub told_all : (declared : DeclarationOf) (order : List StepOf) (n : ℕ) (m : Meaning) (told : List NamedOf) → length order ≤ n → IsSound m → AreToldAfter declared (take n order) m told
    → AreAside declared order told
told_all declared order n m told past sound so =
    let c = sound.choice in
    let P : List StepOf → Type 0 = λ o. AreToldAfter declared o m told in
    let f = subst P (take_all n order past) so c.0 c.1 in
    record { start = f.0; described = f.1; last = world c.0 m; along = f.2 }
