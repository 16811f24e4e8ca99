-- The present of a journal after a change, and after a change is taken back.
use Rattle.std.proofs.Common.{◌≡◌, ℕ, ◌-◌, ℤ, List, [], ◌∷◌, ◌++◌, length, take, slice_get, Some, Result, Ok, Err, refl, ap, sym, ◌∙◌, subst, arith, length-append}
use Rattle.std.specs.declared.alloc.Global.{Global}
use Rattle.std.specs.Prelude.{Box}
use Rattle.kmipa_object.specs.Life.{dates_of, state}
use Rattle.kmipa_object.specs.Lists.{updated}
use Rattle.kmipa_object.specs.declared.life.Life.{Life}
use Rattle.kmipa_object.specs.declared.object.Object.{Object}
use Rattle.kmipa_object.specs.declared.state.State.{State}
use Rattle.kmipa_store.specs.Clock.{Awaits, Dues, Time, noted_life, states_at, without}
use Rattle.kmipa_store.specs.Ledger.{Held, held, relived}
use Rattle.kmipa_store.specs.Objects.{become, exchanged}
use Rattle.kmipa_store.specs.Present.{LogsObjects, Makes, Standing, WritesDown}
use Rattle.kmipa_store.specs.declared.changes.ObjectChange.{ObjectChange}
use Rattle.kmipa_store.specs.declared.changes.Place.{Place}
use Rattle.kmipa_store.specs.declared.changes.ObjectChange.TheVariants.{Added, Replaced, Renewed}
use Rattle.kmipa_store.specs.declared.clock.Brought.{Brought}
use Rattle.kmipa_store.specs.declared.fault.StoreFault.{StoreFault}
use Rattle.kmipa_store.specs.declared.fault.StoreFault.TheVariants.{Memory}
use Rattle.kmipa_store.proofs.ChangeLemmas.{exchanged_back, exchanged_is, relived_back}
use Rattle.kmipa_store.proofs.ClockLemmas.{states_exchanged, states_popped, states_pushed, states_relived}
use Rattle.kmipa_store.proofs.DueLemmas.{awaits_pushed, awaits_relived, awaits_updated}

-- objects and what the clock tells
abbrev pub stand : List Held → Time → Standing
stand hs s = record { dated = record { objects = hs; due = s.due }; moment = s.moment }

-- each state is told as of the moment
abbrev pub Tells : List Held → Time → Type 0
Tells hs s = s.states ≡ states_at hs s.moment

pub told_pushed : (hs ys : List Held) (h : Held) (old new : Time) (due : Dues) → Tells hs old → ys ≡ hs ++ h ∷ [] → new ≡ record old { states = old.states ++ state h.card.dates old.moment ∷ []; due = due } → Tells ys new
told_pushed hs ys h old new due told f e =
    subst (λ (x : Time). Tells ys x) (sym e)
    (ap (λ (ss : List State). ss ++ state h.card.dates old.moment ∷ []) told ∙ sym (states_pushed hs h old.moment) ∙ ap (λ (x : List Held). states_at x old.moment) (sym f))

pub told_popped : (hs ys : List Held) (old new : Time) (due : Dues) → Tells hs old → ys ≡ take (length hs - 1) hs → new ≡ record old { states = take (length old.states - 1) old.states; due = due } → Tells ys new
told_popped hs ys old new due told f e =
    subst (λ (x : Time). Tells ys x) (sym e)
    (ap (λ (ss : List State). take (length ss - 1) ss) told ∙ sym (states_popped hs old.moment) ∙ ap (λ (x : List Held). states_at x old.moment) (sym f))

pub told_relived : (hs ys : List Held) (place : ℕ) (life : Life) (old new : Time) (due : Dues) → Tells hs old → ys ≡ relived hs place life
    → new ≡ record old { states = updated old.states place (λ _. state (dates_of life) old.moment); due = due } → Tells ys new
told_relived hs ys place life old new due told f e =
    subst (λ (x : Time). Tells ys x) (sym e)
    (ap (λ (ss : List State). updated ss place (λ _. state (dates_of life) old.moment)) told ∙ sym (states_relived hs place life old.moment) ∙ ap (λ (x : List Held). states_at x old.moment) (sym f))

pub told_exchanged : (hs ys : List Held) (place : ℕ) (h : Held) (old new : Time) (due : Dues) → Tells hs old → ys ≡ exchanged hs place h
    → new ≡ record old { states = updated old.states place (λ _. state h.card.dates old.moment); due = due } → Tells ys new
told_exchanged hs ys place h old new due told f e =
    subst (λ (x : Time). Tells ys x) (sym e)
    (ap (λ (ss : List State). updated ss place (λ _. state h.card.dates old.moment)) told ∙ sym (states_exchanged hs place h old.moment) ∙ ap (λ (x : List Held). states_at x old.moment) (sym f))

take_before : {X : Type 0} (xs : List X) (x : X) → take (length xs) (xs ++ x ∷ []) ≡ xs
take_before [] x = refl
take_before (y ∷ xs) x = ap (λ ys. y ∷ ys) (take_before xs x)

last_place : {X : Type 0} (xs : List X) (x : X) → length (xs ++ x ∷ []) - 1 ≡ length xs
last_place xs x = omega (arith, length-append xs (x ∷ []))

pub makes_pushed : (hs ys : List Held) (o : Object) (old new : Time) (place : ℕ) (states : List State) (b : Brought) → ys ≡ hs ++ held o ∷ [] → place ≡ length hs
    → new ≡ record old { states = states; due = noted_life old.moment old.due place o.life } → without new.due place b ≡ old.due → Makes (stand hs old) (hs ++ held o ∷ []) (Ok (Added b)) (stand ys new)
makes_pushed hs ys o old new place states b f at e back =
    let moment : new.moment ≡ old.moment = ap (λ (x : Time). x.moment) e in
    let last : length ys - 1 ≡ place = ap (λ (x : List Held). length x - 1) f ∙ last_place hs (held o) ∙ sym at in
    let fewer : take (length ys - 1) ys ≡ hs = ap (λ n. take n ys) (last ∙ at) ∙ ap (take (length hs)) f ∙ take_before hs (held o) in
    let forgotten : without new.due (length ys - 1) b ≡ old.due = ap (λ n. without new.due n b) last ∙ back in (
      f,
      moment,
      ap (λ (x : List Held). record { dated = record { objects = x; due = without new.due (length ys - 1) b }; moment = new.moment }) fewer
          ∙ ap (λ (x : Dues). record { dated = record { objects = hs; due = x }; moment = new.moment }) forgotten
          ∙ ap (λ (x : ℤ). record { dated = record { objects = hs; due = old.due }; moment = x }) moment,
      (λ a. subst (λ (x : List Held). Awaits x new.due) (sym f) (subst (λ (x : Time). Awaits (hs ++ held o ∷ []) x.due) (sym e) (awaits_pushed hs (held o) old.moment old.due place o.life at refl a))),
    )

pub makes_relived : (hs ys : List Held) (o : Object) (old new : Time) (place : ℕ) (life : Life) (states : List State) (b : Brought) → ys ≡ relived hs place life → slice_get hs place ≡ Some (held o)
    → new ≡ record old { states = states; due = noted_life old.moment old.due place life } → without new.due place b ≡ old.due → Makes (stand hs old) (relived hs place life) (Ok (Replaced place o.life b)) (stand ys new)
makes_relived hs ys o old new place life states b f at e back =
    let moment : new.moment ≡ old.moment = ap (λ (x : Time). x.moment) e in
    let again : relived ys place o.life ≡ hs = ap (λ (x : List Held). relived x place o.life) f ∙ relived_back hs place life o at in (
      f,
      moment,
      ap (λ (x : List Held). record { dated = record { objects = x; due = without new.due place b }; moment = new.moment }) again
          ∙ ap (λ (x : Dues). record { dated = record { objects = hs; due = x }; moment = new.moment }) back
          ∙ ap (λ (x : ℤ). record { dated = record { objects = hs; due = old.due }; moment = x }) moment,
      (λ a. subst (λ (x : List Held). Awaits x new.due) (sym f) (subst (λ (x : Time). Awaits (relived hs place life) x.due) (sym e) (awaits_relived hs old.moment old.due place life a))),
    )

pub makes_exchanged : (hs ys : List Held) (o : Object) (former : Box Object Global) (g : Held) (old new : Time) (place : ℕ) (states : List State) (b : Brought) → ys ≡ exchanged hs place (held o) → slice_get hs place ≡ Some g
    → g.card.id ≡ (held o).card.id → held former.value ≡ become (held o) g → new ≡ record old { states = states; due = noted_life old.moment old.due place o.life } → without new.due place b ≡ old.due
    → Makes (stand hs old) (updated hs place (λ _. held o)) (Ok (Renewed place former b)) (stand ys new)
makes_exchanged hs ys o former g old new place states b f at same was e back =
    let moment : new.moment ≡ old.moment = ap (λ (x : Time). x.moment) e in
    let again : exchanged ys place (held former.value) ≡ hs = ap (λ (x : List Held). exchanged x place (held former.value)) f ∙ exchanged_back hs place g (held o) (held former.value) at was in (
      f ∙ exchanged_is hs place g (held o) at same,
      moment,
      ap (λ (x : List Held). record { dated = record { objects = x; due = without new.due place b }; moment = new.moment }) again
          ∙ ap (λ (x : Dues). record { dated = record { objects = hs; due = x }; moment = new.moment }) back
          ∙ ap (λ (x : ℤ). record { dated = record { objects = hs; due = old.due }; moment = x }) moment,
      (λ a. subst (λ (x : List Held). Awaits x new.due) (sym f) (subst (λ (x : Time). Awaits (exchanged hs place (held o)) x.due) (sym e) (awaits_updated hs old.moment old.due place o.life (λ x. become x (held o)) (λ x. refl) a))),
    )

pub makes_none : (hs ys wanted : List Held) (old new : Time) (fault : StoreFault) → ys ≡ hs → new ≡ old → fault ≡ Memory → Makes (stand hs old) wanted (Err fault) (stand ys new)
makes_none hs ys wanted old new fault f e m = (m, ap (λ (x : List Held). stand x new) f ∙ ap (λ (x : Time). stand hs x) e)

-- what the clock noted of an object that then found no room is taken away again
pub removed_same : (old mid new : Time) (s : State) (place : ℕ) (due : Dues) (b : Brought) → mid ≡ record old { states = old.states ++ s ∷ []; due = due } → without mid.due place b ≡ old.due
    → new ≡ record mid { states = take (length mid.states - 1) mid.states; due = without mid.due place b } → new ≡ old
removed_same old mid new s place due b e back f =
    let fewer : take (length mid.states - 1) mid.states ≡ old.states =
    ap (λ (x : Time). take (length x.states - 1) x.states) e ∙ ap (λ n. take n (old.states ++ s ∷ [])) (last_place old.states s) ∙ take_before old.states s in
    f
    ∙ ap (λ (ss : List State). record { moment = mid.moment; states = ss; due = without mid.due place b }) fewer
    ∙ ap (λ (ds : Dues). record { moment = mid.moment; states = old.states; due = ds }) back
    ∙ ap (λ (x : Time). record { moment = x.moment; states = old.states; due = old.due }) e

-- a change that was made, and then written down or taken back
pub logs_made : (ps : List Place) (x mid y : Standing) (cs ds : List ObjectChange) (wanted : List Held) (change : ObjectChange) (r : Result (Unit {0}) StoreFault)
    → Makes x wanted (Ok change) mid → WritesDown ps mid cs change r y ds → LogsObjects ps x cs wanted r y ds
logs_made ps x mid y cs ds wanted change (Ok u) m w =
    let P : Standing → Type 0 = λ z. LogsObjects ps x cs wanted (Ok u) z ds in
    subst P (sym w.0) (m.0, m.1, record { change = change; written = w.1; back = ap (λ (s : Standing). s.dated) m.2 }, m.3)
logs_made ps x mid y cs ds wanted change (Err fault) m w = (w.0, w.1 ∙ m.2, w.2)
