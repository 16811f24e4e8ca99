-- What a search keeps that takes calls without an end mark.
use Rattle.std.proofs.Common.{◌≡◌, ℕ, suc, ◌+◌, ◌-◌, List, [], ◌∷◌, map, length, All, true, refl, sym, ap, ◌∙◌, subst, arith}
use Rattle.std.proofs.lemmas.List.Elements.{All-contains}
use Rattle.kmipa_store.specs.Ledger.{Meaning, LedgerState, gone_back, back_from}
use Rattle.kmipa_store.specs.Choices.{IsSound}
use Rattle.kmipa_record.specs.Marks.{MarkOf}
use Rattle.kmipa_check.specs.Calls.{IsRecorded, call_of}
use Rattle.kmipa_record.specs.declared.call.Call.{Call}
use Rattle.kmipa_orders.specs.Guessing.{AreAllRecorded, AreSoundMarks}
use Rattle.kmipa_orders.specs.OpenDescents.{Descends, IsBack, IsFresh, IsStep, IsTaken}
use Rattle.kmipa_orders.specs.declared.guessing.Taken.{Taken}
use Rattle.kmipa_orders.specs.declared.open.descent.OpenDescent.{OpenDescent}
use Rattle.kmipa_orders.proofs.PermutationLemmas.{contains_mapped}

-- nothing was tried over a sound ledger
pub descends_fresh : (d : OpenDescent) (u : LedgerState) → IsFresh d → IsSound u.now → Descends d u
descends_fresh d u fresh sound =
    let none : length d.path.items ≡ 0 = ap length fresh.1 in
    let no_turns : length d.turns.items ≡ 0 = ap length fresh.2 in
    let N : ℕ → Type 0 = λ n. AreSoundMarks n u.marks in
    record {
      sound = sound;
      after = subst N (sym none) tt;
      deep = λ some. absurd (omega (arith, some, none));
      paid = omega (arith, none);
      turned = no_turns ∙ sym none;
    }

module _ (d : OpenDescent) (u : LedgerState) (g : Descends d u) where
  -- one step more was made, and a call was taken after a new mark
  pub descends_taken : (m e : OpenDescent) (taken : Taken) (v : LedgerState) → m.steps ≡ d.steps + 1 → length m.path.items ≡ length d.path.items
      → length m.turns.items ≡ length d.turns.items → IsTaken m taken e → IsSound v.now → v.marks ≡ u.now ∷ u.marks → taken.depth ≡ length v.marks
      → IsStep d e v
  descends_taken m e taken v steps path turns is sound marks deep =
      let long : length e.path.items ≡ suc (length d.path.items) = omega (arith, is.2, path) in
      let S : List Meaning → Type 0 = λ ms. AreSoundMarks (suc (length d.path.items)) ms in
      let N : ℕ → Type 0 = λ n. AreSoundMarks n v.marks in (
        record {
          sound = sound;
          after = subst N (sym long) (subst S (sym marks) (g.sound, g.after));
          deep = λ some. is.1 ∙ deep;
          paid = omega (arith, long, g.paid, is.0, steps);
          turned = omega (arith, long, g.turned, is.3, turns);
        },
        is.0 ∙ steps,
        omega (arith, long),
      )

  -- one step more was made, and nothing else is changed
  pub descends_refused : (m : OpenDescent) (v : LedgerState) → m.steps ≡ d.steps + 1 → m.path.items ≡ d.path.items → m.turns.items ≡ d.turns.items
      → m.depth ≡ d.depth → v ≡ u → IsStep d m v
  descends_refused m v steps path turns depth is =
      let long : length m.path.items ≡ length d.path.items = ap length path in
      let N : ℕ → Type 0 = λ n. AreSoundMarks n u.marks in
      let P : LedgerState → Type 0 = λ s. Descends m s in (
        subst P (sym is) (record {
          sound = g.sound;
          after = subst N (sym long) g.after;
          deep = λ some. depth ∙ g.deep (omega (arith, some, long));
          paid = omega (arith, long, g.paid, steps);
          turned = ap length turns ∙ g.turned ∙ sym long;
        }),
        steps,
        omega (arith, long),
      )

  -- the last call was given back
  pub descends_back : (e : OpenDescent) (v : LedgerState) → length d.path.items ≡ suc (length e.path.items) → length e.turns.items + 1 ≡ length d.turns.items
      → e.depth ≡ d.depth - 1 → e.steps ≡ d.steps → v ≡ gone_back u → IsBack d e v true
  descends_back e v long less depth steps back = (
    (let N : ℕ → Type 0 = λ n. AreSoundMarks n u.marks in by u.marks refl (subst N long g.after)),
    steps,
    omega (arith, long),
  )
    where
      by : (marks : List Meaning) → u.marks ≡ marks → AreSoundMarks (suc (length e.path.items)) marks → Descends e v
      by [] same sound = absurd sound
      by (m ∷ marks) same sound =
          let is : v ≡ record { now = m; marks = marks } = back ∙ ap (back_from u.now) same in
          let P : LedgerState → Type 0 = λ s. Descends e s in
          subst P (sym is) (record {
            sound = sound.0;
            after = sound.1;
            deep = λ some. omega (arith, g.deep (omega (arith, long)), ap length same, depth);
            paid = omega (arith, g.paid, long, steps);
            turned = omega (arith, g.turned, long, less);
          })

-- the calls are recorded calls
pub all_recorded : (marks : List MarkOf) (calls : List Call) → All (IsRecorded marks) (map call_of calls) → AreAllRecorded calls
all_recorded marks calls each c has = (marks, All-contains (IsRecorded marks) (map call_of calls) (call_of c) each (contains_mapped call_of calls c has))
