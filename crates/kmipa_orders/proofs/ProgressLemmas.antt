-- What the search keeps, event by event.
use Rattle.std.proofs.Common.{◌≡◌, ◌<◌, ◌≤◌, inl, inr, Bool, true, ℕ, suc, ◌+◌, ◌-◌, List, [], ◌∷◌, ◌++◌, map, length, reverse, Some, None, Ok, slice_get, get_or, Contains, All, refl, sym, ap, ◌∙◌, subst, arith, add-one}
use Rattle.std.proofs.lemmas.List.{map-append, reverse-append, reverse-reverse}
use Rattle.std.proofs.lemmas.Option.{slice_get_within, slice_get-get_or}
use Rattle.std.proofs.lemmas.List.Sorted.{Contains-permutation, IsPermutation-reverse}
use Rattle.std.proofs.lemmas.Grind.{reverse_onto}
use Rattle.kmipa_store.specs.Ledger.{Meaning, LedgerState, gone_back, back_from}
use Rattle.kmipa_store.specs.Choices.{IsSound}
use Rattle.kmipa_record.specs.Declarations.{DeclarationOf}
use Rattle.kmipa_msgs.specs.Messages.{RulesOf}
use Rattle.kmipa_batch.specs.Refusals.{CallExplainsAlong, CallRefutedAlong}
use Rattle.kmipa_check.specs.Steps.{StepOf, order_of}
use Rattle.kmipa_check.specs.Runs.{rules_declared}
use Rattle.kmipa_orders.specs.Progress.{ordered, places, AreBegun, AreSoundBehind, CanBeTaken, Searching, Opens, CallTried, ComesTo}
use Rattle.kmipa_orders.specs.Taken.{step_at, so_far}
use Rattle.kmipa_orders.specs.Descents.{Progress}
use Rattle.kmipa_orders.specs.Idle.{IsIdleStep}
use Rattle.kmipa_orders.specs.Tries.{IsPick, IsPicked, IsBehind, none_tried}
use Rattle.kmipa_orders.specs.declared.tried.Tried.{Tried}
use Rattle.kmipa_orders.specs.declared.tried.Visit.{Visit}
use Rattle.kmipa_orders.specs.Remaining.{AreRemaining, IsCursor}
use Rattle.kmipa_orders.specs.declared.remaining.Remaining.{Remaining}
use Rattle.kmipa_check.proofs.PlaceLemmas.{contains_at}
use Rattle.kmipa_orders.proofs.PlaceLemmas.{one_cases}
use Rattle.kmipa_orders.proofs.DeadLemmas.{none_runs}
use Rattle.kmipa_orders.proofs.SearchLemmas.{AreWishes, search_starts, step_left, search_refused, search_taken, search_found, search_ends, search_back}

-- the calls taken, as an order of places
pub so_far_ordered : (calls : List StepOf) (taken : List ℕ) → so_far calls taken ≡ ordered calls (reverse taken)
so_far_ordered calls [] = refl
so_far_ordered calls (p ∷ taken) =
    ap (λ (xs : List StepOf). xs ++ step_at calls p ∷ []) (so_far_ordered calls taken) ∙ sym (map-append (λ q. step_at calls q) (reverse taken) (p ∷ [])) ∙ ap (ordered calls) (sym (reverse_onto taken p []))

module _ (rules : RulesOf) (calls : List StepOf) (wishes : List ℕ) (ranks : AreWishes wishes (length calls)) (budget : ℕ) (first : Meaning) where
  pub progress_begin : (w : Remaining) (depth : ℕ) (u : LedgerState) → u.now ≡ first → IsSound u.now → AreRemaining calls [] w → Progress rules calls wishes budget first w [] none_tried depth 0 u
  progress_begin w depth u same sound remaining = record {
    searching = λ declared o. search_starts declared rules calls wishes u.now u.marks ranks (let P : Meaning → Type 0 = λ m. Opens declared rules calls m in subst P (sym same) o) sound;
    sound = sound;
    after = tt;
    remaining = λ b. remaining;
    cursor = λ b. inl refl;
    cursors = λ b. tt;
    within = λ p has. absurd (omega (arith, has.1));
    deep = λ some. absurd (omega (arith, some));
    few = omega arith;
  }

  module _ (w : Remaining) (visits : List Visit) (t : Tried) (depth steps : ℕ) (u : LedgerState) (g : Progress rules calls wishes budget first w visits t depth steps u) where
    module _ (p : ℕ) (after : Tried) (f : AreBegun calls → IsPick calls (places visits) wishes t p after) where
      -- no step is left for a next call
      pub progress_stop : steps ≡ budget → (declared : DeclarationOf) → Opens declared rules calls first → length visits < length calls → ComesTo declared calls budget None steps
      progress_stop all declared o few = (
        g.few,
        λ decided run. elim decided [
          | inl less ↦ omega (arith, less, all)
          | inr enough ↦ let left = step_left declared calls wishes visits t steps u.now u.marks (g.searching declared o) p after (f o.begun) budget few enough in omega (arith, left, all)
        ],
      )

      module _ (c : StepOf) (there : slice_get calls p ≡ Some c) (v : LedgerState) where
        same : (b : AreBegun calls) → (f b).next.call ≡ c
        same b = let h = (f b).next.there in cc

        pub progress_taken : (x : Remaining) (mark : ℕ) (idle : Bool) → (idle ≡ true → IsIdleStep c) → steps < budget → CallTried rules u c (Ok (Some mark)) v → (AreBegun calls → AreRemaining calls (p ∷ places visits) x)
            → Progress rules calls wishes budget first x (record { place = p; tried = after; idle = idle } ∷ visits) none_tried mark (steps + 1) v
        progress_taken x mark idle is_idle left e remaining = record {
          searching = λ declared o.
              let M : List Meaning → Type 0 = λ marks. Searching declared calls wishes (record { place = p; tried = after; idle = idle } ∷ visits) none_tried (steps + 1) v.now marks in
              let Q : ℕ → Type 0 = λ n. Searching declared calls wishes (record { place = p; tried = after; idle = idle } ∷ visits) none_tried n v.now (u.now ∷ u.marks) in
              let R : RulesOf → Type 0 = λ r. CallExplainsAlong r u.now c.request c.response (order_of c) v.now in
              let C : StepOf → Type 0 = λ d. CallExplainsAlong (rules_declared declared) u.now d.request d.response (order_of d) v.now in
              let I : StepOf → Type 0 = λ d. IsIdleStep d in
              subst M (sym e.2)
              (subst Q (sym (add-one steps))
              (search_taken declared calls wishes visits t steps u.now u.marks (g.searching declared o) p after (f o.begun) o.taken o.once ranks idle (λ is. subst I (sym (same o.begun)) (is_idle is)) v.now
              (subst C (sym (same o.begun)) (subst R o.rules_are e.0)) e.1));
          sound = e.1;
          after = let P : List Meaning → Type 0 = λ marks. AreSoundBehind (p ∷ places visits) marks in subst P (sym e.2) (g.sound, g.after);
          remaining = remaining;
          cursor = λ b. inl refl;
          cursors = λ b. ((f b).cursor, g.cursors b);
          within = λ q has. elim (one_cases p q (places visits) has) [
            | inl is ↦ omega (arith, is, slice_get_within calls p c there)
            | inr more ↦ g.within q more
          ];
          deep = λ some. e.3;
          few = omega (arith, left);
        }

        pub progress_refused : steps < budget → CallTried rules u c (Ok None) v → Progress rules calls wishes budget first w visits after depth (steps + 1) v
        progress_refused left e =
            let P : LedgerState → Type 0 = λ s. Progress rules calls wishes budget first w visits after depth (steps + 1) s in
            subst P (sym e.1) (record {
              searching = λ declared o.
                  let Q : ℕ → Type 0 = λ n. Searching declared calls wishes visits after n u.now u.marks in
                  let R : RulesOf → Type 0 = λ r. CallRefutedAlong r u.now c.request c.response (order_of c) e.0.0 e.0.1 in
                  let C : StepOf → Type 0 = λ d. CallRefutedAlong (rules_declared declared) u.now d.request d.response (order_of d) e.0.0 e.0.1 in
                  subst Q (sym (add-one steps))
                  (search_refused declared calls wishes visits t steps u.now u.marks (g.searching declared o) p after (f o.begun) o.refused e.0.0 e.0.1 (subst C (sym (same o.begun)) (subst R o.rules_are e.0.2)));
              sound = g.sound;
              after = g.after;
              remaining = g.remaining;
              cursor = λ b. (f b).cursor;
              cursors = g.cursors;
              within = g.within;
              deep = g.deep;
              few = omega (arith, left);
            })

    -- all calls are taken
    pub progress_found : (declared : DeclarationOf) → Opens declared rules calls first → length calls ≤ length visits → ComesTo declared calls budget (Some (reverse (places visits))) steps
    progress_found declared o all =
        let r = search_found declared calls wishes visits t steps u.now u.marks (g.searching declared o) o.once all in
        let P : List StepOf → Type 0 = λ order. CanBeTaken declared calls order in
        (g.few, r.0, subst P (so_far_ordered calls (places visits)) r.1)

  -- no call is taken, and no next one is left
  pub progress_end : (w : Remaining) (t : Tried) (depth steps : ℕ) (u : LedgerState) → Progress rules calls wishes budget first w [] t depth steps u → (AreBegun calls → IsPicked calls [] wishes t None)
      → 0 < length calls → (declared : DeclarationOf) → Opens declared rules calls first → ComesTo declared calls budget None steps
  progress_end w t depth steps u g none some declared o =
      (g.few, λ decided run. none_runs declared calls (search_ends declared calls wishes [] t steps u.now u.marks (g.searching declared o) rules first o some (none o.begun)) run)

  -- the newest goes back
  pub progress_back : (w x : Remaining) (k : Visit) (visits : List Visit) (t after : Tried) (depth steps : ℕ) (u v : LedgerState) → Progress rules calls wishes budget first w (k ∷ visits) t depth steps u
      → (AreBegun calls → IsPicked calls (places (k ∷ visits)) wishes t None) → suc (length visits) < length calls → v ≡ gone_back u
      → (AreBegun calls → AreRemaining calls (places visits) x) → IsBehind k after
      → Progress rules calls wishes budget first x visits after (depth - 1) steps v
  progress_back w x k visits t after depth steps u v g none few back remaining behind = by u.marks refl g.after
    where
      by : (marks : List Meaning) → u.marks ≡ marks → AreSoundBehind (k.place ∷ places visits) marks → Progress rules calls wishes budget first x visits after (depth - 1) steps v
      by [] is sound = absurd sound
      by (m ∷ marks) is sound =
          let e : v ≡ record { now = m; marks = marks } = back ∙ ap (back_from u.now) is in
          let P : LedgerState → Type 0 = λ s. Progress rules calls wishes budget first x visits after (depth - 1) steps s in
          subst P (sym e) (record {
            searching = λ declared o.
                let M : List Meaning → Type 0 = λ ms. Searching declared calls wishes (k ∷ visits) t steps u.now ms in
                search_back declared rules calls first wishes k visits t after steps u.now m marks o (subst M is (g.searching declared o)) few (none o.begun) behind;
            sound = sound.0;
            after = sound.1;
            remaining = remaining;
            cursor = λ b. cursor behind b;
            cursors = λ b. (g.cursors b).1;
            within = λ q has. g.within q (has.0 + 1, omega (arith, has.1), at_next q has);
            deep = λ some. omega (arith, g.deep (omega arith), ap length is);
            few = g.few;
          })
        where
          at_next : (q : ℕ) (has : Contains (places visits) q) → get_or (k.place ∷ places visits) (has.0 + 1) q ≡ q
          at_next q has = ap (λ (i : ℕ). get_or (k.place ∷ places visits) i q) (add-one has.0) ∙ has.2

          cursor : IsBehind k after → AreBegun calls → IsCursor calls (places visits) after.from
          cursor (inl is) b = let C : Tried → Type 0 = λ z. IsCursor calls (places visits) z.from in subst C (sym is) (g.cursors b).0
          cursor (inr (idle, is)) b = inl (ap (λ (z : Tried). z.from) is)

-- a list taken apart at its end, and its reverse
pub popped : {X : Type 0} (xs ys : List X) (x : X) → xs ≡ ys ++ x ∷ [] → reverse xs ≡ x ∷ reverse ys
popped {X = X} xs ys x is = ap reverse is ∙ reverse-append ys (x ∷ [])

pub no_elements : {X : Type 0} (xs : List X) → length xs ≡ 0 → xs ≡ []
no_elements [] e = refl
no_elements (x ∷ xs) e = absurd (omega (arith, e))

-- where a call is taken, there is a mark
pub some_behind : (taken : List ℕ) (marks : List Meaning) → 0 < length taken → AreSoundBehind taken marks → 0 < length marks
some_behind [] marks some h = absurd (omega (arith, some))
some_behind (p ∷ taken) [] some h = absurd h
some_behind (p ∷ taken) (m ∷ marks) some h = omega arith

-- the places taken, in the order of time
pub within_reversed : (count : ℕ) (places : List ℕ) → ((p : ℕ) → Contains (reverse places) p → p < count) → All (λ p. p < count) places
within_reversed count places h k d below =
    h (get_or places k d) (Contains-permutation places (reverse places) (get_or places k d) (IsPermutation-reverse places) (contains_at places k (get_or places k d) (slice_get-get_or places k d below)))

map_reversed : {X Y : Type 0} (f : X → Y) (xs : List X) → map f (reverse xs) ≡ reverse (map f xs)
map_reversed f [] = refl
map_reversed f (x ∷ xs) = ap (map f) (reverse_onto xs x []) ∙ map-append f (reverse xs) (x ∷ []) ∙ ap (λ (ys : List _). ys ++ f x ∷ []) (map_reversed f xs) ∙ sym (reverse_onto (map f xs) (f x) [])

-- the places of what was taken, in the order of time
pub places_reversed : (visits : List Visit) → reverse (places (reverse visits)) ≡ places visits
places_reversed visits = ap reverse (map_reversed (λ (v : Visit). v.place) visits) ∙ reverse-reverse (places visits)
