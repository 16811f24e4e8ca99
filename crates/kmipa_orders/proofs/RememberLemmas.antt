-- What a search remembers, event by event.
use Rattle.std.proofs.Common.{◌≡◌, ◌≢◌, ◌<◌, inl, inr, ℕ, suc, List, [], ◌∷◌, length, Option, None, Some, Contains, refl, sym, ap, ◌∙◌, subst, arith}
use Rattle.std.specs.Prelude.{AllPairs}
use Rattle.kmipa_store.specs.Ledger.{Meaning, LedgerState}
use Rattle.kmipa_store.specs.Choices.{IsSound}
use Rattle.kmipa_record.specs.Declarations.{DeclarationOf}
use Rattle.kmipa_msgs.specs.Messages.{RulesOf}
use Rattle.kmipa_check.specs.Steps.{StepOf}
use Rattle.kmipa_check.specs.Verdicts.{AreKnown}
use Rattle.kmipa_orders.specs.Progress.{AreBegun, Opens, Searching, places}
use Rattle.kmipa_orders.specs.Taken.{so_far, AreNext, IsDead, AreSame}
use Rattle.kmipa_orders.specs.Cursors.{IsCursor}
use Rattle.kmipa_orders.specs.Descents.{Progress}
use Rattle.kmipa_orders.specs.Tries.{IsPicked, closed, none_tried, all_tried}
use Rattle.kmipa_orders.specs.Ends.{stills_shared, StandAmong, AreFlagged, IsEndOf, IsEndLike, IsSetOf, IsArrival, IsNoted, Remembers}
use Rattle.kmipa_orders.specs.Stills.{stills}
use Rattle.kmipa_orders.specs.Settled.{IsFront}
use Rattle.kmipa_orders.specs.declared.ends.End.{End}
use Rattle.kmipa_orders.specs.declared.remaining.Remaining.{Remaining}
use Rattle.kmipa_orders.specs.declared.taken.CallSet.{CallSet}
use Rattle.kmipa_orders.specs.declared.taken.TakenCalls.{TakenCalls}
use Rattle.kmipa_orders.specs.declared.tried.Tried.{Tried}
use Rattle.kmipa_orders.specs.declared.tried.Visit.{Visit}
use Rattle.kmipa_orders.proofs.AgainLemmas.{settled_dead}
use Rattle.kmipa_orders.proofs.EndLemmas.{equal_is_equal}
use Rattle.kmipa_orders.proofs.FrontLemmas.{same_stills}
use Rattle.kmipa_orders.proofs.StillLemmas.{alike_between}
use Rattle.kmipa_orders.proofs.IdleLemmas.{dead_more}
use Rattle.kmipa_orders.proofs.PermutationLemmas.{once_pairs}
use Rattle.kmipa_orders.proofs.SearchLemmas.{knows_now, search_ends}
use Rattle.kmipa_orders.proofs.WeightLemmas.{owed_closed}

same_set : (taken others : List ℕ) (k : CallSet) → IsSetOf taken k → IsSetOf others k → AreSame taken others
same_set taken others k a b = record {
  long = b.count ∙ sym a.count;
  each = λ p has. b.only p (a.are p has);
  back = λ p has. a.only p (b.are p has);
}

-- an end that leads to no run leads to none wherever it is met
dead_there : (declared : DeclarationOf) (calls : List StepOf) (first : Meaning) (front : Option ℕ) → IsFront calls first front → AllPairs (λ (a b : StepOf). a ≢ b) calls → AreKnown declared [] first
    → (taken others : List ℕ) (m n : Meaning) (e : End) → AreNext calls taken → AreNext calls others → AreKnown declared (so_far calls taken) m → IsSound m → AreKnown declared (so_far calls others) n → IsSound n
    → IsEndOf front taken m e → IsEndLike front others n e → IsDead declared calls taken → IsDead declared calls others
dead_there declared calls first None settled once opened taken others m n e nexts other_nexts known sound other_known other_sound at seen dead =
    settled_dead declared calls first taken others m once opened settled nexts other_nexts (same_set taken others e.set at.set seen.set) known sound dead
dead_there declared calls first (Some count) is once opened taken others m n e nexts other_nexts known sound other_known other_sound at seen dead =
    let P : ℕ → Type 0 = λ i. StandAmong i (stills m) (stills n) in
    equal_is_equal declared calls taken others m n once nexts other_nexts (same_set taken others e.set at.set seen.set) known sound other_known other_sound
    (same_stills declared first (so_far calls taken) (so_far calls others) m n opened known sound other_known other_sound
    (subst P is (alike_between count (stills_shared e.objects.items) (stills m) (stills n) at.stands seen.stands))) dead

module _ (rules : RulesOf) (calls : List StepOf) (first : Meaning) (front : Option ℕ) where
  pub remembers_begin : (f : TakenCalls) (ends : List End) → IsFront calls first front → AreFlagged (length calls) [] f → ends ≡ [] → Remembers rules calls first front [] f ends
  remembers_begin f ends is_front flagged is = record {
    opened = is_front;
    flagged = λ b. flagged;
    dead = λ declared o e has. let P : List End → Type 0 = λ es. Contains es e in let none = subst P is has in absurd (omega (arith, none.1));
  }

  pub remembers_taken : (taken : List ℕ) (p : ℕ) (f g : TakenCalls) (ends : List End) → Remembers rules calls first front taken f ends → (AreBegun calls → AreFlagged (length calls) (p ∷ taken) g)
      → Remembers rules calls first front (p ∷ taken) g ends
  remembers_taken taken p f g ends r flagged = record { opened = r.opened; flagged = flagged; dead = r.dead }

  module _ (wishes : List ℕ) (budget : ℕ) (w : Remaining) where
    -- an end is known
    searching_closed : (declared : DeclarationOf) (visits : List Visit) (steps : ℕ) (u : LedgerState) → Opens declared rules calls first → Searching declared calls wishes visits none_tried steps u.now u.marks
        → IsDead declared calls (places visits) → Searching declared calls wishes visits all_tried steps u.now u.marks
    searching_closed declared visits steps u o s dead = record {
      knows = s.knows;
      nexts = s.nexts;
      here = λ p tried n. dead_more declared calls (once_pairs calls o.once) (places visits) s.nexts p dead;
      after = s.after;
      paid = s.paid;
      owed = λ few.
          let a = s.owed few in
          record {
            here = a.here;
            rest = a.rest;
            owed = owed_closed calls (places visits) wishes none_tried a.here a.owed all_tried (λ p. closed refl);
            after = a.after;
            within = a.within;
          };
    }

    -- a call was taken: all is left to try, or this end is known
    pub progress_arrived : (visits : List Visit) (t : Tried) (depth steps : ℕ) (u : LedgerState) (f : TakenCalls) (ends : List End) → Progress rules calls wishes budget first w visits none_tried depth steps u
        → Remembers rules calls first front (places visits) f ends → (AreBegun calls → IsArrival front ends (places visits) u.now t) → Progress rules calls wishes budget first w visits t depth steps u
    progress_arrived visits t depth steps u f ends g r arrival = record {
      searching = λ declared o. searching declared o (arrival o.begun);
      sound = g.sound;
      after = g.after;
      remaining = g.remaining;
      cursor = λ b. cursor (arrival b);
      cursors = g.cursors;
      within = g.within;
      deep = g.deep;
      few = g.few;
    }
      where
        searching : (declared : DeclarationOf) → Opens declared rules calls first → IsArrival front ends (places visits) u.now t → Searching declared calls wishes visits t steps u.now u.marks
        searching declared o (inl is) = let P : Tried → Type 0 = λ x. Searching declared calls wishes visits x steps u.now u.marks in subst P (sym is) (g.searching declared o)
        searching declared o (inr h) =
            let P : Tried → Type 0 = λ x. Searching declared calls wishes visits x steps u.now u.marks in
            let s = g.searching declared o in
            let k = knows_now declared calls (places visits) u.now u.marks s.knows in
            subst P (sym h.0) (searching_closed declared visits steps u o s (r.dead declared o h.1.0 h.1.1 (places visits) u.now s.nexts k.0 k.1 h.1.2))

        cursor : IsArrival front ends (places visits) u.now t → IsCursor calls (places visits) t.from
        cursor (inl is) = inl (ap (λ (z : Tried). z.from) is)
        cursor (inr h) = inl (ap (λ (z : Tried). z.from) h.0)

    -- no next call is left: the end is noted, and the newest call goes back
    pub remembers_back : (v : Visit) (visits : List Visit) (t : Tried) (depth steps : ℕ) (u : LedgerState) (f g : TakenCalls) (ends new : List End)
        → Progress rules calls wishes budget first w (v ∷ visits) t depth steps u → (AreBegun calls → IsPicked calls (places (v ∷ visits)) wishes t None) → suc (length visits) < length calls
        → Remembers rules calls first front (places (v ∷ visits)) f ends → (AreBegun calls → IsNoted front ends (places (v ∷ visits)) u.now new) → (AreBegun calls → AreFlagged (length calls) (places visits) g)
        → Remembers rules calls first front (places visits) g new
    remembers_back v visits t depth steps u f g ends new p none few r noted flagged = record {
      opened = r.opened;
      flagged = flagged;
      dead = λ declared o e has. elim (noted o.begun e has) [
        | inl old ↦ r.dead declared o e old
        | inr at ↦ λ taken m nexts known sound seen.
            let s = p.searching declared o in
            let k = knows_now declared calls (places (v ∷ visits)) u.now u.marks s.knows in
            dead_there declared calls first front r.opened o.once o.known (places (v ∷ visits)) taken u.now m e s.nexts nexts k.0 k.1 known sound at seen
            (search_ends declared calls wishes (v ∷ visits) t steps u.now u.marks s rules first o few (none o.begun))
      ];
    }
