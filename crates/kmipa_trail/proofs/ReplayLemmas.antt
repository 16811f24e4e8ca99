-- A replay, event by event: at its start, one turn more, a turn that isn't placed, a step that is refused, and at its end.
use Rattle.std.proofs.Common.{◌≡◌, ◌<◌, ◌≤◌, ◌⊎◌, inl, inr, ℕ, suc, ◌+◌, ℤ, Bool, true, false, if◌then◌else◌, List, [], ◌∷◌, ◌++◌, length, take, Option, Some, None, slice_get, Ok, Err, refl, sym, ap, ◌∙◌, subst, arith, add-one}
use Rattle.std.proofs.lemmas.List.{take_all}
use Rattle.kmipa_store.specs.Ledger.{Meaning, LedgerState}
use Rattle.kmipa_store.specs.Choices.{Choice, Chooses, IsSound}
use Rattle.kmipa_record.specs.Declarations.{DeclarationOf}
use Rattle.kmipa_msgs.specs.Messages.{RulesOf}
use Rattle.kmipa_ops.specs.declared.why.Why.{Why}
use Rattle.kmipa_ops.specs.declared.why.Why.TheVariants.{StampRunsBack}
use Rattle.kmipa_batch.specs.Orders.{order_given}
use Rattle.kmipa_batch.specs.declared.refusal.CallRefusal.{CallRefusal}
use Rattle.kmipa_batch.specs.declared.refusal.CallRefusal.TheVariants as refusal
use Rattle.kmipa_passed.specs.Leaving.{empty}
use Rattle.kmipa_aside.specs.Explains.{world}
use Rattle.kmipa_aside.specs.Worlds.{WorldOf}
use Rattle.kmipa_bundle.specs.Bundles.{DoesPlace, places_taken, sight_on}
use Rattle.kmipa_bundle.specs.Counts.{counts_of}
use Rattle.kmipa_bundle.specs.Deeds.{ChainOf}
use Rattle.kmipa_bundle.specs.Refusals.{CallRefuted}
use Rattle.kmipa_bundle.specs.declared.counts.Counts.{Counts}
use Rattle.kmipa_places.specs.Calls.{ReadOf}
use Rattle.kmipa_check.specs.Late.{is_at}
use Rattle.kmipa_check.specs.Runs.{rules_declared}
use Rattle.kmipa_check.proofs.PlaceLemmas.{below_suc}
use Rattle.kmipa_check.proofs.RunLemmas.{take_next}
use Rattle.kmipa_turns.specs.Steps.{StepOf, takes, moment_of}
use Rattle.kmipa_trail.specs.Back.{IsLatest, is_back, later}
use Rattle.kmipa_trail.specs.Late.{FirstLate}
use Rattle.kmipa_trail.specs.Leading.{AreKnown}
use Rattle.kmipa_trail.specs.Placing.{ArePlaced, IsPlacedAt}
use Rattle.kmipa_trail.specs.Refusing.{refused_at, refused_by}
use Rattle.kmipa_trail.specs.Replays.{AreTallied, Replayed, RunsThrough, StepTaken, TellsRun, misplaced}
use Rattle.kmipa_trail.specs.Tallies.{TallyOf, no_tally, tally_plus}
use Rattle.kmipa_trail.specs.Verdicts.{ArePossible, GoesUpTo, RefusedPlace, late, runs_back, RefusedAt, in_place, in_item, RefusedItem}
use Rattle.kmipa_trail.proofs.BackLemmas.{latest_none, back_yes, back_no, latest_more}
use Rattle.kmipa_trail.proofs.LateLemmas.{late_here, none_late}
use Rattle.kmipa_trail.proofs.LeadLemmas.{known_more, tally_more, tallies_lead}

-- an opened ledger has replayed nothing yet
pub replayed_none : (declared : DeclarationOf) (order : List StepOf) (m : Meaning) → AreKnown declared [] m → IsSound m → Replayed declared order 0 m None no_tally
replayed_none declared order m known sound = record {
  placed = λ turn below. absurd (omega (arith, below));
  latest = latest_none order;
  known = known;
  sound = sound;
  tallied = λ c h. let f = known.sound c h in (f.0, f.1, (f.2.0, refl));
}

-- what the tests find, by what they are told
pub told_by : (b c : Bool) (last m n : Option ℤ) (r w : Option Why) → b ≡ c → m ≡ n → r ≡ misplaced b last m → r ≡ w → misplaced c last n ≡ w
told_by b c last m n r w e f told is = ap (λ (x : Bool). misplaced x last n) (sym e) ∙ ap (λ (x : Option ℤ). misplaced b last x) (sym f) ∙ sym told ∙ is

-- where the tests find nothing, the turn is placed
module _ (order : List StepOf) (n : ℕ) (s : StepOf) (there : slice_get order n ≡ Some s) (first : Option ℕ) (scanned : FirstLate order first) (last : Option ℤ) where
  not_late : misplaced (is_at first n) last (moment_of s) ≡ None → is_at first n ≡ false
  not_late none = by (is_at first n) none
    where
      by : (b : Bool) → misplaced b last (moment_of s) ≡ None → b ≡ false
      by true e = absurd cc
      by false e = refl

  not_back : misplaced (is_at first n) last (moment_of s) ≡ None → is_back last (moment_of s) ≡ false
  not_back none = by (is_at first n) (is_back last (moment_of s)) refl none
    where
      by : (b c : Bool) → is_back last (moment_of s) ≡ c → misplaced b last (moment_of s) ≡ None → c ≡ false
      by true c is e = absurd cc
      by false true is e =
          let P : Bool → Type 0 = λ x. (if x then Some StampRunsBack else None) ≡ None in
          let bad : Some StampRunsBack ≡ None = subst P is e in
          absurd cc
      by false false is e = refl

  placed_here : ArePlaced order n → IsLatest order n last → misplaced (is_at first n) last (moment_of s) ≡ None → IsPlacedAt order n s
  placed_here placed latest none = record {
    there = there;
    kept = none_late order first n s scanned placed there (not_late none);
    stamped = back_no order n s there last latest (not_back none);
  }

  -- and where they find something it isn't
  misplaced_here : (why : Why) → ArePlaced order n → IsLatest order n last → misplaced (is_at first n) last (moment_of s) ≡ Some why → RefusedPlace order n s why
  misplaced_here why placed latest found = by (is_at first n) (is_back last (moment_of s)) refl refl found
    where
      by : (b c : Bool) → is_at first n ≡ b → is_back last (moment_of s) ≡ c → misplaced b last (moment_of s) ≡ Some why → RefusedPlace order n s why
      by true c at is e = late (late_here order first n s scanned there at) cc
      by false true at is e =
          let P : Bool → Type 0 = λ x. (if x then Some StampRunsBack else None) ≡ Some why in
          let told : Some StampRunsBack ≡ Some why = subst P is e in
          let same : why ≡ StampRunsBack = cc in
          runs_back (none_late order first n s scanned placed there at) (back_yes order n s there last latest is) same
      by false false at is e =
          let P : Bool → Type 0 = λ x. (if x then Some StampRunsBack else None) ≡ Some why in
          let bad : None ≡ Some why = subst P is e in
          absurd cc

module _ (declared : DeclarationOf) (order : List StepOf) (n : ℕ) (m : Meaning) (last : Option ℤ) (k : TallyOf) (r : Replayed declared order n m last k) where
  -- the turns before are possible
  possible : ArePossible declared order n
  possible =
      let c = r.sound.choice in
      let f = r.known.sound c.0 c.1 in
      record { placed = r.placed; start = f.0; described = f.1; last = world c.0 m; linked = f.2 }

  module _ (s : StepOf) (there : slice_get order n ≡ Some s) where
    refused : (item : ℕ) (why : Why) → RefusedAt declared order n s item why → TellsRun declared order (Ok (refused_at n s item why))
    refused item why h = record { turn = n; reported = refl; step = s; there = there; number = refl; dated = refl; before = possible; refused = h }

    module _ (here : IsPlacedAt order n s) where
      placed_more : ArePlaced order (suc n)
      placed_more turn below = by (below_suc turn n below)
        where
          by : (turn < n) ⊎ (turn ≡ n) → (d : StepOf) × IsPlacedAt order turn d
          by (inl h) = r.placed turn h
          by (inr e) = let P : ℕ → Type 0 = λ x. (d : StepOf) × IsPlacedAt order x d in subst P (sym e) (s, here)

      -- a call that can be read is refused at an item
      refused_item : (c : ReadOf) (places : Option (List ℕ)) (item : ℕ) (why : Why) → s.taken ≡ takes c places → CallRefuted (rules_declared declared) m c (order_given places) item why
          → RefusedItem declared order n s item why
      refused_item c places item why is e =
          let f = r.known.sound e.before.choice e.before.chooses in
          record {
            call = c;
            places = places;
            taken = is;
            unrefused = e.unrefused;
            count = e.count;
            before = record {
              placed = r.placed;
              here = here;
              start = f.0;
              described = f.1;
              before = world e.before.choice m;
              linked = f.2;
              items = record { shaped = e.before.shaped; left = e.before.left; held = e.before.held; chain = e.before.chain };
            };
            never = λ p.
                let q = r.known.complete p.start p.before p.described p.linked in
                never_from p.before q.0 q.1 q.2 p.items;
            known = m;
            knows = r.known;
            speaks = e.speaks;
          }
        where
          never_from : (w : WorldOf) (choice : Choice) → Chooses m.secrets choice → w ≡ world choice m → GoesUpTo (rules_declared declared) w c (order_given places) (e.count + 1) → ⊥
          never_from w choice h same g =
              let P : WorldOf → Type 0 = λ x. ChainOf (DoesPlace (sight_on (rules_declared declared) c) c.stamp) (take (e.count + 1) (places_taken c (order_given places))) x empty g.left g.held in
              e.never (record { shaped = g.shaped; choice = choice; chooses = h; left = g.left; held = g.held; chain = subst P same g.chain })

      -- whatever is refused of it
      pub refused_step : (v u : LedgerState) (rules : RulesOf) (e : CallRefusal) → v.now ≡ m → rules ≡ rules_declared declared → StepTaken rules v s.taken (Err e) u
          → TellsRun declared order (refused_by n s e)
      refused_step v u rules (refusal.Impossible item why) same is t =
          let P : Meaning → Type 0 = λ x. CallRefuted rules x t.0 (order_given t.1) item why in
          let Q : RulesOf → Type 0 = λ x. CallRefuted x m t.0 (order_given t.1) item why in
          refused item why (in_item (refused_item t.0 t.1 item why t.2 (subst Q is (subst P same t.3))))
      refused_step v u rules refusal.Memory same is t = tt

-- the turn isn't placed
pub replayed_misplaced : (declared : DeclarationOf) (order : List StepOf) (n : ℕ) (m : Meaning) (last : Option ℤ) (k : TallyOf) → Replayed declared order n m last k
    → (s : StepOf) → slice_get order n ≡ Some s → (first : Option ℕ) → FirstLate order first → (why : Why) → misplaced (is_at first n) last (moment_of s) ≡ Some why
    → TellsRun declared order (Ok (refused_at n s 0 why))
replayed_misplaced declared order n m last k r s there first scanned why found =
    refused declared order n m last k r s there 0 why (in_place refl (misplaced_here order n s there first scanned last why r.placed r.latest found))

-- its step is refused
pub replayed_refused : (declared : DeclarationOf) (order : List StepOf) (n : ℕ) (last : Option ℤ) (k : TallyOf) (v u : LedgerState) → Replayed declared order n v.now last k
    → (s : StepOf) → slice_get order n ≡ Some s → (first : Option ℕ) → FirstLate order first → misplaced (is_at first n) last (moment_of s) ≡ None
    → (rules : RulesOf) (e : CallRefusal) → rules ≡ rules_declared declared → StepTaken rules v s.taken (Err e) u → TellsRun declared order (refused_by n s e)
replayed_refused declared order n last k v u r s there first scanned none rules e is t =
    refused_step declared order n v.now last k r s there (placed_here order n s there first scanned last r.placed r.latest none) v u rules e refl is t

-- its step is taken
pub replayed_more : (declared : DeclarationOf) (order : List StepOf) (n : ℕ) (last : Option ℤ) (k : TallyOf) (v u : LedgerState) → Replayed declared order n v.now last k
    → (s : StepOf) → slice_get order n ≡ Some s → (first : Option ℕ) → FirstLate order first → misplaced (is_at first n) last (moment_of s) ≡ None
    → (rules : RulesOf) (counts : Counts) → rules ≡ rules_declared declared → StepTaken rules v s.taken (Ok counts) u
    → Replayed declared order (n + 1) u.now (later last (moment_of s)) (tally_plus k (counts_of counts) s.excepted)
replayed_more declared order n last k v u r s there first scanned none rules counts is t =
    let P : RulesOf → Type 0 = λ x. StepTaken x v s.taken (Ok counts) u in
    let d = subst P is t in
    let N : ℕ → Type 0 = λ x. Replayed declared order x u.now (later last (moment_of s)) (tally_plus k (counts_of counts) s.excepted) in
    let K : List StepOf → Type 0 = λ x. AreKnown declared x u.now in
    let T : List StepOf → Type 0 = λ x. AreTallied declared x u.now (tally_plus k (counts_of counts) s.excepted) in
    let next : take (suc n) order ≡ take n order ++ s ∷ [] = take_next order n s there in
    subst N (sym (add-one n))
    (record {
      placed = placed_more declared order n v.now last k r s there (placed_here order n s there first scanned last r.placed r.latest none);
      latest = latest_more order n s there last r.latest (not_back order n s there first scanned last none);
      known = subst K (sym next) (known_more declared (take n order) s v.now u.now r.known d.0.explains);
      sound = d.0.sound;
      tallied = subst T (sym next)
          (λ c h.
          let f = d.0.explains.sound c h in
          let g = r.tallied c f.0 in
          (g.0, g.1, tally_more (rules_declared declared) g.0 no_tally (take n order) s (world c v.now) (world c u.now) k (counts_of counts) g.2 f.1 (d.1 c h)));
    })

-- past the last turn all are replayed
pub replayed_all : (declared : DeclarationOf) (order : List StepOf) (turn : ℕ) (m : Meaning) (last : Option ℤ) (k : TallyOf) → length order ≤ turn → Replayed declared order turn m last k
    → RunsThrough declared order k
replayed_all declared order turn m last k past r =
    let c = r.sound.choice in
    let P : List StepOf → Type 0 = λ o. AreTallied declared o m k in
    let f = subst P (take_all turn order past) r.tallied c.0 c.1 in
    record {
      placed = λ t below. r.placed t (omega (arith, past, below));
      start = f.0;
      described = f.1;
      last = world c.0 m;
      linked = tallies_lead (rules_declared declared) f.0 no_tally order (world c.0 m) k f.2;
      tallied = f.2;
    }
