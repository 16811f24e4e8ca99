-- A replay, event by event: placed and taken, late, back, refused, at its end.
use Rattle.std.proofs.Common.{◌≡◌, ◌<◌, ◌≤◌, ◌⊎◌, inl, inr, ℕ, zero, suc, ◌+◌, ℤ, ◌≤ℤ◌, List, [], length, take, Some, None, slice_get, get_or, Ok, Err, refl, sym, ◌∙◌, subst, arith, add-one}
use Rattle.std.specs.Prelude.{AllPairs}
use Rattle.std.proofs.lemmas.List.{take_all}
use Rattle.std.proofs.lemmas.Option.{slice_get-get_or}
use Rattle.std.proofs.lemmas.Int.{by_lt_z}
use Rattle.std.specs.Int.Signed.{clash_ℤ, <ℤ-≤ℤ_trans}
use Rattle.kmipa_object.specs.Inventory.{Thing}
use Rattle.kmipa_store.specs.Ledger.{Meaning, LedgerState}
use Rattle.kmipa_store.specs.Choices.{Choice, Chooses, inv, IsSound}
use Rattle.kmipa_record.specs.Marks.{MarkOf}
use Rattle.kmipa_record.specs.Declarations.{DeclarationOf}
use Rattle.kmipa_record.specs.Witnesses.{TurnOf}
use Rattle.kmipa_ops.specs.declared.why.Why.{Why}
use Rattle.kmipa_ops.specs.declared.why.Why.TheVariants.{EarlierCallLate, StampRunsBack}
use Rattle.kmipa_ops.specs.Chains.{ChainSome}
use Rattle.kmipa_batch.specs.Calls.{pairs_taken, RefusesMessage}
use Rattle.kmipa_batch.specs.Refusals.{CallExplainsAlong, CallRefutedAlong, CallTakenAlong, IsPossibleUpToAlong}
use Rattle.kmipa_batch.specs.declared.refusal.CallRefusal.TheVariants.{Impossible}
use Rattle.kmipa_check.specs.Calls.{CallOf, AreCalls}
use Rattle.kmipa_check.specs.Steps.{StepOf, order_of}
use Rattle.kmipa_check.specs.Runs.{Linked, rules_declared, Before, IsPlaced, TakeEachOnce, IsAccepted}
use Rattle.kmipa_check.specs.Grants.{grants_declared}
use Rattle.kmipa_check.specs.Orders.{IsOrder}
use Rattle.kmipa_check.specs.Verdicts.{IsLate, RunsBack, IsPlacedAt, ArePlaced, ArePossible, AreKnown, RefusedItem, late, runs_back, RefusedAt, in_place, in_item, IsRefused, GoesUpTo}
use Rattle.kmipa_check.specs.declared.fault.CheckFault.{CheckFault}
use Rattle.kmipa_check.specs.declared.fault.CheckFault.TheVariants.{Outside, Witness, Memory}
use Rattle.kmipa_check.specs.declared.verdict.Refused.{Refused}
use Rattle.kmipa_check.specs.Replays.{Replayed, TellsRun, TurnTold}
use Rattle.kmipa_check.proofs.PlaceLemmas.{below_suc}
use Rattle.kmipa_check.proofs.RunLemmas.{take_next, taken_is_known_lem}

-- an opened ledger has replayed nothing yet
pub replayed_none : (declared : DeclarationOf) (order : List StepOf) (m : Meaning) → AreKnown declared [] m → IsSound m → Replayed declared order 0 m
replayed_none declared order m known sound = record { placed = λ turn below. absurd (omega (arith, below)); known = known; sound = sound }

module _ (declared : DeclarationOf) (order : List StepOf) (n : ℕ) (c : StepOf) (m : Meaning) (r : Replayed declared order n m) (here : IsPlacedAt order n c) where
  placed_more : ArePlaced order (suc n)
  placed_more turn below = by (below_suc turn n below)
    where
      by : (turn < n) ⊎ (turn ≡ n) → (d : StepOf) × IsPlacedAt order turn d
      by (inl h) = r.placed turn h
      by (inr e) = let P : ℕ → Type 0 = λ k. (d : StepOf) × IsPlacedAt order k d in subst P (sym e) (c, here)

  known_more : (k : Meaning) → CallExplainsAlong (rules_declared declared) m c.request c.response (order_of c) k → AreKnown declared (take (suc n) order) k
  known_more k e =
      let P : List StepOf → Type 0 = λ steps. AreKnown declared steps k in
      subst P (sym (take_next order n c here.there)) (taken_is_known_lem declared (take n order) c m k r.known e)

  -- the call of this turn is taken
  pub replayed_more : (s u : LedgerState) → s.now ≡ m → CallTakenAlong (rules_declared declared) s c.request c.response (order_of c) (Ok tt) u → Replayed declared order (n + 1) u.now
  replayed_more s u is t =
      let P : ℕ → Type 0 = λ k. Replayed declared order k u.now in
      let E : Meaning → Type 0 = λ x. CallExplainsAlong (rules_declared declared) x c.request c.response (order_of c) u.now in
      subst P (sym (add-one n)) (record { placed = placed_more; known = known_more u.now (subst E is t.0); sound = t.1 })

  -- it is refused at an item
  refused_item : (item : ℕ) (why : Why) → CallRefutedAlong (rules_declared declared) m c.request c.response (order_of c) item why
      → (count : ℕ) × RefusedItem declared order n c count item why
  refused_item item why e =
      let f = r.known.sound e.before.choice e.before.chooses in (
        e.count,
        record {
          before = record {
            placed = r.placed;
            here = here;
            start = f.0;
            described = f.1;
            before = inv e.before.choice m.objects;
            linked = f.2;
            items = inl (e.before.shaped, (e.before.things, e.before.placeholder, e.before.chain));
          };
          never = λ p.
              let q = r.known.complete p.start p.before p.described p.linked in
              never_from e.count p.before q.0 q.1 q.2 e.never e.unrefused p.items;
          known = m;
          knows = r.known;
          speaks = e.speaks;
        },
      )
    where
      never_from : (count : ℕ) (V : List Thing) (choice : Choice) → Chooses m.secrets choice → V ≡ inv choice m.objects
          → (IsPossibleUpToAlong (rules_declared declared) m c.request c.response (order_of c) (count + 1) → ⊥) → (RefusesMessage c.response → ⊥)
          → GoesUpTo (rules_declared declared) V c (count + 1) → ⊥
      never_from count V choice h is never unrefused (inl g) =
          let P : List Thing → Type 0 = λ X. ChainSome (rules_declared declared) c.response.stamp X None (take (count + 1) (pairs_taken c.request c.response (order_of c))) g.1.0 g.1.1 in
          never (record { shaped = g.0; choice = choice; chooses = h; things = g.1.0; placeholder = g.1.1; chain = subst P is g.1.2 })
      never_from count V choice h is never unrefused (inr g) = unrefused g

-- the turns before are possible
module _ (declared : DeclarationOf) (order : List StepOf) (n : ℕ) (m : Meaning) (r : Replayed declared order n m) where
  pub replayed_possible : ArePossible declared order n
  replayed_possible =
      let c = r.sound.choice in
      let f = r.known.sound c.0 c.1 in
      record { placed = r.placed; start = f.0; described = f.1; last = inv c.0 m.objects; linked = f.2 }

  module _ (c : StepOf) (there : slice_get order n ≡ Some c) where
    refused : (item : ℕ) (why : Why) (v : Refused) → v.turn ≡ n + 1 → c.number ≡ v.call → v.item ≡ item → v.why ≡ why → RefusedAt declared order n c item why → IsRefused declared order v
    refused item why v reported number at is h =
        let P : ℕ → Type 0 = λ k. RefusedAt declared order n c k why in
        let Q : Why → Type 0 = λ w. RefusedAt declared order n c v.item w in
        record { turn = n; reported = reported; call = c; there = there; number = number; before = replayed_possible; refused = subst Q (sym is) (subst P (sym at) h) }

    pub refused_late : (v : Refused) → v.turn ≡ n + 1 → c.number ≡ v.call → v.item ≡ 0 → v.why ≡ EarlierCallLate → IsLate order n c → IsRefused declared order v
    refused_late v reported number at is behind = refused 0 EarlierCallLate v reported number at is (in_place refl (late behind refl))

    pub refused_back : (v : Refused) → v.turn ≡ n + 1 → c.number ≡ v.call → v.item ≡ 0 → v.why ≡ StampRunsBack → (IsLate order n c → ⊥) → RunsBack order n c → IsRefused declared order v
    refused_back v reported number at is kept back = refused 0 StampRunsBack v reported number at is (in_place refl (runs_back kept back refl))

    pub refused_call : (v : Refused) (item : ℕ) (why : Why) (s u : LedgerState) → s.now ≡ m → v.turn ≡ n + 1 → c.number ≡ v.call → v.item ≡ item → v.why ≡ why
        → (IsLate order n c → ⊥) → (RunsBack order n c → ⊥) → CallTakenAlong (rules_declared declared) s c.request c.response (order_of c) (Err (Impossible item why)) u → IsRefused declared order v
    refused_call v item why s u same reported number at is kept stamped t =
        let E : Meaning → Type 0 = λ x. CallRefutedAlong (rules_declared declared) x c.request c.response (order_of c) item why in
        let p = refused_item declared order n c m r (record { there = there; kept = kept; stamped = stamped }) item why (subst E same t.0) in
        refused item why v reported number at is (in_item p.0 p.1)

-- a turn that breaks off breaks off the replay
pub told_fault : (declared : DeclarationOf) (order : List StepOf) (turn : ℕ) (m : Meaning) (fault : CheckFault) → TurnTold declared order turn (Err fault) m → TellsRun declared order (Err fault)
told_fault declared order turn m Memory h = tt
told_fault declared order turn m (Outside number side o) h = h
told_fault declared order turn m (Witness f) h = h

-- past the last turn all are replayed
pub replayed_all : (declared : DeclarationOf) (order : List StepOf) (turn : ℕ) (m : Meaning) → length order ≤ turn → Replayed declared order turn m → Replayed declared order (length order) m
replayed_all declared order turn m past r =
    let P : List StepOf → Type 0 = λ o. AreKnown declared o m in
    record {
      placed = λ k below. r.placed k (omega (arith, past, below));
      known = subst P (take_all turn order past ∙ sym (take_all (length order) order (omega arith))) r.known;
      sound = r.sound;
    }

-- at the end: no turn is late, and stamps rise from turn to turn
at_place : (order : List StepOf) (count turn : ℕ) (d : StepOf) → ArePlaced order count → turn < count → turn < length order → IsPlacedAt order turn (get_or order turn d)
at_place order count turn d placed below within =
    let p = placed turn below in
    let P : StepOf → Type 0 = λ x. IsPlacedAt order turn x in
    let q = slice_get-get_or order turn d within in
    let r = p.1.there in
    let e : p.0 ≡ get_or order turn d = cc in
    subst P e p.1

all_kept : (order : List StepOf) → ArePlaced order (length order) → AllPairs (λ (a b : StepOf). ¬ (Before b a)) order
all_kept order placed i j d below within before =
    let p = at_place order (length order) i d placed (omega (arith, below, within)) (omega (arith, below, within)) in
    p.kept (j, get_or order j d, below, slice_get-get_or order j d within, before)

step_rises : (order : List StepOf) → ArePlaced order (length order) → (j : ℕ) (d : StepOf) → suc j < length order → (get_or order j d).response.stamp ≤ℤ (get_or order (suc j) d).response.stamp
step_rises order placed j d within =
    let p = at_place order (length order) (suc j) d placed within within in
    by_lt_z (get_or order (suc j) d).response.stamp (get_or order j d).response.stamp
    (λ h. absurd (p.stamped (j, get_or order j d, add-one j, slice_get-get_or order j d (omega (arith, within)), h)))
    (λ h. h)

pub over : (x y z : ℤ) → x ≤ℤ y → y ≤ℤ z → x ≤ℤ z
over x y z p q = by_lt_z z x (λ h. clash_ℤ (<ℤ-≤ℤ_trans h p) q) (λ h. h)

rises_on : (order : List StepOf) (i j : ℕ) (d : StepOf) → (get_or order j d).response.stamp ≤ℤ (get_or order (suc j) d).response.stamp
    → (i < j → (get_or order i d).response.stamp ≤ℤ (get_or order j d).response.stamp) → (i < j) ⊎ (i ≡ j)
    → (get_or order i d).response.stamp ≤ℤ (get_or order (suc j) d).response.stamp
rises_on order i j d step before (inl h) =
    over (get_or order i d).response.stamp (get_or order j d).response.stamp (get_or order (suc j) d).response.stamp (before h) step
rises_on order i j d step before (inr e) =
    let P : ℕ → Type 0 = λ k. (get_or order k d).response.stamp ≤ℤ (get_or order (suc j) d).response.stamp in
    subst P (sym e) step

rises : (order : List StepOf) → ArePlaced order (length order) → (i j : ℕ) (d : StepOf) → i < j → j < length order → (get_or order i d).response.stamp ≤ℤ (get_or order j d).response.stamp
rises order placed i zero d below within = absurd (omega (arith, below))
rises order placed i (suc j) d below within =
    rises_on order i j d (step_rises order placed j d within) (λ h. rises order placed i j d h (omega (arith, within))) (below_suc i j below)

pub is_placed : (order : List StepOf) → ArePlaced order (length order) → IsPlaced order
is_placed order placed = record { kept = all_kept order placed; stamped = rises order placed }

-- a replay to the end is an accepted run by its steps
pub replayed_run : (marks : List MarkOf) (declared : DeclarationOf) (turns : List TurnOf) (calls : List CallOf) (order : List StepOf) (m : Meaning) → AreCalls marks calls
    → IsOrder (grants_declared declared) calls turns order → TakeEachOnce (grants_declared declared) calls order → Replayed declared order (length order) m → (a : IsAccepted marks declared turns) × (a.steps ≡ order)
replayed_run marks declared turns calls order m are o once r =
    let c = r.sound.choice in
    let f = r.known.sound c.0 c.1 in
    let P : List StepOf → Type 0 = λ o. Linked (rules_declared declared) f.0 o (inv c.0 m.objects) in (
      record {
        calls = calls;
        are = are;
        steps = order;
        order = o;
        start = f.0;
        described = f.1;
        run = record { once = once; placed = is_placed order r.placed; last = inv c.0 m.objects; linked = subst P (take_all (length order) order (omega arith)) f.2 };
      },
      refl,
    )

pub replayed_accepts : (marks : List MarkOf) (declared : DeclarationOf) (turns : List TurnOf) (calls : List CallOf) (order : List StepOf) (m : Meaning) → AreCalls marks calls
    → IsOrder (grants_declared declared) calls turns order → TakeEachOnce (grants_declared declared) calls order → Replayed declared order (length order) m → IsAccepted marks declared turns
replayed_accepts marks declared turns calls order m are o once r = (replayed_run marks declared turns calls order m are o once r).0
