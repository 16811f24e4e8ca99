-- Steps that are placed, each as the next of those left; and steps that are a witness.
use Rattle.std.proofs.Common.{◌≡◌, ◌≤ℤ◌, ◌↔◌, ℕ, zero, suc, List, [], ◌∷◌, ◌++◌, get_or, Contains, Some, slice_get, refl, sym, ap, ◌∙◌, subst, arith}
use Rattle.std.specs.Prelude.{AllPairs}
use Rattle.std.proofs.lemmas.List.Elements.{Contains-get_or}
use Rattle.std.proofs.lemmas.Option.{get_or_from_slice_get, slice_get_within}
use Rattle.std.proofs.lemmas.Slice.Zip.{AllZip-long}
use Rattle.kmipa_store.specs.Ledger.{Meaning}
use Rattle.kmipa_store.specs.Choices.{inv, IsSound}
use Rattle.kmipa_record.specs.Marks.{MarkOf}
use Rattle.kmipa_record.specs.Declarations.{DeclarationOf}
use Rattle.kmipa_record.specs.Witnesses.{TurnOf}
use Rattle.kmipa_check.specs.Calls.{CallOf, AreCalls}
use Rattle.kmipa_check.specs.Grants.{GrantsOf, grants_declared}
use Rattle.kmipa_check.specs.Steps.{StepOf, IsStep}
use Rattle.kmipa_check.specs.Orders.{NamesBefore, IsNamed, IsFormed, IsOrder}
use Rattle.kmipa_check.specs.Runs.{Before, IsPlaced, TakeEachOnce, IsAccepted}
use Rattle.kmipa_check.specs.Verdicts.{AreKnown}
use Rattle.kmipa_check.specs.Laws.{MayBeNext, AreMade}
use Rattle.kmipa_check.proofs.PlaceLemmas.{at_contains}

-- ---- one step before others

placed_rest : (s : StepOf) (left : List StepOf) → IsPlaced (s ∷ left) → IsPlaced left
placed_rest s left p = record {
  kept = λ i j d below within. p.kept (suc i) (suc j) d (omega (arith, below)) (omega (arith, within));
  stamped = λ i j d below within. p.stamped (suc i) (suc j) d (omega (arith, below)) (omega (arith, within));
}

placed_first : (s : StepOf) (left : List StepOf) → IsPlaced (s ∷ left) → MayBeNext s left
placed_first s left p = record {
  first = λ d has. let P : StepOf → Type 0 = λ x. ¬ (Before x s) in subst P has.2 (p.kept 0 (suc has.0) d (omega arith) (omega (arith, has.1)));
  least = λ d has. let P : StepOf → Type 0 = λ x. s.response.stamp ≤ℤ x.response.stamp in subst P has.2 (p.stamped 0 (suc has.0) d (omega arith) (omega (arith, has.1)));
}

placed_more : (s : StepOf) (left : List StepOf) → MayBeNext s left → IsPlaced left → IsPlaced (s ∷ left)
placed_more s left n p = record { kept = kept; stamped = stamped }
  where
    kept : AllPairs (λ (a b : StepOf). ¬ (Before b a)) (s ∷ left)
    kept zero zero d below within = absurd (omega (arith, below))
    kept zero (suc j) d below within = n.first (get_or left j d) (Contains-get_or left j d (omega (arith, within)))
    kept (suc i) zero d below within = absurd (omega (arith, below))
    kept (suc i) (suc j) d below within = p.kept i j d (omega (arith, below)) (omega (arith, within))

    stamped : AllPairs (λ (a b : StepOf). a.response.stamp ≤ℤ b.response.stamp) (s ∷ left)
    stamped zero zero d below within = absurd (omega (arith, below))
    stamped zero (suc j) d below within = n.least (get_or left j d) (Contains-get_or left j d (omega (arith, within)))
    stamped (suc i) zero d below within = absurd (omega (arith, below))
    stamped (suc i) (suc j) d below within = p.stamped i j d (omega (arith, below)) (omega (arith, within))

placed_none : IsPlaced []
placed_none = record { kept = λ i j d below within. absurd (omega (arith, within)); stamped = λ i j d below within. absurd (omega (arith, within)) }

placed_behind : (taken left : List StepOf) (s : StepOf) → IsPlaced (taken ++ s ∷ left) → MayBeNext s left
placed_behind [] left s p = placed_first s left p
placed_behind (x ∷ taken) left s p = placed_behind taken left s (placed_rest x (taken ++ s ∷ left) p)

one_by_one : (steps : List StepOf) → ((taken left : List StepOf) (s : StepOf) → steps ≡ taken ++ s ∷ left → MayBeNext s left) → IsPlaced steps
one_by_one [] h = placed_none
one_by_one (s ∷ steps) h = placed_more s steps (h [] steps s refl) (one_by_one steps (λ taken left x is. h (s ∷ taken) left x (ap (λ (l : List StepOf). s ∷ l) is)))

pub placed_one_by_one_lem : (steps : List StepOf) → IsPlaced steps ↔ ((taken left : List StepOf) (s : StepOf) → steps ≡ taken ++ s ∷ left → MayBeNext s left)
placed_one_by_one_lem steps = (
  (λ p taken left s is. let P : List StepOf → Type 0 = λ x. IsPlaced x in placed_behind taken left s (subst P is p)),
  one_by_one steps,
)

-- ---- steps that are made by turns

module _ (g : GrantsOf) (calls : List CallOf) where
  abbrev Makes : TurnOf → StepOf → Type 0
  Makes t s = (c : CallOf) × Contains calls c × IsStep g c t s

  made_at : (turns : List TurnOf) (steps : List StepOf) (i : ℕ) (s : StepOf) → AreMade g calls turns steps → slice_get steps i ≡ Some s → (t : TurnOf) × (slice_get turns i ≡ Some t) × Makes t s
  made_at [] [] i s h at = absurd cc
  made_at [] (x ∷ steps) i s h at = absurd h
  made_at (t ∷ turns) [] i s h at = absurd h
  made_at (t ∷ turns) (x ∷ steps) zero s h at =
      let e : x ≡ s = cc in
      let P : StepOf → Type 0 = λ y. Makes t y in
      (t, refl, subst P e h.0)
  made_at (t ∷ turns) (x ∷ steps) (suc i) s h at = made_at turns steps i s h.1 at

  made_from : (turns : List TurnOf) (steps : List StepOf) (i : ℕ) (t : TurnOf) → AreMade g calls turns steps → slice_get turns i ≡ Some t → (s : StepOf) × (slice_get steps i ≡ Some s) × Makes t s
  made_from [] [] i t h at = absurd cc
  made_from [] (x ∷ steps) i t h at = absurd h
  made_from (u ∷ turns) [] i t h at = absurd h
  made_from (u ∷ turns) (x ∷ steps) zero t h at =
      let e : u ≡ t = cc in
      let P : TurnOf → Type 0 = λ y. Makes y x in
      (x, refl, subst P e h.0)
  made_from (u ∷ turns) (x ∷ steps) (suc i) t h at = made_from turns steps i t h.1 at

  its_number : (t : TurnOf) (s : StepOf) → Makes t s → t.call ≡ s.number
  its_number t s m = m.2.named ∙ sym (ap (λ (x : StepOf). x.number) m.2.is)

  made_order : (turns : List TurnOf) (steps : List StepOf) → AreMade g calls turns steps → TakeEachOnce g calls steps → IsOrder g calls turns steps
  made_order turns steps made once = record {
    counted = AllZip-long Makes turns steps made;
    formed = formed;
    all = λ c end one ended. named c (once.all c end one ended);
  }
    where
      twice : (place : ℕ) (t : TurnOf) (s : StepOf) → slice_get steps place ≡ Some s → t.call ≡ s.number → NamesBefore turns place t.call → ⊥
      twice place t s at is (earlier, below, (other, there, same)) =
          let x = made_from turns steps earlier other made there in
          let a = get_or_from_slice_get steps earlier x.0 s x.1 in
          let b = get_or_from_slice_get steps place s s at in
          let number : StepOf → _ = λ y. y.number in
          once.once earlier place s below (slice_get_within steps place s at) (ap number a ∙ sym (its_number other x.0 x.2) ∙ same ∙ is ∙ sym (ap number b))

      formed : (place : ℕ) (s : StepOf) → slice_get steps place ≡ Some s → IsFormed g calls turns place s
      formed place s at =
          let t = made_at turns steps place s made at in
          record { turn = t.0; there = t.1; first = twice place t.0 s at (its_number t.0 s t.2); call = t.2.0; known = t.2.1; step = t.2.2 }

      named : (c : CallOf) → (s : StepOf) × Contains steps s × (s.number ≡ c.number) → IsNamed turns c.number
      named c (s, has, is) =
          let p = at_contains steps s has in
          let t = made_at turns steps p.0 s made p.1 in
          (p.0, (t.0, t.1, its_number t.0 s t.2 ∙ is))

pub known_is_accepted_lem : (marks : List MarkOf) (declared : DeclarationOf) (calls : List CallOf) (turns : List TurnOf) (steps : List StepOf) (m : Meaning)
    → AreCalls marks calls → AreMade (grants_declared declared) calls turns steps → TakeEachOnce (grants_declared declared) calls steps → IsPlaced steps → AreKnown declared steps m → IsSound m → IsAccepted marks declared turns
known_is_accepted_lem marks declared calls turns steps m are made once placed known sound =
    let c = sound.choice in
    let f = known.sound c.0 c.1 in
    record {
      calls = calls;
      are = are;
      steps = steps;
      order = made_order (grants_declared declared) calls turns steps made once;
      start = f.0;
      described = f.1;
      run = record { once = once; placed = placed; last = inv c.0 m.objects; linked = f.2 };
    }
