-- A witness gives one order, or has a fault.
use Rattle.std.proofs.Common.{◌≡◌, ◌<◌, ℕ, zero, suc, ℤ, List, [], ◌∷◌, map, length, Contains, Some, slice_get, refl, sym, ap, ◌∙◌, subst, arith}
use Rattle.std.proofs.lemmas.Option.{get_or_from_slice_get, slice_get_within}
use Rattle.kmipa_record.specs.Witnesses.{TurnOf}
use Rattle.kmipa_check.specs.Grants.{GrantsOf}
use Rattle.kmipa_check.specs.Orders.{NamesAt, NamesBefore}
use Rattle.kmipa_check.specs.declared.fault.WitnessKind.{WitnessKind}
use Rattle.kmipa_check.proofs.OnceLemmas.{IsOnce}
use Rattle.kmipa_check.proofs.PlaceLemmas.{at_contains, contains_at, get_at, same_elements, some_at}
use Rattle.kmipa_turns.specs.Recorded.{RecordedOf}
use Rattle.kmipa_turns.specs.Steps.{StepOf, IsStep}
use Rattle.kmipa_trail.specs.Orders.{IsFormed, IsOrder, TurnFault, unknown, twice, unfit, WitnessFaultAt, in_turn, left_out}
use Rattle.kmipa_trail.proofs.MissingLemmas.{number_of}
use Rattle.kmipa_trail.proofs.OneStepLemmas.{one_step_lem, step_right}

-- two calls of one number are one
pub same_call : (calls : List RecordedOf) → IsOnce (map number_of calls) → (i j : ℕ) (a b : RecordedOf) → slice_get calls i ≡ Some a → slice_get calls j ≡ Some b → a.number ≡ b.number → a ≡ b
same_call [] once i j a b p q e = absurd cc
same_call (x ∷ calls) once zero zero a b p q e = let u : x ≡ a = cc in let v : x ≡ b = cc in sym u ∙ v
same_call (x ∷ calls) once zero (suc j) a b p q e =
    let u : x ≡ a = cc in
    let P : ℤ → Type 0 = λ z. Contains (map number_of calls) z in
    absurd (once.0 (subst P (sym e ∙ sym (ap number_of u)) (contains_at (map number_of calls) j b.number (get_at number_of calls j b q))))
same_call (x ∷ calls) once (suc i) zero a b p q e =
    let v : x ≡ b = cc in
    let P : ℤ → Type 0 = λ z. Contains (map number_of calls) z in
    absurd (once.0 (subst P (e ∙ sym (ap number_of v)) (contains_at (map number_of calls) i a.number (get_at number_of calls i a p))))
same_call (x ∷ calls) once (suc i) (suc j) a b p q e = same_call calls once.1 i j a b p q e

-- a turn that makes a step has no fault
same_named : (turns : List TurnOf) (place : ℕ) (n m : ℤ) → NamesAt turns place n → NamesAt turns place m → n ≡ m
same_named turns place n m (t, at, e) (u, there, f) = let same : t ≡ u = cc in sym e ∙ ap (λ (x : TurnOf). x.call) same ∙ f

module _ (g : GrantsOf) (calls : List RecordedOf) (turns : List TurnOf) (once : IsOnce (map number_of calls)) where
  named_number : (place : ℕ) (n : ℤ) (s : StepOf) (f : IsFormed g calls turns place s) → NamesAt turns place n → f.turn.call ≡ n
  named_number place n s f at = same_named turns place f.turn.call n (f.turn, f.there, refl) at

  formed_right : (place : ℕ) (kind : WitnessKind) (s : StepOf) → IsFormed g calls turns place s → TurnFault g calls turns place kind → ⊥
  formed_right place kind s f (unknown n at none is) = none (f.call, f.known, sym f.step.named ∙ named_number place n s f at)
  formed_right place kind s f (twice n at has before is) =
      let P : ℤ → Type 0 = λ m. NamesBefore turns place m in
      f.first (subst P (sym (named_number place n s f at)) before)
  formed_right place kind s f (unfit c t there named known first fault) =
      let p = at_contains calls f.call f.known in
      let q = at_contains calls c known in
      let same : f.call ≡ c = same_call calls once p.0 q.0 f.call c p.1 q.1 (sym f.step.named ∙ named_number place c.number s f (t, there, named)) in
      let at = f.there in
      let turn : f.turn ≡ t = cc in
      let P : RecordedOf → Type 0 = λ d. IsStep g d f.turn s in
      let Q : TurnOf → Type 0 = λ u. IsStep g c u s in
      step_right g c t s (subst Q turn (subst P same f.step)) kind fault

  fault_within : (place : ℕ) (kind : WitnessKind) → TurnFault g calls turns place kind → place < length turns
  fault_within place kind (unknown n at none is) = slice_get_within turns place at.0 at.1
  fault_within place kind (twice n at has before is) = slice_get_within turns place at.0 at.1
  fault_within place kind (unfit c t there named known first fault) = slice_get_within turns place t there

  pub order_right : (steps : List StepOf) (at : ℕ) (kind : WitnessKind) → IsOrder g calls turns steps → WitnessFaultAt g calls turns at kind → ⊥
  order_right steps at kind o (in_turn place below t is) =
      let s = some_at steps place (omega (arith, fault_within place kind t, o.counted)) in
      formed_right place kind s.0 (o.formed place s.0 s.1) t
  order_right steps at kind o (left_out place c below there none first is same) = none.unnamed (o.all c none.end (contained place c there) none.ended)
    where
      contained : (place : ℕ) (c : RecordedOf) → slice_get calls place ≡ Some c → Contains calls c
      contained place c there = (place, slice_get_within calls place c there, get_or_from_slice_get calls place c c there)

-- and a witness gives one order
pub one_order_lem : (g : GrantsOf) (calls : List RecordedOf) (turns : List TurnOf) (steps others : List StepOf) → IsOnce (map number_of calls) → IsOrder g calls turns steps → IsOrder g calls turns others → steps ≡ others
one_order_lem g calls turns steps others once o p = same_elements steps others (o.counted ∙ sym p.counted) (λ i s at. by i s at)
  where
    by : (i : ℕ) (s : StepOf) → slice_get steps i ≡ Some s → slice_get others i ≡ Some s
    by i s at =
        let u = some_at others i (omega (arith, slice_get_within steps i s at, o.counted, p.counted)) in
        let f = o.formed i s at in
        let h = p.formed i u.0 u.1 in
        let here = f.there in
        let there = h.there in
        let turn : h.turn ≡ f.turn = cc in
        let a = at_contains calls f.call f.known in
        let b = at_contains calls h.call h.known in
        let call : h.call ≡ f.call = same_call calls once b.0 a.0 h.call f.call b.1 a.1 (sym h.step.named ∙ ap (λ (t : TurnOf). t.call) turn ∙ f.step.named) in
        let P : RecordedOf → Type 0 = λ c. IsStep g c h.turn u.0 in
        let Q : TurnOf → Type 0 = λ t. IsStep g f.call t u.0 in
        u.1 ∙ ap Some (one_step_lem g f.call f.turn u.0 s (subst Q turn (subst P call h.step)) f.step)
