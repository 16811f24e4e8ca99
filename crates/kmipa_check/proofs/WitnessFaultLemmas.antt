-- The fault of a witness: none where it gives an order, and else one.
use Rattle.std.proofs.Common.{◌≡◌, ◌<◌, inl, inr, ℕ, ◌+◌, ℤ, pos, List, map, length, Contains, Some, slice_get, refl, sym, ap, ◌∙◌, subst, arith}
use Rattle.std.proofs.lemmas.Option.{get_or_from_slice_get, slice_get_within}
use Rattle.kmipa_record.specs.Witnesses.{TurnOf}
use Rattle.kmipa_check.specs.Calls.{CallOf}
use Rattle.kmipa_check.specs.Grants.{GrantsOf}
use Rattle.kmipa_check.specs.Steps.{StepOf, IsStep}
use Rattle.kmipa_check.specs.Orders.{NamesAt, NamesBefore, IsFormed, IsOrder, GivenFault, TurnFault, unknown, twice, unfit, WitnessFaultAt, in_turn, left_out}
use Rattle.kmipa_check.specs.declared.fault.WitnessKind.{WitnessKind}
use Rattle.kmipa_check.proofs.PlaceLemmas.{apart, at_contains, some_at}
use Rattle.kmipa_check.proofs.OnceLemmas.{IsOnce}
use Rattle.kmipa_check.proofs.WholeOrderLemmas.{number_of, same_call, step_right, one_given}

same_named : (turns : List TurnOf) (place : ℕ) (n m : ℤ) → NamesAt turns place n → NamesAt turns place m → n ≡ m
same_named turns place n m (t, at, e) (u, there, f) = let same : t ≡ u = cc in sym e ∙ ap (λ (x : TurnOf). x.call) same ∙ f

module _ (g : GrantsOf) (calls : List CallOf) (turns : List TurnOf) (once : IsOnce (map number_of calls)) where
  named_number : (place : ℕ) (n : ℤ) (s : StepOf) (f : IsFormed g calls turns place s) → NamesAt turns place n → f.turn.call ≡ n
  named_number place n s f at = same_named turns place f.turn.call n (f.turn, f.there, refl) at

  formed_right : (place : ℕ) (kind : WitnessKind) (s : StepOf) → IsFormed g calls turns place s → TurnFault g calls turns place kind → ⊥
  formed_right place kind s f (unknown n at none is) = none (f.call, f.known, sym f.step.named ∙ named_number place n s f at)
  formed_right place kind s f (twice n at has before is) =
      let P : ℤ → Type 0 = λ m. NamesBefore turns place m in
      f.first (subst P (sym (named_number place n s f at)) before)
  formed_right place kind s f (unfit c t there named known first fault) =
      let p = at_contains calls f.call f.known in
      let q = at_contains calls c known in
      let same : f.call ≡ c = same_call calls once p.0 q.0 f.call c p.1 q.1 (sym f.step.named ∙ named_number place c.number s f (t, there, named)) in
      let at = f.there in
      let turn : f.turn ≡ t = cc in
      let P : CallOf → Type 0 = λ d. IsStep g d f.turn s in
      let Q : TurnOf → Type 0 = λ u. IsStep g c u s in
      step_right g c t s kind (subst Q turn (subst P same f.step)) fault

  fault_within : (place : ℕ) (kind : WitnessKind) → TurnFault g calls turns place kind → place < length turns
  fault_within place kind (unknown n at none is) = slice_get_within turns place at.0 at.1
  fault_within place kind (twice n at has before is) = slice_get_within turns place at.0 at.1
  fault_within place kind (unfit c t there named known first fault) = slice_get_within turns place t there

  one_fault : (place : ℕ) (kind other : WitnessKind) → TurnFault g calls turns place kind → TurnFault g calls turns place other → kind ≡ other
  one_fault place kind other (unknown n at none is) (unknown m there never same) = is ∙ sym same
  one_fault place kind other (unknown n at none is) (twice m there has before same) =
      absurd (none (has.0, has.1, has.2 ∙ same_named turns place m n there at))
  one_fault place kind other (unknown n at none is) (unfit c t there named known first fault) = absurd (none (c, known, sym named ∙ same_named turns place t.call n (t, there, refl) at))
  one_fault place kind other (twice n at has before is) (unknown m there never same) = absurd (never (has.0, has.1, has.2 ∙ same_named turns place n m at there))
  one_fault place kind other (twice n at has before is) (twice m there had earlier same) = is ∙ sym same
  one_fault place kind other (twice n at has before is) (unfit c t there named known first fault) =
      let P : ℤ → Type 0 = λ x. NamesBefore turns place x in
      absurd (first (subst P (same_named turns place n t.call at (t, there, refl)) before))
  one_fault place kind other (unfit c t at named known first fault) (unknown m there never same) = absurd (never (c, known, sym named ∙ same_named turns place t.call m (t, at, refl) there))
  one_fault place kind other (unfit c t at named known first fault) (twice m there has before same) =
      let P : ℤ → Type 0 = λ x. NamesBefore turns place x in
      absurd (first (subst P (same_named turns place m t.call there (t, at, refl)) before))
  one_fault place kind other (unfit c t at named known first fault) (unfit d u there names has early wrong) =
      let turn : u ≡ t = cc in
      let p = at_contains calls c known in
      let q = at_contains calls d has in
      let call : d ≡ c = same_call calls once q.0 p.0 d c q.1 p.1 (sym names ∙ ap (λ (x : TurnOf). x.call) turn ∙ named) in
      let P : CallOf → Type 0 = λ x. GivenFault g x u other in
      let Q : TurnOf → Type 0 = λ x. GivenFault g c x other in
      one_given g c t kind other fault (subst Q turn (subst P call wrong))

  pub order_right : (steps : List StepOf) (at : ℕ) (kind : WitnessKind) → IsOrder g calls turns steps → WitnessFaultAt g calls turns at kind → ⊥
  order_right steps at kind o (in_turn place below t is) =
      let s = some_at steps place (omega (arith, fault_within place kind t, o.counted)) in
      formed_right place kind s.0 (o.formed place s.0 s.1) t
  order_right steps at kind o (left_out place c below there none first is same) = none.unnamed (o.all c none.end (contained place c there) none.ended)
    where
      contained : (place : ℕ) (c : CallOf) → slice_get calls place ≡ Some c → Contains calls c
      contained place c there = (place, slice_get_within calls place c there, get_or_from_slice_get calls place c c there)

  pub one_witness_fault : (at by : ℕ) (kind other : WitnessKind) → WitnessFaultAt g calls turns at kind → WitnessFaultAt g calls turns by other → (at ≡ by) × (kind ≡ other)
  one_witness_fault at by kind other (in_turn p below t is) (in_turn q under u same) = elim (apart p q) [
    | inl h ↦ let f = under p h in absurd (formed_right p kind f.0 f.1 t)
    | inr more ↦ elim more [
      | inl h ↦ let f = below q h in absurd (formed_right q other f.0 f.1 u)
      | inr e ↦
          let P : ℕ → Type 0 = λ x. TurnFault g calls turns x other in
          (is ∙ ap (λ (x : ℕ). x + 1) e ∙ sym same, one_fault p kind other t (subst P (sym e) u))
    ]
  ]
  one_witness_fault at by kind other (in_turn p below t is) (left_out q c under there none first same last) = let f = under p (fault_within p kind t) in absurd (formed_right p kind f.0 f.1 t)
  one_witness_fault at by kind other (left_out p c below there none first is last) (in_turn q under u same) = let f = below q (fault_within q other u) in absurd (formed_right q other f.0 f.1 u)
  one_witness_fault at by kind other (left_out p c below there none first is last) (left_out q d under here never early same end) = elim (apart p q) [
    | inl h ↦ absurd (early p c h there none)
    | inr more ↦ elim more [
      | inl h ↦ absurd (first q d h here never)
      | inr e ↦
          let P : ℕ → Type 0 = λ x. slice_get calls x ≡ Some c in
          let stands = subst P e there in
          let one : c ≡ d = cc in
          let number : pos at ≡ pos by = sym is ∙ ap number_of one ∙ same in
          ((let n = number in cc), last ∙ sym end)
    ]
  ]
