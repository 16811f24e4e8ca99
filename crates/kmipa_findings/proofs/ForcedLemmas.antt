-- Where the first turns are forced, each other order whose turns set nothing aside begins by the same steps.
use Rattle.std.proofs.Common.{◌≡◌, ◌<◌, ◌⊎◌, inl, inr, ℕ, zero, suc, ℤ, List, [], map, length, Contains, Option, Some, slice_get, sym, ap, ◌∙◌, subst, arith}
use Rattle.std.proofs.lemmas.Option.{slice_get_within}
use Rattle.kmipa_record.specs.Marks.{MarkOf}
use Rattle.kmipa_record.specs.Witnesses.{TurnOf}
use Rattle.kmipa_check.specs.Grants.{GrantsOf, GrantsNothing}
use Rattle.kmipa_check.specs.Orders.{NamesAt}
use Rattle.kmipa_check.specs.Runs.{EndsAhead}
use Rattle.kmipa_check.proofs.OnceLemmas.{IsOnce}
use Rattle.kmipa_check.proofs.PlaceLemmas.{apart, at_contains, contains_at, below_suc, some_at}
use Rattle.kmipa_turns.specs.Recorded.{RecordedOf, IsEnded, has_ended, is_open}
use Rattle.kmipa_turns.specs.Steps.{StepOf, IsStep}
use Rattle.kmipa_trail.specs.Orders.{IsFormed, IsOrder}
use Rattle.kmipa_trail.specs.Placing.{ArePlaced, IsLate}
use Rattle.kmipa_trail.proofs.MissingLemmas.{number_of}
use Rattle.kmipa_trail.proofs.WitnessLemmas.{same_call}
use Rattle.kmipa_findings.specs.Findings.{SetsNothingAside}
use Rattle.kmipa_findings.specs.Forced.{IsForced, IsForcedAt}
use Rattle.kmipa_findings.proofs.OneWayLemmas.{same_step}
use Rattle.kmipa_findings.proofs.PrefixLemmas.{BeginsAs}

-- a call that has ended has a response
pub answered : (marks : List MarkOf) (c : RecordedOf) (end : ℕ) → IsEnded marks c → c.end ≡ Some end → (bytes : List ℕ) × (c.response ≡ Some bytes)
answered marks c end (has_ended e bytes there closes is) ended = (bytes, is)
answered marks c end (is_open none opened is) ended = absurd cc

module _ (g : GrantsOf) (nothing : GrantsNothing g) (calls : List RecordedOf) (once : IsOnce (map number_of calls))
    (respond : (c : RecordedOf) (end : ℕ) → Contains calls c → c.end ≡ Some end → (bytes : List ℕ) × (c.response ≡ Some bytes)) where
  -- two calls of one number are one
  one_number : (c d : RecordedOf) → Contains calls c → Contains calls d → c.number ≡ d.number → c ≡ d
  one_number c d has had e =
      let p = at_contains calls c has in
      let q = at_contains calls d had in
      same_call calls once p.0 q.0 c d p.1 q.1 e

  -- the call that a step takes
  module _ (turns : List TurnOf) (place : ℕ) (s : StepOf) (h : IsFormed g calls turns place s) where
    number_made : s.number ≡ h.call.number
    number_made = ap (λ (x : StepOf). x.number) h.step.is

    end_made : s.end ≡ h.call.end
    end_made = ap (λ (x : StepOf). x.end) h.step.is

    begin_made : s.begin ≡ h.call.begin
    begin_made = ap (λ (x : StepOf). x.begin) h.step.is

    names : NamesAt turns place s.number
    names = (h.turn, h.there, h.step.named ∙ sym number_made)

    -- no earlier turn takes it
    first : (earlier : ℕ) (number : ℤ) → earlier < place → NamesAt turns earlier number → number ≡ s.number → ⊥
    first earlier number ahead at same = h.first (earlier, ahead, (at.0, at.1, at.2 ∙ (same ∙ number_made ∙ sym h.step.named)))

    -- it takes the call of its number
    takes_call : (c : RecordedOf) → Contains calls c → s.number ≡ c.number → h.call ≡ c
    takes_call c has same = one_number h.call c h.known has (sym number_made ∙ same)

  module _ (turns : List TurnOf) (order : List StepOf) (o : IsOrder g calls turns order) (count : ℕ) (forced : IsForced calls turns order count)
      (marked : List TurnOf) (others : List StepOf) (p : IsOrder g calls marked others) (aside : SetsNothingAside marked) (placed : ArePlaced others (length others)) where
    -- the other order takes the call at this place that its turn names
    named_number : (at : ℕ) (v : StepOf) (h : IsFormed g calls marked at v) (number : ℤ) → NamesAt marked at number → v.number ≡ number
    named_number at v h number n =
        let there = h.there in
        let named = n.1 in
        let same : h.turn ≡ n.0 = cc in
        number_made marked at v h ∙ (sym h.step.named ∙ (ap (λ (t : TurnOf). t.call) same ∙ n.2))

    -- the call that is forced at a place has ended
    module _ (place : ℕ) (f : IsForcedAt calls turns order place) (made : IsFormed g calls turns place f.step) where
      known : Contains calls f.call
      known = contains_at calls place f.call f.there

      its_call : made.call ≡ f.call
      its_call = takes_call turns place f.step made f.call known f.taken

      ended : f.call.end ≡ Some f.end
      ended = ap (λ (c : RecordedOf). c.end) (sym its_call) ∙ (sym (end_made turns place f.step made) ∙ f.ended)

    -- a call that is forced at this place, behind those that are before it, and where the other order takes it
    module _ (place : ℕ) (f : IsForcedAt calls turns order place) (so_far : BeginsAs others order place) (before : IsForced calls turns order place)
        (made : IsFormed g calls turns place f.step) (at : ℕ) (v : StepOf) (found : slice_get others at ≡ Some v) (h : IsFormed g calls marked at v) (numbered : v.number ≡ f.call.number) where
      same_taken : h.call ≡ f.call
      same_taken = takes_call marked at v h f.call (known place f made) numbered

      -- that isn't earlier
      never_earlier : at < place → ⊥
      never_earlier ahead =
          let e = before at ahead in
          let there = so_far at ahead ∙ e.made in
          let same : e.step ≡ v = cc in
          first turns place f.step made at e.step.number ahead (names turns at e.step (o.formed at e.step e.made))
          (ap (λ (x : StepOf). x.number) same ∙ numbered ∙ sym f.taken)

      -- nor later: what is taken here begins behind the end of this call
      module _ (behind : place < at) (u : StepOf) (here : slice_get others place ≡ Some u) (w : IsFormed g calls marked place u) where
        kept : IsLate others place u → ⊥
        kept =
            let q = placed place (slice_get_within others place u here) in
            let stands = q.1.there in
            let same : q.0 ≡ u = cc in
            let P : StepOf → Type 0 = λ x. IsLate others place x → ⊥ in
            subst P same q.1.kept

        late_here : (k : ℕ) → slice_get calls k ≡ Some w.call → place < k → ⊥
        late_here k there later =
            let close : v.end ≡ Some f.end = end_made marked at v h ∙ (ap (λ (x : RecordedOf). x.end) same_taken ∙ ended place f made) in
            let B : ℕ → Type 0 = λ b. f.end < b in
            let E : Option ℕ → Type 0 = λ e. EndsAhead e u.begin in
            let ends : E (Some f.end) = subst B (sym (begin_made marked place u w)) (f.ahead k w.call later there) in
            kept (at, v, behind, found, subst E (sym close) ends)

        early_here : (k : ℕ) → slice_get calls k ≡ Some w.call → k < place → ⊥
        early_here k there ahead =
            let e = before k ahead in
            let stands = e.there in
            let same : e.call ≡ w.call = cc in
            let is = so_far k ahead ∙ e.made in
            first marked place u w k e.step.number ahead (names marked k e.step (p.formed k e.step is)) (e.taken ∙ ap number_of same ∙ sym (number_made marked place u w))

        this_here : (k : ℕ) → slice_get calls k ≡ Some w.call → k ≡ place → ⊥
        this_here k there is =
            let P : ℕ → Type 0 = λ n. slice_get calls n ≡ Some w.call in
            let at_place = subst P is there in
            let stands = f.there in
            let same : w.call ≡ f.call = cc in
            first marked at v h place u.number behind (names marked place u w) (number_made marked place u w ∙ ap number_of same ∙ sym numbered)

        not_later : ⊥
        not_later =
            let k = at_contains calls w.call w.known in
            elim (apart k.0 place) [ inl a ↦ early_here k.0 k.1 a | inr r ↦ elim r [ inl b ↦ late_here k.0 k.1 b | inr e ↦ this_here k.0 k.1 e ] ]

      never_later : place < at → ⊥
      never_later behind =
          let u = some_at others place (omega (arith, behind, slice_get_within others at v found)) in
          not_later behind u.0 u.1 (p.formed place u.0 u.1)

      -- it is here, with the same step
      its_step : v ≡ f.step
      its_step =
          let C : RecordedOf → Type 0 = λ c. IsStep g c h.turn v in
          let D : RecordedOf → Type 0 = λ c. IsStep g c made.turn f.step in
          let bytes = respond f.call f.end (known place f made) (ended place f made) in
          let stands = made.there in
          let taking = f.taking in
          let turn : made.turn ≡ f.turn = cc in
          let A : TurnOf → Type 0 = λ t. t.asides ≡ [] in
          let F : TurnOf → Type 0 = λ t. t.fills ≡ [] in
          same_step g nothing f.call bytes.0 made.turn h.turn f.step v bytes.1 (subst A (sym turn) f.unaside) (aside h.turn (contains_at marked at h.turn h.there)) (subst F (sym turn) f.unfilled)
          f.one_way (subst D (its_call place f made) made.step) (subst C same_taken h.step)

      here_taken : at ≡ place → slice_get others place ≡ slice_get order place
      here_taken is =
          let P : ℕ → Type 0 = λ n. slice_get others n ≡ Some v in
          subst P is found ∙ ap Some its_step ∙ sym f.made

      at_this : slice_get others place ≡ slice_get order place
      at_this = elim (apart at place) [ inl a ↦ absurd (never_earlier a) | inr r ↦ elim r [ inl b ↦ absurd (never_later b) | inr e ↦ here_taken e ] ]

    -- so far they are the same, and so here
    same_here : (place : ℕ) → place < count → BeginsAs others order place → slice_get others place ≡ slice_get order place
    same_here place below so_far =
        let f = forced place below in
        let made = o.formed place f.step f.made in
        let n = p.all f.call f.end (known place f made) (ended place f made) in
        let within : n.0 < length marked = slice_get_within marked n.0 n.1.0 n.1.1 in
        let v = some_at others n.0 (omega (arith, within, p.counted)) in
        let h = p.formed n.0 v.0 v.1 in
        at_this place f so_far (λ earlier ahead. forced earlier (omega (arith, ahead, below))) made n.0 v.0 v.1 h (named_number n.0 v.0 h f.call.number n.1)

    next_same : (n : ℕ) → n < count → BeginsAs others order n → (place : ℕ) → (place < n) ⊎ (place ≡ n) → slice_get others place ≡ slice_get order place
    next_same n below so_far place (inl b) = so_far place b
    next_same n below so_far place (inr e) =
        let P : ℕ → Type 0 = λ i. slice_get others i ≡ slice_get order i in
        subst P (sym e) (same_here n below so_far)

    pub begins_as : (n : ℕ) → n < suc count → BeginsAs others order n
    begins_as zero below place less = absurd (omega (arith, less))
    begins_as (suc n) below place less = next_same n (omega (arith, below)) (begins_as n (omega (arith, below))) place (below_suc place n less)
