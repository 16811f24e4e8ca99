-- What is known once all marks have come.
use Rattle.std.proofs.Common.{◌≡◌, ◌≤◌, ◌<◌, ◌⊎◌, inl, inr, ℕ, zero, suc, ◌+◌, ℤ, pos, ◌≤ℤ◌, Bool, true, false, List, [], map, length, take, Contains, Option, Some, None, slice_get, Result, Ok, Err, refl, sym, ap, ◌∙◌, subst, arith, add-one}
use Rattle.std.specs.Prelude.{MatchResult, not}
use Rattle.std.proofs.lemmas.List.{length-map, take_all}
use Rattle.std.proofs.lemmas.Option.{slice_get_within, get_or_from_slice_get}
use Rattle.kmipa_msgs.specs.declared.rules.Unjudged.{Unjudged}
use Rattle.kmipa_msgs.specs.declared.rules.Unjudged.TheVariants as unjudged
use Rattle.kmipa_record.specs.Declarations.{DeclarationOf}
use Rattle.kmipa_record.specs.Marks.{MarkOf, begins, ends, begun, AreRecorded, IsCallNumber}
use Rattle.kmipa_record.specs.Marks as marked
use Rattle.kmipa_record.specs.Witnesses.{TurnOf, turn_of}
use Rattle.kmipa_record.specs.declared.turn.Turn.{Turn}
use Rattle.kmipa_check.specs.CallReading.{AreReadUpTo}
use Rattle.kmipa_check.specs.Calls.{CallOf, AreCalls, HasBegin, HasEnd, IsRecorded, IsFirstOutside}
use Rattle.kmipa_check.specs.Grants.{GrantsOf, grants_declared}
use Rattle.kmipa_check.specs.Orders.{IsNamed, AreFormedBelow, IsOrder, WitnessFaultAt, left_out, AreFormed}
use Rattle.kmipa_check.specs.Deciding.{Decided}
use Rattle.kmipa_check.specs.Replays.{Replayed}
use Rattle.kmipa_check.specs.Steps.{StepOf}
use Rattle.kmipa_check.specs.declared.fault.CheckFault.{CheckFault}
use Rattle.kmipa_check.specs.declared.fault.CheckFault.TheVariants as check_fault
use Rattle.kmipa_check.specs.declared.fault.WitnessFault.{WitnessFault}
use Rattle.kmipa_check.specs.declared.fault.WitnessKind.{WitnessKind}
use Rattle.kmipa_check.specs.declared.fault.WitnessKind.TheVariants.{LeftOut}
use Rattle.kmipa_check.specs.declared.numbers.FirstPlaces.{FirstPlaces}
use Rattle.kmipa_check.specs.declared.verdict.Refused.{Refused}
use Rattle.kmipa_check.specs.declared.verdict.Verdict.TheVariants as verdict
use Rattle.kmipa_check.proofs.OrderLemmas.{formed_none, formed_more}
use Rattle.kmipa_check.proofs.PlaceLemmas.{at_contains, get_at, mapped_from, below_suc}
use Rattle.kmipa_check.proofs.ReadingLemmas.{read_none, read_call, read_other, read_all, read_fault}
use Rattle.kmipa_check.proofs.RecordedLemmas.{recorded_at}
use Rattle.kmipa_check.proofs.ReplayLemmas.{replayed_accepts}
use Rattle.kmipa_check.proofs.WholeOrderLemmas.{number_of, order_takes}
use Rattle.kmipa_stream.specs.Ahead.{WasRead, IsFound}
use Rattle.kmipa_stream.specs.Counting.{AreCounted, TalliesSo}
use Rattle.kmipa_stream.specs.Replaying.{FindsSo, IsAtEnd, counts_under, meaning_in, tally_under}
use Rattle.kmipa_stream.specs.Seeing.{EndsSo, AreSeen}
use Rattle.kmipa_stream.specs.Standing.{WereRead, Stands, AreAllReleased, IsDone, IsDoneBy, IsUnnamed, NoneUnnamed, IsFirstLeftOut, Judges, TellsLeftOut}
use Rattle.kmipa_stream.specs.Waiting.{AreNamedAt}
use Rattle.kmipa_stream.specs.declared.auditor.Auditor.{Auditor}
use Rattle.kmipa_stream.specs.declared.counts.Counts.{Counts}
use Rattle.kmipa_stream.specs.declared.lowest.Found.{Found}
use Rattle.kmipa_stream.specs.declared.replaying.Finding.{Finding}
use Rattle.kmipa_stream.specs.declared.replaying.Finding.TheVariants.{Possible, No, Faulty}
use Rattle.kmipa_stream.specs.declared.replaying.Replay.{Replay}
use Rattle.kmipa_stream.specs.declared.seen.Seen.{Seen}
use Rattle.kmipa_stream.specs.declared.seen.SeenCall.{SeenCall}
use Rattle.kmipa_stream.specs.declared.stamped.Stamped.{Stamped}
use Rattle.kmipa_stream.specs.declared.tally.Tally.{Tally}
use Rattle.kmipa_stream.proofs.AheadLemmas.{ahead_itself}
use Rattle.kmipa_stream.proofs.OrderLemmas.{ended_so, end_noted}
use Rattle.kmipa_stream.proofs.WaitingLemmas.{is_it_named}

-- ---- the calls

module _ (marks : List MarkOf) (limit : ℕ) (inside : (n : ℤ) (begin : ℕ) (asked : List ℕ) → HasBegin marks n begin asked → begin < limit → (c : CallOf) × IsRecorded marks c × (c.begin ≡ begin)) where
  read_next : (k : ℕ) → k < limit → (calls : List CallOf) → AreReadUpTo marks k calls → (v : Option MarkOf) → slice_get marks k ≡ v → (more : List CallOf) × AreReadUpTo marks (suc k) more
  read_next k below calls r None at = (calls, read_other marks k calls (λ n client asked is. absurd cc) r)
  read_next k below calls r (Some (ends n answered)) at = (calls, read_other marks k calls (λ m client asked is. absurd cc) r)
  read_next k below calls r (Some (begins n client asked)) at =
      let c = inside n k asked (record { client = client; there = at }) below in
      (_, read_call marks k calls c.0 (c.1, c.2) r)

  pub read_up_to : (k : ℕ) → k ≤ limit → (calls : List CallOf) × AreReadUpTo marks k calls
  read_up_to zero h = ([], read_none marks)
  read_up_to (suc k) h =
      let r = read_up_to k (omega (arith, h)) in
      read_next k (omega (arith, h)) r.0 r.1 (slice_get marks k) refl

-- the call that a mark begins was read
module _ (marks : List MarkOf) (r : AreRecorded marks) (seen : Seen) (are : AreSeen marks seen) (all : AreAllReleased seen.calls.items) (lowest : Option Found)
    (were : WereRead true marks lowest seen.calls.items) where
  was_read : (n : ℤ) (begin : ℕ) (asked : List ℕ) → HasBegin marks n begin asked → WasRead true marks lowest begin
  was_read n begin asked h =
      let k = are.all n begin asked h in
      let P : ℕ → Type 0 = λ b. WasRead true marks lowest b in
      subst P k.1.3 (were k.0 k.1.0 k.1.1 (all k.0 k.1.0 k.1.1))

  -- the calls, where no message is outside
  pub all_inside : lowest ≡ None → (calls : List CallOf) × AreCalls marks calls
  all_inside none =
      let u = read_up_to marks (length marks) (λ n begin asked h below. by begin lowest none (was_read n begin asked h)) (length marks) (omega arith) in
      (u.0, read_all marks (length marks) u.0 (omega arith) u.1)
    where
      by : (begin : ℕ) (l : Option Found) → l ≡ None → WasRead true marks l begin → (c : CallOf) × IsRecorded marks c × (c.begin ≡ begin)
      by begin l e (inl inside) = inside marks (ahead_itself marks r)
      by begin None e (inr found) = absurd found
      by begin (Some f) e (inr found) = absurd cc

-- the first message that is outside, where one is
pub found_first : (marks : List MarkOf) (seen : Seen) (f : Found) → AreRecorded marks → AreSeen marks seen → AreAllReleased seen.calls.items → WereRead true marks (Some f) seen.calls.items → IsFound marks (Some f)
    → IsFirstOutside marks f.number f.side f.outside.item f.outside.kind
found_first marks seen f r are all were found =
    let u = read_up_to marks f.begin (λ n begin asked h below. by begin below (was_read marks r seen are all (Some f) were n begin asked h)) f.begin (omega arith) in
    read_fault marks f.begin u.0 (check_fault.Outside f.number f.side f.outside) found u.1
  where
    by : (begin : ℕ) → begin < f.begin → WasRead true marks (Some f) begin → (c : CallOf) × IsRecorded marks c × (c.begin ≡ begin)
    by begin below (inl inside) = inside marks (ahead_itself marks r)
    by begin below (inr behind) = absurd (omega (arith, below, behind))

-- ---- calls that are left out

module _ (marks : List MarkOf) (r : AreRecorded marks) (seen : Seen) (are : AreSeen marks seen) (calls : List CallOf) (cs : AreCalls marks calls) where
  -- the call at a place of the one list is that of the other
  call_there : (place : ℕ) (s : SeenCall) → slice_get seen.calls.items place ≡ Some s → (c : CallOf) × (slice_get calls place ≡ Some c) × (c.number ≡ s.number)
  call_there place s at =
      let P : List ℤ → Type 0 = λ l. slice_get l place ≡ Some s.number in
      let m = mapped_from number_of calls place s.number (subst P (are.numbers ∙ sym cs.numbers) (get_at (λ (t : SeenCall). t.number) seen.calls.items place s at)) in
      (m.0, m.1, m.2)

  seen_there : (place : ℕ) (c : CallOf) → slice_get calls place ≡ Some c → (s : SeenCall) × (slice_get seen.calls.items place ≡ Some s) × (s.number ≡ c.number)
  seen_there place c at =
      let P : List ℤ → Type 0 = λ l. slice_get l place ≡ Some c.number in
      let m = mapped_from (λ (t : SeenCall). t.number) seen.calls.items place c.number (subst P (cs.numbers ∙ sym are.numbers) (get_at number_of calls place c at)) in
      (m.0, m.1, m.2)

  call_ended : (place : ℕ) (s : SeenCall) (c : CallOf) (end : ℕ) → slice_get seen.calls.items place ≡ Some s → slice_get calls place ≡ Some c → c.number ≡ s.number → s.end ≡ Some end → c.end ≡ Some end
  call_ended place s c end at there same is =
      let P : Option ℕ → Type 0 = λ o. EndsSo marks s.number o in
      let h = subst P is (are.each place s at).ended in
      let Q : ℤ → Type 0 = λ n. HasEnd marks n end h.0 in
      end_noted marks r calls cs c end h.0 (subst Q (sym same) h.1) (recorded_at marks calls place c cs there).ended

  seen_ended : (place : ℕ) (s : SeenCall) (c : CallOf) (end : ℕ) → slice_get seen.calls.items place ≡ Some s → slice_get calls place ≡ Some c → s.number ≡ c.number → c.end ≡ Some end → (e : ℕ) × (s.end ≡ Some e)
  seen_ended place s c end at there same is =
      let h = ended_so marks r calls cs c end (recorded_at marks calls place c cs there).ended is in
      let Q : ℤ → Type 0 = λ n. HasEnd marks n end h.0 in
      by s.end refl (subst Q (sym same) h.1)
    where
      by : (o : Option ℕ) → s.end ≡ o → {a : List ℕ} → HasEnd marks s.number end a → (e : ℕ) × (s.end ≡ Some e)
      by None e {a} h = let P : Option ℕ → Type 0 = λ o. EndsSo marks s.number o in absurd (subst P e (are.each place s at).ended end a h)
      by (Some x) e h = (x, e)

  module _ (g : GrantsOf) (turns : List Turn) (formed : AreFormedBelow g calls (map turn_of turns) (length (map turn_of turns))) where
    pub left_out_told : (number : ℤ) (at : ℕ) → IsFirstLeftOut turns seen.calls.items (Some number) → number ≡ pos at → WitnessFaultAt g calls (map turn_of turns) at LeftOut
    left_out_told number at first is =
        let place = first.0 in
        let s = first.1.0 in
        let u = first.1.3 in
        let c = call_there place s first.1.1 in
        let P : ℤ → Type 0 = λ n. IsNamed (map turn_of turns) n → ⊥ in
        left_out place c.0 formed c.1
        (record { end = u.end; ended = call_ended place s c.0 u.end first.1.1 c.1 c.2 u.ended; unnamed = subst P (sym c.2) u.unnamed })
        (λ earlier d below there out.
        let t = seen_there earlier d there in
        let e = seen_ended earlier t.0 d out.end t.1 there t.2 out.ended in
        let Q : ℤ → Type 0 = λ n. IsNamed (map turn_of turns) n → ⊥ in
        first.2 earlier t.0 below t.1 (record { end = e.0; ended = e.1; unnamed = subst Q (sym t.2) out.unnamed })) (c.2 ∙ first.1.2 ∙ is) refl

    pub none_left_out : (named : FirstPlaces) → AreNamedAt turns named → IsFirstLeftOut turns seen.calls.items None → (c : CallOf) (end : ℕ) → Contains calls c → c.end ≡ Some end → IsNamed (map turn_of turns) c.number
    none_left_out named names none c end has is =
        let p = at_contains calls c has in
        let s = seen_there p.0 c p.1 in
        let e = seen_ended p.0 s.0 c end s.1 p.1 s.2 is in
        let P : ℤ → Type 0 = λ n. IsNamed (map turn_of turns) n in
        elim (is_it_named turns named names s.0.number) [
          | inl h ↦ subst P s.2 h
          | inr h ↦ absurd (none p.0 s.0 (slice_get_within seen.calls.items p.0 s.0 s.1) s.1 (record { end = e.0; ended = e.1; unnamed = h }))
        ]

-- ---- the order

pub formed_list : (g : GrantsOf) (calls : List CallOf) (turns : List TurnOf) (count : ℕ) → AreFormedBelow g calls turns count → (steps : List StepOf) × AreFormed g calls turns count steps
formed_list g calls turns zero h = ([], formed_none g calls turns)
formed_list g calls turns (suc count) h =
    let f = formed_list g calls turns count (λ place below. h place (omega (arith, below))) in
    let s = h count (omega arith) in
    let P : ℕ → Type 0 = λ n. (steps : List StepOf) × AreFormed g calls turns n steps in
    subst P (add-one count) (_, formed_more g calls turns count f.0 s.0 f.1 s.1)

pub whole_order : (g : GrantsOf) (calls : List CallOf) (turns : List TurnOf) → AreFormedBelow g calls turns (length turns) → ((c : CallOf) (end : ℕ) → Contains calls c → c.end ≡ Some end → IsNamed turns c.number)
    → (order : List StepOf) × IsOrder g calls turns order
whole_order g calls turns formed all =
    let f = formed_list g calls turns (length turns) formed in
    (f.0, record { counted = f.1.counted; formed = f.1.each; all = all })

-- ---- the verdict

-- a number that a mark begins is one of a call
pub number_counted : (marks : List MarkOf) (n : ℤ) (begin : ℕ) (asked : List ℕ) → AreRecorded marks → HasBegin marks n begin asked → pos 1 ≤ℤ n
number_counted marks n begin asked r h =
    let mark : MarkOf = begins n h.client asked in
    let Q : MarkOf → Type 0 = λ m. IsCallNumber (marked.call_of m) in
    let number : IsCallNumber n = subst Q (get_or_from_slice_get marks begin mark mark h.there) (r.numbered begin mark (slice_get_within marks begin mark h.there)) in
    number.least

-- what is counted of a whole order
module _ (marks : List MarkOf) (declared : DeclarationOf) (turns : List TurnOf) (calls : List CallOf) (are : AreCalls marks calls) (steps : List StepOf) (order : IsOrder (grants_declared declared) calls turns steps)
  where
    tally_told : (u : Unjudged) (tally : Option Tally) → u ≡ declared.settings.unjudged → tally ≡ tally_under u steps → TalliesSo marks declared turns tally
    tally_told unjudged.Refused None same is = sym same
    tally_told unjudged.Refused (Some t) same is = absurd cc
    tally_told unjudged.SetAside None same is = absurd cc
    tally_told unjudged.SetAside (Some t) same is = ((λ ends. let clash = same ∙ ends in absurd cc), record { calls = calls; are = are; steps = steps; order = order; tallied = cc })
    tally_told unjudged.Unknown None same is = absurd cc
    tally_told unjudged.Unknown (Some t) same is = ((λ ends. let clash = same ∙ ends in absurd cc), record { calls = calls; are = are; steps = steps; order = order; tallied = cc })

    pub counts_told : (counts : Counts) → counts ≡ counts_under declared.settings.unjudged steps → AreCounted marks declared turns counts.items × TalliesSo marks declared turns counts.tally
    counts_told counts is = (
      record { calls = calls; are = are; steps = steps; order = order; counted = ap (λ (c : Counts). c.items) is },
      tally_told declared.settings.unjudged counts.tally refl (ap (λ (c : Counts). c.tally) is),
    )

module _ (marks : List MarkOf) (turns : List Turn) (declared : DeclarationOf) (a : Auditor) (r : AreRecorded marks) (s : Stands true marks turns declared a) (all : AreAllReleased a.seen.calls.items)
    (none : a.lowest ≡ None) where
  calls_there : (calls : List CallOf) × AreCalls marks calls
  calls_there = all_inside marks r a.seen s.seen all a.lowest s.read none

  finds : (f : Finding) → a.replay.finding ≡ f → FindsSo true marks turns declared a.replay.formed a.replay.last a.replay.counts (meaning_in a.replay.ledger) f
  finds f is = let P : Finding → Type 0 = λ x. FindsSo true marks turns declared a.replay.formed a.replay.last a.replay.counts (meaning_in a.replay.ledger) x in subst P is s.replay.finding

  -- a faulty witness
  pub faulty_told : (f : WitnessFault) → a.replay.finding ≡ Faulty f → Judges marks declared (map turn_of turns) (Err (check_fault.Witness f))
  faulty_told f is = (calls_there.0, calls_there.1, finds (Faulty f) is marks calls_there.0 (ahead_itself marks r) calls_there.1)

  module _ (done : IsDone a) (right : (f : WitnessFault) → a.replay.finding ≡ Faulty f → ⊥) where
    long : length turns ≤ a.replay.formed
    long =
        let P : Option Found → Type 0 = λ l. IsDoneBy a.replay l in
        by a.replay.finding refl (subst P none done)
      where
        here : length a.replay.turns.now ≤ a.replay.formed → length turns ≤ a.replay.formed
        here h = omega (arith, h, ap length s.replay.same)

        by : (f : Finding) → a.replay.finding ≡ f → IsAtEnd a.replay f → length turns ≤ a.replay.formed
        by Possible is h = here h
        by (No refused stamp) is h = here h
        by (Faulty f) is h = absurd (right f is)

    formed_all : AreFormedBelow (grants_declared declared) calls_there.0 (map turn_of turns) (length (map turn_of turns))
    formed_all = λ place below. s.replay.formed marks calls_there.0 (ahead_itself marks r) calls_there.1 place (omega (arith, below, length-map turns turn_of, long))

    -- a call that is left out
    pub left_told : (number : ℤ) (f : WitnessFault) → IsFirstLeftOut turns a.seen.calls.items (Some number) → number ≡ pos f.at → f.kind ≡ LeftOut
        → Judges marks declared (map turn_of turns) (Err (check_fault.Witness f))
    left_told number f first is kind =
        let P : WitnessKind → Type 0 = λ k. WitnessFaultAt (grants_declared declared) calls_there.0 (map turn_of turns) f.at k in
        (calls_there.0, calls_there.1, subst P (sym kind) (left_out_told marks r a.seen s.seen calls_there.0 calls_there.1 (grants_declared declared) turns formed_all number f.at first is))

    pub left_counted : (number : ℤ) → IsFirstLeftOut turns a.seen.calls.items (Some number) → pos 1 ≤ℤ number
    left_counted number first =
        let i = s.seen.each first.0 first.1.0 first.1.1 in
        let P : ℤ → Type 0 = λ n. pos 1 ≤ℤ n in
        subst P first.1.2 (number_counted marks first.1.0.number first.1.0.begin i.asked r i.begun)

    -- a verdict, unless a call is left out
    pub unless_told : (stamped : Stamped) (result : Result Stamped CheckFault)
        → MatchResult result (λ (told : Stamped). (told ≡ stamped) × IsFirstLeftOut turns a.seen.calls.items None) (TellsLeftOut turns a.seen.calls.items)
        → (IsFirstLeftOut turns a.seen.calls.items None → Judges marks declared (map turn_of turns) (Ok stamped)) → Judges marks declared (map turn_of turns) result
    unless_told stamped (Ok told) h told_whole = let P : Stamped → Type 0 = λ j. Judges marks declared (map turn_of turns) (Ok j) in subst P (sym h.0) (told_whole h.1)
    unless_told stamped (Err (check_fault.Witness f)) h told_whole = left_told h.0 f h.1 (h.2 (left_counted h.0 h.1)) h.3
    unless_told stamped (Err (check_fault.Outside n side o)) h told_whole = absurd h
    unless_told stamped (Err check_fault.Memory) h told_whole = tt

    module _ (whole : IsFirstLeftOut turns a.seen.calls.items None) where
      order_there : (order : List StepOf) × IsOrder (grants_declared declared) calls_there.0 (map turn_of turns) order
      order_there =
          whole_order (grants_declared declared) calls_there.0 (map turn_of turns) formed_all
          (none_left_out marks r a.seen s.seen calls_there.0 calls_there.1 (grants_declared declared) turns formed_all a.replay.named s.replay.named whole)

      pub no_told : (refused : Refused) (stamp : ℤ) (counts : Counts) → a.replay.finding ≡ No refused stamp
          → Judges marks declared (map turn_of turns) (Ok (record { verdict = verdict.No refused; stamp = Some stamp; counts = counts }))
      no_told refused stamp counts is =
          let f = finds (No refused stamp) is in (
            (calls_there.0, calls_there.1, (order_there.0, order_there.1, f.0 marks calls_there.0 order_there.0 (ahead_itself marks r) calls_there.1 order_there.1)),
            (stamp, refl, f.1 marks (ahead_itself marks r)),
            tt,
          )

      pub yes_told : a.replay.finding ≡ Possible → Judges marks declared (map turn_of turns) (Ok (record { verdict = verdict.Yes; stamp = None; counts = a.replay.counts }))
      yes_told is =
          let f = finds Possible is in
          let g = f.1 marks calls_there.0 order_there.0 (ahead_itself marks r) calls_there.1 order_there.1 in
          let P : ℕ → Type 0 = λ n. Replayed declared order_there.0 n (meaning_in a.replay.ledger) in
          let same : a.replay.formed ≡ length order_there.0 = omega (arith, long, s.replay.within, order_there.1.counted, length-map turns turn_of) in
          let all : take a.replay.formed order_there.0 ≡ order_there.0 = take_all a.replay.formed order_there.0 (omega (arith, same)) in (
            replayed_accepts marks declared (map turn_of turns) calls_there.0 order_there.0 (meaning_in a.replay.ledger) calls_there.1 order_there.1
                (order_takes (grants_declared declared) calls_there.0 (map turn_of turns) order_there.0 order_there.1) (subst P same g.replayed),
            tt,
            counts_told marks declared (map turn_of turns) calls_there.0 calls_there.1 order_there.0 order_there.1 a.replay.counts (g.counted ∙ ap (counts_under declared.settings.unjudged) all),
          )

-- a message that is outside
pub found_told : (marks : List MarkOf) (turns : List Turn) (declared : DeclarationOf) (a : Auditor) (f : Found) → AreRecorded marks → Stands true marks turns declared a → AreAllReleased a.seen.calls.items
    → a.lowest ≡ Some f → Judges marks declared (map turn_of turns) (Err (check_fault.Outside f.number f.side f.outside))
found_told marks turns declared a f r s all is =
    let P : Option Found → Type 0 = λ l. WereRead true marks l a.seen.calls.items in
    let Q : Option Found → Type 0 = λ l. IsFound marks l in
    found_first marks a.seen f r s.seen all (subst P is s.read) (subst Q is s.found)

-- what was done before the rest was read is done still
pub still_done : (old new : Auditor) → new.replay ≡ old.replay → (new.lowest ≡ None → old.lowest ≡ None) → new.lowest ≡ None → IsDone old → IsDone new
still_done old new same before none done =
    let P : Option Found → Type 0 = λ l. IsDoneBy old.replay l in
    let Q : Option Found → Type 0 = λ l. IsDoneBy new.replay l in
    let R : Replay → Type 0 = λ r. IsAtEnd r r.finding in
    subst Q (sym none) (subst R (sym same) (subst P (before none) done))

-- ---- the first call that is left out, place by place

-- a call that has ended, by whether a turn names it
pub unnamed_decided : (turns : List Turn) (s : SeenCall) (end : ℕ) (named : Bool) → s.end ≡ Some end → Decided named (IsNamed (map turn_of turns) s.number) → Decided (not named) (IsUnnamed turns s)
unnamed_decided turns s end true ended decided = λ out. out.unnamed decided
unnamed_decided turns s end false ended decided = record { end = end; ended = ended; unnamed = decided }

-- one that has not
pub not_left_out : (turns : List Turn) (s : SeenCall) → s.end ≡ None → IsUnnamed turns s → ⊥
not_left_out turns s none out = let is = out.ended in cc

module _ (turns : List Turn) (lent : List SeenCall) (place : ℕ) (s : SeenCall) (at : slice_get lent place ≡ Some s) (before : NoneUnnamed turns lent place) (left : Bool) (decided : Decided left (IsUnnamed turns s)) where
  pub first_left_out : (items : List SeenCall) (n : ℤ) → lent ≡ items → s.number ≡ n → left ≡ true → IsFirstLeftOut turns items (Some n)
  first_left_out items n same number is =
      let P : Bool → Type 0 = λ b. Decided b (IsUnnamed turns s) in
      let Q : List SeenCall → Type 0 = λ l. IsFirstLeftOut turns l (Some n) in
      subst Q same (place, (s, at, number, subst P is decided), before)

  pub none_left : left ≡ false → NoneUnnamed turns lent (place + 1)
  none_left is other t below there out = by (below_suc other place (omega (arith, below)))
    where
      not_here : IsUnnamed turns s → ⊥
      not_here = let P : Bool → Type 0 = λ b. Decided b (IsUnnamed turns s) in subst P is decided

      by : (other < place) ⊎ (other ≡ place) → ⊥
      by (inl h) = before other t h there out
      by (inr e) =
          let P : ℕ → Type 0 = λ p. slice_get lent p ≡ Some t in
          let here = subst P e there in
          let same : t ≡ s = (let k = at in cc) in
          let Q : SeenCall → Type 0 = λ x. IsUnnamed turns x in
          not_here (subst Q same out)
