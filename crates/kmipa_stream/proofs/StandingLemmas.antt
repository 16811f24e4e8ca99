-- What an audit knows, as marks come and calls are let go.
use Rattle.std.proofs.Common.{◌≡◌, ◌≢◌, ◌<◌, ◌⊎◌, inl, inr, ℕ, ℤ, Bool, true, false, List, [], ◌∷◌, ◌++◌, length, map, ◌+◌, Option, Some, None, slice_get, refl, sym, ap, ◌∙◌, subst, arith}
use Rattle.std.specs.Prelude.{Result, Ok, Err, OnOk, is_ok}
use Rattle.std.specs.declared.alloc.AllocError.{AllocError}
use Rattle.std.proofs.Math.ListN.{set}
use Rattle.std.proofs.lemmas.List.{length-set}
use Rattle.kmipa_store.specs.Ledger.{Meaning}
use Rattle.kmipa_record.specs.Declarations.{DeclarationOf}
use Rattle.kmipa_record.specs.Marks.{MarkOf, begins}
use Rattle.kmipa_record.specs.NumberMaps.{value_at}
use Rattle.kmipa_record.specs.Witnesses.{TurnOf, turn_of}
use Rattle.kmipa_record.specs.declared.turn.Turn.{Turn}
use Rattle.kmipa_check.specs.Calls.{CallOf, HasBegin}
use Rattle.kmipa_check.specs.Orders.{unknown}
use Rattle.kmipa_check.specs.declared.fault.WitnessKind.TheVariants.{UnknownCall}
use Rattle.kmipa_stream.specs.Ahead.{IsAhead, IsFoundBy, WasRead, IsFound, IsLower}
use Rattle.kmipa_stream.specs.Replaying.{FindsSo, Replays, IsRecordedAhead, RefusesTurnAhead}
use Rattle.kmipa_stream.specs.Seeing.{AreSeen, KeepReleased, released}
use Rattle.kmipa_stream.specs.Standing.{WereRead, Stands, Standing, LetsGoAt}
use Rattle.kmipa_stream.specs.Waiting.{Wait}
use Rattle.kmipa_stream.specs.declared.auditor.Auditor.{Auditor}
use Rattle.kmipa_stream.specs.declared.counts.Counts.{Counts}
use Rattle.kmipa_stream.specs.declared.ends.Ends.{Ends}
use Rattle.kmipa_stream.specs.declared.lowest.Found.{Found}
use Rattle.kmipa_stream.specs.declared.replaying.Finding.{Finding}
use Rattle.kmipa_stream.specs.declared.replaying.Finding.TheVariants.{Possible, No, Faulty}
use Rattle.kmipa_stream.specs.declared.replaying.Replay.{Replay}
use Rattle.kmipa_stream.specs.declared.seen.Seen.{Seen}
use Rattle.kmipa_stream.specs.declared.seen.SeenCall.{SeenCall}
use Rattle.kmipa_stream.specs.declared.seen.Held.TheVariants.{Released}
use Rattle.kmipa_stream.proofs.ListLemmas.{grown_at, set_cases}
use Rattle.kmipa_stream.proofs.AheadLemmas.{ahead_less, ahead_open, closed_as, found_grows}
use Rattle.kmipa_stream.proofs.OrderLemmas.{recorded_in}
use Rattle.kmipa_stream.proofs.SeeingLemmas.{end_back}

-- where fewer transcripts are ahead, what is known of them stays
module _ (closed closed' : Bool) (marks marks' : List MarkOf) (less : (all : List MarkOf) → IsAhead closed' marks' all → IsAhead closed marks all) where
  pub read_on : (lowest : Option Found) (begin : ℕ) → WasRead closed marks lowest begin → WasRead closed' marks' lowest begin
  read_on lowest begin (inl inside) = inl (λ all a. inside all (less all a))
  read_on lowest begin (inr found) = inr found

  module _ (turns : List Turn) (declared : DeclarationOf) where
    finds_on : (count : ℕ) (last : Option ℤ) (counts : Counts) (m : Meaning) (f : Finding) → FindsSo closed marks turns declared count last counts m f → FindsSo closed' marks' turns declared count last counts m f
    finds_on count last counts m Possible h = (h.0, λ all calls order a are o. h.1 all calls order (less all a) are o)
    finds_on count last counts m (No refused stamp) h = ((λ all calls order a are o. h.0 all calls order (less all a) are o), (λ all a. h.1 all (less all a)))
    finds_on count last counts m (Faulty f) h = λ all calls a are. h all calls (less all a) are

    pub replays_on : (r : Replay) → Replays closed marks turns declared r → Replays closed' marks' turns declared r
    replays_on r h = record {
      same = h.same;
      named = h.named;
      rules = h.rules;
      grants = h.grants;
      within = h.within;
      formed = λ all calls a are. h.formed all calls (less all a) are;
      finding = finds_on r.formed r.last r.counts _ r.finding h.finding;
    }

-- one mark more
module _ (marks : List MarkOf) (mark : MarkOf) (turns : List Turn) (declared : DeclarationOf) where
  abbrev fewer : (all : List MarkOf) → IsAhead false (marks ++ mark ∷ []) all → IsAhead false marks all
  fewer all a = ahead_less marks (mark ∷ []) all a

  pub read_kept : (lowest : Option Found) (old new : List SeenCall) → KeepReleased old new → WereRead false marks lowest old → WereRead false (marks ++ mark ∷ []) lowest new
  read_kept lowest old new kept were = λ place s at is.
      let t = kept place s at is in
      let P : ℕ → Type 0 = λ b. WasRead false (marks ++ mark ∷ []) lowest b in
      subst P t.3 (read_on false false marks (marks ++ mark ∷ []) fewer lowest t.0.begin (were place t.0 t.1 t.2))

  pub stands_on : (old new : Auditor) → Stands false marks turns declared old → AreSeen (marks ++ mark ∷ []) new.seen → KeepReleased old.seen.calls.items new.seen.calls.items
      → Wait (marks ++ mark ∷ []) turns old.replay.formed new.ends → new.lowest ≡ old.lowest → new.replay ≡ old.replay → Stands false (marks ++ mark ∷ []) turns declared new
  stands_on old new s seen kept ends lowest replay =
      let P : Option Found → Type 0 = λ l. WereRead false (marks ++ mark ∷ []) l new.seen.calls.items in
      let Q : Option Found → Type 0 = λ l. IsFound (marks ++ mark ∷ []) l in
      let R : Replay → Type 0 = λ r. Replays false (marks ++ mark ∷ []) turns declared r in
      let W : Replay → Type 0 = λ r. Wait (marks ++ mark ∷ []) turns r.formed new.ends in
      record {
        seen = seen;
        ends = subst W (sym replay) ends;
        read = subst P (sym lowest) (read_kept old.lowest old.seen.calls.items new.seen.calls.items kept s.read);
        found = subst Q (sym lowest) (found_grows marks (mark ∷ []) old.lowest s.found);
        replay = subst R (sym replay) (replays_on false false marks (marks ++ mark ∷ []) fewer turns declared old.replay s.replay);
      }

-- a begin mark ends no call
pub wait_on : (marks : List MarkOf) (n : ℤ) (client asked : List ℕ) (turns : List Turn) (count : ℕ) (e : Ends) → Wait marks turns count e → Wait (marks ++ begins n client asked ∷ []) turns count e
wait_on marks n client asked turns count e w = record {
  are = record {
    each = λ place x at. let h = w.are.each place x at in (h.0, grown_at marks (begins n client asked ∷ []) x.place _ h.1);
    all = λ number end a h. elim (end_back marks (begins n client asked) number end a h) [ inl k ↦ w.are.all number end a k | inr p ↦ (let c = p.1 in absurd cc) ];
    ascend = w.are.ascend;
  };
  within = w.within;
  passed = w.passed;
}

-- at the end of the transcript
pub stands_closed : (marks : List MarkOf) (turns : List Turn) (declared : DeclarationOf) (a : Auditor) → Stands false marks turns declared a → Stands true marks turns declared a
stands_closed marks turns declared a s = record {
  seen = s.seen;
  ends = s.ends;
  read = λ place x at is. read_on false true marks marks (λ all h. ahead_open marks all h) a.lowest x.begin (s.read place x at is);
  found = s.found;
  replay = replays_on false true marks marks (λ all h. ahead_open marks all h) turns declared a.replay s.replay;
}

pub standing_closed : (a : Auditor) → Standing false a → Standing true a
standing_closed a s = record { marks = s.marks; turns = s.turns; declared = s.declared; stands = stands_closed s.marks s.turns s.declared a s.stands }

-- a call is read and let go
pub read_more : (closed : Bool) (marks : List MarkOf) (lowest lower : Option Found) (old new : List SeenCall) (place : ℕ) (s : SeenCall) → new ≡ set old place (released s) → WereRead closed marks lowest old
    → ((begin : ℕ) → IsFoundBy lowest begin → IsFoundBy lower begin) → WasRead closed marks lower s.begin → WereRead closed marks lower new
read_more closed marks lowest lower old new place s put were below here = λ other t at is.
    let P : List SeenCall → Type 0 = λ l. slice_get l other ≡ Some t in
    by other t is (set_cases old place other (released s) t (subst P put at))
  where
    on : (begin : ℕ) → WasRead closed marks lowest begin → WasRead closed marks lower begin
    on begin (inl inside) = inl inside
    on begin (inr found) = inr (below begin found)

    by : (other : ℕ) (t : SeenCall) → t.held ≡ Released → ((other ≡ place) × (released s ≡ t)) ⊎ ((other ≢ place) × (slice_get old other ≡ Some t)) → WasRead closed marks lower t.begin
    by other t is (inl p) = let Q : ℕ → Type 0 = λ b. WasRead closed marks lower b in subst Q (ap (λ (x : SeenCall). x.begin) p.1) here
    by other t is (inr p) = on t.begin (were other t p.1 is)

-- where it is inside
pub read_inside : (closed : Bool) (marks : List MarkOf) (lowest : Option Found) (begin : ℕ) (c : CallOf) → IsRecordedAhead closed marks c → c.begin ≡ begin → WasRead closed marks lowest begin
read_inside closed marks lowest begin c x same = inl (λ all a. (c, x all a, same))

-- the call at one place is let go, and the others are as before
pub lets_go_at : (old new : List SeenCall) (place : ℕ) (z : SeenCall) → new ≡ set old place (released z) → LetsGoAt old new place
lets_go_at old new place z e = record {
  long = ap length e ∙ length-set old place (released z);
  each = λ other s at. let P : List SeenCall → Type 0 = λ l. slice_get l other ≡ Some s in by other s (set_cases old place other (released z) s (subst P e at));
}
  where
    by : (other : ℕ) (s : SeenCall) → ((other ≡ place) × (released z ≡ s)) ⊎ ((other ≢ place) × (slice_get old other ≡ Some s)) → (s.held ≡ Released) ⊎ ((other ≢ place) × (slice_get old other ≡ Some s))
    by other s (inl p) = inl (sym (ap (λ (x : SeenCall). x.held) p.1))
    by other s (inr p) = inr p

-- one place more of which nothing is held
pub released_more : (old new : List SeenCall) (place : ℕ) → LetsGoAt old new place → ((other : ℕ) (s : SeenCall) → other < place → slice_get old other ≡ Some s → s.held ≡ Released)
    → (other : ℕ) (s : SeenCall) → other < place + 1 → slice_get new other ≡ Some s → s.held ≡ Released
released_more old new place go below other s h at = by (go.each other s at)
  where
    by : (s.held ≡ Released) ⊎ ((other ≢ place) × (slice_get old other ≡ Some s)) → s.held ≡ Released
    by (inl is) = is
    by (inr p) = below other s (let differs = p.0 in omega arith) p.1

-- a turn that names a number which no mark begins, at the end of the transcript
pub unknown_ahead : (closed : Bool) (marks : List MarkOf) (turns : List Turn) (declared : DeclarationOf) (k : ℕ) (turn : TurnOf) (seen : Seen) → closed ≡ true → AreSeen marks seen → value_at seen.places turn.call ≡ None
    → slice_get (map turn_of turns) k ≡ Some turn → RefusesTurnAhead closed marks turns declared k UnknownCall
unknown_ahead closed marks turns declared k turn seen e are free there = λ all calls a cs.
    unknown turn.call (turn, there, refl)
    (λ has.
    let x = recorded_in all a.recorded calls cs has.0 has.1 in
    let P : List MarkOf → Type 0 = λ ms. HasBegin ms has.0.number has.0.begin x.asked in
    let n = are.all has.0.number has.0.begin x.asked (subst P (closed_as closed marks all e a) x.carried) in
    let v = are.noted n.0 n.1.0 n.1.1 in
    let Q : ℤ → Type 0 = λ z. value_at seen.places z ≡ Some n.0 in
    let w = subst Q (n.1.2 ∙ has.2) v in
    absurd cc) refl

-- no call has begun
pub none_read : (closed : Bool) (seen : Seen) → AreSeen [] seen → WereRead closed [] None seen.calls.items
none_read closed seen are place s at is = absurd (let b = (are.each place s at).begun.there in cc)

-- where it is outside
pub read_outside : (closed : Bool) (marks : List MarkOf) (lowest : Option Found) (found : Found) (old new : List SeenCall) (place : ℕ) (s : SeenCall) → new ≡ set old place (released s)
    → WereRead closed marks lowest old → IsLower lowest s.begin found → WereRead closed marks (Some found) new
read_outside closed marks lowest found old new place s put were low = read_more closed marks lowest (Some found) old new place s put were (λ begin h. low.below begin h) (inr low.least)

-- what holds of a result that is no error
pub on_ok : (r : Result (Unit {0}) AllocError) (P : Type 0) → OnOk r P → is_ok r ≡ true → P
on_ok (Ok done) P h e = h
on_ok (Err error) P h e = absurd cc
