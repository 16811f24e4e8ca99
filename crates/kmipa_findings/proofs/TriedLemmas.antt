-- Calls as they are tried, one after the other; and when they are sure.
use Rattle.std.proofs.Common.{◌≡◌, ◌<◌, ◌⊎◌, inl, inr, ℕ, ◌+◌, List, [], ◌∷◌, ◌++◌, map, length, take, Some, None, Option, slice_get, refl, sym, ap, ◌∙◌, subst, arith, add-one}
use Rattle.std.specs.Prelude.{IfSome, IsSome}
use Rattle.std.proofs.lemmas.List.{length-map}
use Rattle.std.proofs.lemmas.Option.{slice_get_within}
use Rattle.kmipa_record.specs.Declarations.{DeclarationOf}
use Rattle.kmipa_record.specs.Marks.{MarkOf}
use Rattle.kmipa_record.specs.Marks
use Rattle.kmipa_record.specs.Witnesses.{TurnOf, turn_of}
use Rattle.kmipa_record.specs.declared.turn.Turn.{Turn}
use Rattle.kmipa_msgs.specs.declared.rules.Visibility.TheVariants.{Everyone}
use Rattle.kmipa_check.specs.Grants.{GrantsOf, GrantsNothing, grants_declared}
use Rattle.kmipa_check.proofs.OnceLemmas.{IsOnce}
use Rattle.kmipa_check.proofs.PlaceLemmas.{at_contains, get_at, pushed_at, some_at}
use Rattle.kmipa_check.proofs.RunLemmas.{take_next}
use Rattle.kmipa_places.specs.declared.call.Readable.{Readable}
use Rattle.kmipa_turns.specs.Recorded.{RecordedOf, AreRecorded, recorded_of}
use Rattle.kmipa_turns.specs.declared.recorded.Recorded.{Recorded}
use Rattle.kmipa_turns.specs.Steps.{StepOf, IsStep}
use Rattle.kmipa_trail.proofs.MissingLemmas.{number_of}
use Rattle.kmipa_trail.proofs.SameCallsLemmas.{numbered_once, same_calls}
use Rattle.kmipa_trail.proofs.WitnessLemmas.{same_call}
use Rattle.kmipa_findings.specs.Choices.{HasOrder, HaveEnded, IsPlainBeside, bare_of}
use Rattle.kmipa_findings.specs.Exhausting.{AreSure, AreTried, EndsBy, EndsPlainly, EndsRightly, HasNoStep, IsSure, IsTried, SomeWaits}
use Rattle.kmipa_findings.specs.Findings.{IsUnexplained}
use Rattle.kmipa_findings.specs.Seeking.{IsDecided}
use Rattle.kmipa_findings.specs.declared.descending.End.{End}
use Rattle.kmipa_findings.specs.declared.descending.End.TheVariants as end
use Rattle.kmipa_findings.specs.declared.trial.Trial.{Trial}
use Rattle.kmipa_findings.specs.declared.trial.Way.{Way}
use Rattle.kmipa_findings.specs.declared.trial.Way.TheVariants.{Waits}
use Rattle.kmipa_findings.proofs.DeadLemmas.{stands_at}

-- the first calls are tried so
abbrev pub AreTriedUpTo : GrantsOf → List RecordedOf → List Trial → Type 0
AreTriedUpTo g calls trials = (place : ℕ) (c : RecordedOf) (t : Trial) → slice_get calls place ≡ Some c → slice_get trials place ≡ Some t → IsTried g c t.way

pub tried_more : (g : GrantsOf) (calls : List RecordedOf) (trials : List Trial) (t : Trial) (c : RecordedOf) → slice_get calls (length trials) ≡ Some c → IsTried g c t.way → AreTriedUpTo g calls trials
    → AreTriedUpTo g calls (trials ++ t ∷ [])
tried_more g calls trials t c here tried so_far place d u at there = by (pushed_at trials t place u there)
  where
    by : (slice_get trials place ≡ Some u) ⊎ ((place ≡ length trials) × (t ≡ u)) → IsTried g d u.way
    by (inl before) = so_far place d u at before
    by (inr last) =
        let S : ℕ → Type 0 = λ n. slice_get calls n ≡ Some c in
        let stands = subst S (sym last.0) here in
        let same : c ≡ d = cc in
        let T : Trial → Type 0 = λ x. IsTried g d x.way in
        let C : RecordedOf → Type 0 = λ x. IsTried g x t.way in
        subst T last.1 (subst C same tried)

-- a recording that is plain beside what is set aside is sure
pub plain_sure : (marks : List MarkOf) (declared : DeclarationOf) (calls : List RecordedOf) → Marks.AreRecorded marks → AreRecorded marks calls → IsPlainBeside marks declared
    → GrantsNothing (grants_declared declared) → declared.settings.visibility ≡ Everyone → AreSure marks declared calls
plain_sure marks declared calls right are plain nothing seen =
    let C : List RecordedOf → Type 0 = λ cs. AreSure marks declared cs in
    subst C (same_calls marks right plain.calls calls plain.are are) (record {
      right = right;
      are = plain.are;
      ended = plain.ended;
      stepped = λ place c at. stepped place c at;
      nothing = nothing;
      seen = seen;
    })
  where
    once : IsOnce (map number_of plain.calls)
    once = numbered_once marks right plain.calls plain.are

    stepped : (place : ℕ) (c : RecordedOf) → slice_get plain.calls place ≡ Some c → (s : StepOf) × IsStep (grants_declared declared) c (bare_of c) s × HasOrder s.taken
    stepped place c at =
        let s = some_at plain.steps place (omega (arith, slice_get_within plain.calls place c at, plain.bare.counted, length-map plain.calls bare_of)) in
        let f = plain.bare.formed place s.0 s.1 in
        let there = f.there in
        let mine = get_at bare_of plain.calls place c at in
        let turn : f.turn ≡ bare_of c = cc in
        let p = at_contains plain.calls f.call f.known in
        let number : f.call.number ≡ c.number = sym f.step.named ∙ ap (λ (t : TurnOf). t.call) turn in
        let call : f.call ≡ c = same_call plain.calls once p.0 place f.call c p.1 at number in
        let T : TurnOf → Type 0 = λ t. IsStep (grants_declared declared) f.call t s.0 in
        let D : RecordedOf → Type 0 = λ d. IsStep (grants_declared declared) d (bare_of c) s.0 in
        (s.0, subst D call (subst T turn f.step), plain.ordered place s.0 s.1)

-- where a call waits they aren't
pub waits_unsure : (marks : List MarkOf) (declared : DeclarationOf) (trials : List Trial) → SomeWaits trials → IsSure marks declared trials → ⊥
waits_unsure marks declared trials w h =
    let c = some_at h.calls w.place (omega (arith, w.within, h.tried.counted)) in
    let own = stands_at marks declared trials h w.place c.0 c.1 in
    w.none own.0 own.1

pub stepless_unsure : (marks : List MarkOf) (declared : DeclarationOf) (calls : List RecordedOf) → HasNoStep (grants_declared declared) calls → AreSure marks declared calls → ⊥
stepless_unsure marks declared calls w h =
    let own = h.stepped w.place w.call w.there in
    w.none own.0 own.1

-- ---- how a search ends

-- of these calls, where they are tried so
pub ends_rightly : (marks : List MarkOf) (declared : DeclarationOf) (calls : List RecordedOf) (trials : List Trial) (e : End) → AreTried (grants_declared declared) calls trials → EndsBy marks declared trials e
    → EndsRightly marks declared calls e
ends_rightly marks declared calls trials (end.Whole path) tried by = λ guessed sure. by guessed (record { calls = calls; sure = sure; tried = tried })
ends_rightly marks declared calls trials end.Exhausted tried by = λ sure. by (record { calls = calls; sure = sure; tried = tried })
ends_rightly marks declared calls trials end.Spent tried by = tt
ends_rightly marks declared calls trials (end.Over after) tried by = tt

-- of a recording, where these are the calls that have ended
module _ (marks : List MarkOf) (declared : DeclarationOf) (calls ended : List RecordedOf) (right : Marks.AreRecorded marks) (are : AreRecorded marks calls) (all : HaveEnded calls → ended ≡ calls) where
  decided_by : (AreSure marks declared ended → IsUnexplained marks declared) → IsDecided marks declared
  decided_by f plain nothing seen =
      let sure = plain_sure marks declared calls right are plain nothing seen in
      let P : List RecordedOf → Type 0 = λ cs. AreSure marks declared cs in
      f (subst P (sym (all sure.ended)) sure)

  pub ends_plainly : (e : End) → EndsRightly marks declared ended e → EndsPlainly marks declared e
  ends_plainly (end.Whole path) by = λ guessed. decided_by (λ sure. absurd (by guessed sure))
  ends_plainly end.Exhausted by = decided_by by
  ends_plainly end.Spent by = tt
  ends_plainly (end.Over after) by = tt

-- ---- one call

pub none_bare : (g : GrantsOf) (c : RecordedOf) (t : TurnOf) → t ≡ bare_of c → ((s : StepOf) → IsStep g c t s → ⊥) → (s : StepOf) → IsStep g c (bare_of c) s → ⊥
none_bare g c t is none s i = let T : TurnOf → Type 0 = λ x. IsStep g c x s in none s (subst T (sym is) i)

way_tried : (g : GrantsOf) (c : RecordedOf) (w : Way) (said : Readable) → w ≡ Waits said → ((s : StepOf) → IsStep g c (bare_of c) s → ⊥) → IsTried g c w
way_tried g c w said is none = let T : Way → Type 0 = λ x. IsTried g c x in subst T (sym is) none

-- a call without a step waits
pub waits_tried : (g : GrantsOf) (c : RecordedOf) (o : Option Trial) → ((s : StepOf) → IsStep g c (bare_of c) s → ⊥) → IfSome o (λ t. (said : Readable) × (t.way ≡ Waits said))
    → IfSome o (λ t. IsTried g c t.way)
waits_tried g c None none waits = tt
waits_tried g c (Some t) none waits = way_tried g c t.way waits.0 waits.1 none

-- the turns are bare, so is each
pub bare_at : (turns : List Turn) (calls : List Recorded) → map turn_of turns ≡ map bare_of (map recorded_of calls) → (place : ℕ) (t : Turn) (c : Recorded) → slice_get turns place ≡ Some t
    → slice_get calls place ≡ Some c → turn_of t ≡ bare_of (recorded_of c)
bare_at turns calls are place t c at there =
    let T : List TurnOf → Type 0 = λ ts. slice_get ts place ≡ Some (turn_of t) in
    let own = subst T are (get_at turn_of turns place t at) in
    let bare = get_at bare_of (map recorded_of calls) place (recorded_of c) (get_at recorded_of calls place c there) in
    let same : turn_of t ≡ bare_of (recorded_of c) = cc in
    same

-- ---- the calls that have ended

pub ended_more : (calls old new : List Recorded) (place : ℕ) → place < length calls → HaveEnded (map recorded_of calls)
    → ((c : Recorded) → slice_get calls place ≡ Some c → IsSome c.end → new ≡ old ++ c ∷ []) → old ≡ take place calls → new ≡ take (place + 1) calls
ended_more calls old new place below ended more is =
    let c = some_at calls place below in
    more c.0 c.1 (ended place (recorded_of c.0) (get_at recorded_of calls place c.0 c.1)) ∙ ap (λ (xs : List Recorded). xs ++ c.0 ∷ []) is
    ∙ sym (ap (λ (n : ℕ). take n calls) (add-one place) ∙ take_next calls place c.0 c.1)
