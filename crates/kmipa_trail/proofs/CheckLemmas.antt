-- What ordering and replaying the calls come to together.
use Rattle.std.proofs.Common.{◌≢◌, ◌<◌, ℕ, ℤ, pos, ◌≤ℤ◌, All, List, map, length, get_or, Result, Ok, Err, sym, subst, arith}
use Rattle.std.specs.Prelude.{AllPairs}
use Rattle.std.proofs.lemmas.List.{length-map, get_or-map}
use Rattle.std.proofs.lemmas.Option.{get_or_from_slice_get, slice_get_within}
use Rattle.kmipa_record.specs.Declarations.{DeclarationOf}
use Rattle.kmipa_record.specs.Marks.{MarkOf, IsCallNumber}
use Rattle.kmipa_record.specs.Marks
use Rattle.kmipa_record.specs.Witnesses.{TurnOf}
use Rattle.kmipa_check.specs.Grants.{GrantsOf, grants_declared}
use Rattle.kmipa_check.proofs.PlaceLemmas.{at_contains}
use Rattle.kmipa_turns.specs.Laws.{StepsAreTakable}
use Rattle.kmipa_turns.specs.Recorded.{RecordedOf, AreRecorded, IsRecorded, recorded_of}
use Rattle.kmipa_turns.specs.Steps.{StepOf}
use Rattle.kmipa_turns.specs.declared.recorded.Recorded.{Recorded}
use Rattle.kmipa_trail.specs.Ordering.{AreFormed, OrderFault}
use Rattle.kmipa_trail.specs.Orders.{IsOrder}
use Rattle.kmipa_trail.specs.Owners.{in_sight}
use Rattle.kmipa_trail.specs.Replays.{AllTakable, TellsRun}
use Rattle.kmipa_trail.specs.Verdicts.{Checks}
use Rattle.kmipa_trail.specs.declared.fault.Fault.{Fault}
use Rattle.kmipa_trail.specs.declared.fault.Fault.TheVariants.{Witness, Memory}
use Rattle.kmipa_trail.specs.declared.verdict.Verdict.{Verdict}
use Rattle.kmipa_trail.specs.declared.verdict.Verdict.TheVariants.{Yes, No}

-- each call of a recorded transcript has a number from 1 on
pub calls_numbered : (marks : List MarkOf) (calls : List Recorded) → Marks.AreRecorded marks → AreRecorded marks (map recorded_of calls) → All (λ (c : Recorded). pos 1 ≤ℤ c.number) calls
calls_numbered marks calls r are k d below =
    let c : Recorded = get_or calls k d in
    let within : k < length (map recorded_of calls) = omega (arith, below, length-map calls recorded_of) in
    let P : RecordedOf → Type 0 = λ x. IsRecorded marks x in
    let here : IsRecorded marks (recorded_of c) = subst P (get_or-map recorded_of calls k d (recorded_of d) below) (are.recorded k (recorded_of d) within) in
    let mark : MarkOf = Marks.begins c.number (recorded_of c).client (recorded_of c).request in
    let Q : MarkOf → Type 0 = λ m. IsCallNumber (Marks.call_of m) in
    let number : IsCallNumber c.number = subst Q (get_or_from_slice_get marks c.begin mark mark here.begun)
    (r.numbered c.begin mark (slice_get_within marks c.begin mark here.begun)) in
    number.least

-- and no number stands twice
pub calls_once : (marks : List MarkOf) (calls : List RecordedOf) → Marks.AreRecorded marks → AreRecorded marks calls → AllPairs (λ (x y : ℤ). x ≢ y) (map (λ (c : RecordedOf). c.number) calls)
calls_once marks calls r are =
    let P : List ℤ → Type 0 = λ xs. AllPairs (λ (x y : ℤ). x ≢ y) xs in
    subst P (sym are.numbers) r.once

-- each step can be taken
pub steps_takable : (g : GrantsOf) (calls : List RecordedOf) (turns : List TurnOf) (count : ℕ) (steps : List StepOf) → StepsAreTakable → AreFormed g calls turns count steps → AllTakable steps
steps_takable g calls turns count steps law formed s has =
    let p = at_contains steps s has in
    let f = formed.each p.0 s p.1 in
    law g f.call f.turn s f.step

-- a fault of the order
pub order_faults : (marks : List MarkOf) (declared : DeclarationOf) (turns : List TurnOf) (calls : List RecordedOf) (f : Fault) → AreRecorded marks calls
    → OrderFault (grants_declared declared) calls turns f → Checks marks declared turns (Err f)
order_faults marks declared turns calls (Witness f) are h = (calls, are, h)
order_faults marks declared turns calls Memory are h = tt

-- what the replay tells
pub run_reported : (marks : List MarkOf) (declared : DeclarationOf) (turns : List TurnOf) (calls : List RecordedOf) (steps : List StepOf) (result : Result Verdict Fault)
    → AreRecorded marks calls → IsOrder (grants_declared declared) calls turns steps → TellsRun declared (in_sight declared steps) result → Checks marks declared turns result
run_reported marks declared turns calls steps (Ok (Yes tally)) are o h =
    record { calls = calls; are = are; steps = steps; order = o; placed = h.placed; start = h.start; described = h.described; last = h.last; linked = h.linked; tallied = h.tallied }
run_reported marks declared turns calls steps (Ok (No refused stamp)) are o h = (calls, are, (steps, o, h))
run_reported marks declared turns calls steps (Err Memory) are o h = tt
run_reported marks declared turns calls steps (Err (Witness f)) are o h = absurd h
