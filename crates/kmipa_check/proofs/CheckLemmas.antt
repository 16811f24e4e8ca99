-- What reading, ordering and replaying the calls come to together.
use Rattle.std.proofs.Common.{◌≢◌, ◌<◌, ℕ, ℤ, pos, ◌≤ℤ◌, List, map, length, get_or, sym, subst, arith, Result, Ok, Err}
use Rattle.std.specs.Prelude.{All, AllPairs}
use Rattle.std.proofs.lemmas.List.{length-map, get_or-map}
use Rattle.std.proofs.lemmas.Option.{get_or_from_slice_get, slice_get_within}
use Rattle.kmipa_record.specs.Declarations.{DeclarationOf}
use Rattle.kmipa_record.specs.Marks.{MarkOf, AreRecorded, IsCallNumber, begun}
use Rattle.kmipa_record.specs.Marks
use Rattle.kmipa_record.specs.Witnesses.{TurnOf}
use Rattle.kmipa_check.specs.Calls.{CallOf, call_of, AreCalls, IsRecorded}
use Rattle.kmipa_check.specs.Grants.{GrantsOf, grants_declared}
use Rattle.kmipa_check.specs.Steps.{StepOf}
use Rattle.kmipa_check.specs.Orders.{IsOrder, AreFormed, OrderFault}
use Rattle.kmipa_check.specs.Replays.{TellsRun, AllTakable}
use Rattle.kmipa_check.specs.Verdicts.{Checks}
use Rattle.kmipa_check.specs.CallReading.{CallsFault}
use Rattle.kmipa_record.specs.declared.call.Call.{Call}
use Rattle.kmipa_check.specs.declared.fault.CheckFault.{CheckFault}
use Rattle.kmipa_check.specs.declared.fault.CheckFault.TheVariants.{Outside, Witness, Memory}
use Rattle.kmipa_check.specs.declared.verdict.Verdict.{Verdict}
use Rattle.kmipa_check.specs.declared.verdict.Verdict.TheVariants.{Yes, No}
use Rattle.kmipa_check.proofs.PlaceLemmas.{at_contains}
use Rattle.kmipa_check.proofs.PlacesLemmas.{step_taken}
use Rattle.kmipa_check.proofs.ReadableLemmas.{step_readable}
use Rattle.kmipa_check.proofs.ReplayLemmas.{replayed_accepts}
use Rattle.kmipa_check.proofs.WholeOrderLemmas.{order_takes}

-- each call of a recorded transcript has a number from 1 on
pub calls_numbered : (marks : List MarkOf) (calls : List Call) → AreRecorded marks → AreCalls marks (map call_of calls) → All (λ (c : Call). pos 1 ≤ℤ c.number) calls
calls_numbered marks calls r are k d below =
    let c : Call = get_or calls k d in
    let within : k < length (map call_of calls) = omega (arith, length-map calls call_of) in
    let P : CallOf → Type 0 = λ x. IsRecorded marks x in
    let here : IsRecorded marks (call_of c) = subst P (get_or-map call_of calls k d (call_of d) below) (are.recorded k (call_of d) within) in
    let mark : MarkOf = Marks.begins c.number here.carried.client here.asked in
    let Q : MarkOf → Type 0 = λ m. IsCallNumber (Marks.call_of m) in
    let number : IsCallNumber c.number = subst Q (get_or_from_slice_get marks c.begin mark mark here.carried.there)
    (r.numbered c.begin mark (slice_get_within marks c.begin mark here.carried.there)) in
    number.least

-- and no number stands twice
pub calls_once : (marks : List MarkOf) (calls : List CallOf) → AreRecorded marks → AreCalls marks calls → AllPairs (λ (x y : ℤ). x ≢ y) (map (λ (c : CallOf). c.number) calls)
calls_once marks calls r are =
    let P : List ℤ → Type 0 = λ xs. AllPairs (λ (x y : ℤ). x ≢ y) xs in
    subst P (sym are.numbers) r.once

-- each step can be taken
pub steps_takable : (g : GrantsOf) (marks : List MarkOf) (calls : List CallOf) (turns : List TurnOf) (count : ℕ) (steps : List StepOf) → All (IsRecorded marks) calls → AreFormed g calls turns count steps → AllTakable steps
steps_takable g marks calls turns count steps each formed s has =
    let p = at_contains steps s has in
    let f = formed.each p.0 s p.1 in
    let P : CallOf → Type 0 = λ c. IsRecorded marks c in
    (step_readable g marks f.call f.turn s (subst P f.known.2 (each f.known.0 f.call f.known.1)) f.step, step_taken g f.call f.turn s f.step)

-- a fault of the order
pub order_faults : (marks : List MarkOf) (declared : DeclarationOf) (turns : List TurnOf) (calls : List CallOf) (f : CheckFault) → AreCalls marks calls
    → OrderFault (grants_declared declared) calls turns f → Checks marks declared turns (Err f)
order_faults marks declared turns calls (Outside number side o) are h = absurd h
order_faults marks declared turns calls (Witness f) are h = (calls, are, h)
order_faults marks declared turns calls Memory are h = tt

-- a fault of a message
pub call_faults : (marks : List MarkOf) (declared : DeclarationOf) (turns : List TurnOf) (f : CheckFault) → CallsFault marks f → Checks marks declared turns (Err f)
call_faults marks declared turns (Outside number side o) h = h
call_faults marks declared turns (Witness f) h = absurd h
call_faults marks declared turns Memory h = tt

-- what the replay tells
pub run_reported : (marks : List MarkOf) (declared : DeclarationOf) (turns : List TurnOf) (calls : List CallOf) (steps : List StepOf) (result : Result Verdict CheckFault)
    → AreCalls marks calls → IsOrder (grants_declared declared) calls turns steps → TellsRun declared steps result → Checks marks declared turns result
run_reported marks declared turns calls steps (Ok Yes) are o h = replayed_accepts marks declared turns calls steps h.0 are o (order_takes (grants_declared declared) calls turns steps o) h.1
run_reported marks declared turns calls steps (Ok (No refused)) are o h = (calls, are, (steps, o, h))
run_reported marks declared turns calls steps (Err Memory) are o h = tt
run_reported marks declared turns calls steps (Err (Outside number side o)) are p h = absurd h
run_reported marks declared turns calls steps (Err (Witness f)) are o h = absurd h
