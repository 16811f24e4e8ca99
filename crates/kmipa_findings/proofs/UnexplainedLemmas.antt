-- Where the order is forced up to a turn that is refused, no order of the calls explains every answer.
use Rattle.std.proofs.Common.{◌≡◌, suc, ℤ, List, [], ◌∷◌, Contains, Option, Some, slice_get, subst, arith}
use Rattle.std.proofs.lemmas.Option.{get_or_from_slice_get, slice_get_within}
use Rattle.kmipa_record.specs.Declarations.{DeclarationOf}
use Rattle.kmipa_record.specs.Marks.{MarkOf}
use Rattle.kmipa_record.specs.Marks
use Rattle.kmipa_record.specs.Witnesses.{TurnOf}
use Rattle.kmipa_ops.specs.declared.why.Why.TheVariants.{EarlierCallLate}
use Rattle.kmipa_check.specs.Grants.{GrantsNothing, grants_declared}
use Rattle.kmipa_check.specs.declared.verdict.Refused.{Refused}
use Rattle.kmipa_check.proofs.PlaceLemmas.{at_contains}
use Rattle.kmipa_turns.specs.Recorded.{RecordedOf, AreRecorded, IsRecorded}
use Rattle.kmipa_turns.specs.Steps.{StepOf}
use Rattle.kmipa_trail.specs.Orders.{IsOrder}
use Rattle.kmipa_trail.specs.Owners.{in_sight}
use Rattle.kmipa_trail.specs.Verdicts.{IsRefused}
use Rattle.kmipa_trail.proofs.RefusedLemmas.{refused_is_never_lem}
use Rattle.kmipa_trail.proofs.SameCallsLemmas.{numbered_once, same_calls}
use Rattle.kmipa_trail.proofs.WitnessLemmas.{one_order_lem}
use Rattle.kmipa_findings.specs.Findings.{AreFound, FindingOf, IsNo, IsUnexplained, left_out}
use Rattle.kmipa_findings.specs.Forced.{IsForced}
use Rattle.kmipa_findings.proofs.ForcedLemmas.{answered, begins_as}
use Rattle.kmipa_findings.proofs.PrefixLemmas.{refused_too}
use Rattle.kmipa_findings.proofs.SightLemmas.{raw_placed, seen_begins}

recorded_of : (marks : List MarkOf) (calls : List RecordedOf) (c : RecordedOf) → AreRecorded marks calls → Contains calls c → IsRecorded marks c
recorded_of marks calls c are has =
    let p = at_contains calls c has in
    let P : RecordedOf → Type 0 = λ x. IsRecorded marks x in
    subst P (get_or_from_slice_get calls p.0 c c p.1) (are.recorded p.0 c (slice_get_within calls p.0 c p.1))

pub unexplained : (marks : List MarkOf) (declared : DeclarationOf) (turns : List TurnOf) (r : Refused) (stamp : Option ℤ) (calls : List RecordedOf) (order : List StepOf) → Marks.AreRecorded marks
    → AreRecorded marks calls → GrantsNothing (grants_declared declared) → (r.why ≡ EarlierCallLate → ⊥) → IsOrder (grants_declared declared) calls turns order → IsForced calls turns order r.turn
    → IsNo marks declared turns r stamp → IsUnexplained marks declared
unexplained marks declared turns r stamp calls order right are nothing timely o forced told others tally aside a =
    let g = grants_declared declared in
    let once = numbered_once marks right calls are in
    let P : List RecordedOf → Type 0 = λ cs. IsOrder g cs others a.steps in
    let other = subst P (same_calls marks right a.calls calls a.are are) a.order in
    let Q : List RecordedOf → Type 0 = λ cs. IsOrder g cs turns told.order in
    let formed = subst Q (same_calls marks right told.calls calls told.are are) told.formed in
    let R : List StepOf → Type 0 = λ steps. IsRefused declared (in_sight declared steps) r stamp in
    let refused : IsRefused declared (in_sight declared order) r stamp = subst R (one_order_lem g calls turns told.order order once formed o) told.refused in
    let same = begins_as g nothing calls once (λ c end has ended. answered marks c end (recorded_of marks calls c are has).ended ended) turns order o r.turn forced others a.steps other aside
    (raw_placed declared a.steps a.placed)
    (suc refused.turn) (let reported = refused.reported in omega (arith, reported)) in
    refused_is_never_lem declared (in_sight declared a.steps) r stamp a.start a.last
    (refused_too declared (in_sight declared order) (in_sight declared a.steps) r stamp refused (seen_begins declared a.steps order (suc refused.turn) same) a.placed timely) a.placed a.described a.linked

-- the first finding is the no that is answered where all are left out
pub first_no : (marks : List MarkOf) (declared : DeclarationOf) (turns : List TurnOf) (findings : List FindingOf) (f : FindingOf) → slice_get findings 0 ≡ Some f → AreFound marks declared turns findings
    → IsNo marks declared (left_out turns findings) f.refused f.stamp
first_no marks declared turns [] f at found = absurd cc
first_no marks declared turns (x ∷ xs) f at found =
    let same : x ≡ f = cc in
    let P : FindingOf → Type 0 = λ y. IsNo marks declared (left_out turns (x ∷ xs)) y.refused y.stamp in
    subst P same found.0
