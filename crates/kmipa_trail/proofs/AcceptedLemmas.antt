-- Of an accepted witness a check answers yes.
use Rattle.std.proofs.Common.{◌≡◌, ◌⊎◌, inl, inr, ℕ, ℤ, List, Option, Result, Ok, Err, refl, subst}
use Rattle.kmipa_record.specs.Declarations.{DeclarationOf}
use Rattle.kmipa_record.specs.Marks.{MarkOf}
use Rattle.kmipa_record.specs.Marks
use Rattle.kmipa_record.specs.Witnesses.{TurnOf}
use Rattle.kmipa_check.specs.Grants.{grants_declared}
use Rattle.kmipa_check.specs.declared.fault.WitnessKind.{WitnessKind}
use Rattle.kmipa_check.specs.declared.verdict.Refused.{Refused}
use Rattle.kmipa_turns.specs.Recorded.{RecordedOf, AreRecorded}
use Rattle.kmipa_turns.specs.Steps.{StepOf}
use Rattle.kmipa_trail.specs.Laws.{IsYes}
use Rattle.kmipa_trail.specs.Orders.{IsOrder, WitnessFaultAt}
use Rattle.kmipa_trail.specs.Owners.{in_sight}
use Rattle.kmipa_trail.specs.Tallies.{TallyOf}
use Rattle.kmipa_trail.specs.Verdicts.{Checks, IsAccepted, IsRefused}
use Rattle.kmipa_trail.specs.declared.fault.Fault.{Fault}
use Rattle.kmipa_trail.specs.declared.fault.Fault.TheVariants.{Witness, Memory}
use Rattle.kmipa_trail.specs.declared.verdict.Verdict.{Verdict}
use Rattle.kmipa_trail.specs.declared.verdict.Verdict.TheVariants.{Yes, No}
use Rattle.kmipa_trail.proofs.RefusedLemmas.{refused_is_never_lem}
use Rattle.kmipa_trail.proofs.SameCallsLemmas.{numbered_once, same_calls}
use Rattle.kmipa_trail.proofs.WitnessLemmas.{one_order_lem, order_right}

module _ (marks : List MarkOf) (declared : DeclarationOf) (turns : List TurnOf) (tally : TallyOf) (r : Marks.AreRecorded marks) (a : IsAccepted marks declared turns tally) where
  never_refused : (v : Refused) (stamp : Option ℤ) (calls : List RecordedOf) (order : List StepOf) → AreRecorded marks calls → IsOrder (grants_declared declared) calls turns order
      → IsRefused declared (in_sight declared order) v stamp → ⊥
  never_refused v stamp calls order are o refused =
      let e : calls ≡ a.calls = same_calls marks r calls a.calls are a.are in
      let P : List RecordedOf → Type 0 = λ cs. IsOrder (grants_declared declared) cs turns order in
      let same : order ≡ a.steps = one_order_lem (grants_declared declared) a.calls turns order a.steps (numbered_once marks r a.calls a.are) (subst P e o) a.order in
      let Q : List StepOf → Type 0 = λ steps. IsRefused declared (in_sight declared steps) v stamp in
      refused_is_never_lem declared (in_sight declared a.steps) v stamp a.start a.last (subst Q same refused) a.placed a.described a.linked

  never_faulty : (at : ℕ) (kind : WitnessKind) (calls : List RecordedOf) → AreRecorded marks calls → WitnessFaultAt (grants_declared declared) calls turns at kind → ⊥
  never_faulty at kind calls are fault =
      let e : calls ≡ a.calls = same_calls marks r calls a.calls are a.are in
      let P : List RecordedOf → Type 0 = λ cs. WitnessFaultAt (grants_declared declared) cs turns at kind in
      order_right (grants_declared declared) a.calls turns (numbered_once marks r a.calls a.are) a.steps at kind a.order (subst P e fault)

  pub accepted_is_yes_lem : (result : Result Verdict Fault) → Checks marks declared turns result → IsYes result ⊎ (result ≡ Err Memory)
  accepted_is_yes_lem (Ok (Yes k)) h = inl tt
  accepted_is_yes_lem (Ok (No v stamp)) h = absurd (never_refused v stamp h.0 h.2.0 h.1 h.2.1 h.2.2)
  accepted_is_yes_lem (Err (Witness f)) h = absurd (never_faulty f.at f.kind h.0 h.1 h.2)
  accepted_is_yes_lem (Err Memory) h = inr refl
