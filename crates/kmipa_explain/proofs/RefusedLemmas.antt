-- A no that a check gives can be explained.
use Rattle.std.proofs.Common.{◌≡◌, ◌≤◌, ℕ, ◌-◌, ◌<◌, List, map, length, get_or, Option, Some, Ok, Err, slice_get, refl, sym, ap, ◌∙◌, subst, arith}
use Rattle.kmipa_store.specs.Ledger.{Meaning}
use Rattle.kmipa_msgs.specs.Messages.{RulesOf, AskOf, AnswerOf, RequestOf, ResponseOf}
use Rattle.kmipa_ops.specs.declared.why.Why.{Why}
use Rattle.kmipa_ops.specs.declared.why.Why.TheVariants.{StampRunsBack, OperationDiffers}
use Rattle.std.proofs.lemmas.List.{length-map}
use Rattle.std.proofs.lemmas.Option.{slice_get_within}
use Rattle.kmipa_record.specs.Declarations.{DeclarationOf}
use Rattle.kmipa_record.specs.Marks.{MarkOf, AreRecorded, begins}
use Rattle.kmipa_record.specs.Witnesses.{TurnOf}
use Rattle.kmipa_batch.specs.Calls.{pairs_of}
use Rattle.kmipa_batch.specs.Refusals.{in_shape, in_item, SpeaksAtAlong}
use Rattle.kmipa_check.specs.Calls.{CallOf, AreCalls}
use Rattle.kmipa_check.specs.Grants.{GrantsOf, grants_declared}
use Rattle.kmipa_check.specs.Orders.{IsOrder}
use Rattle.kmipa_check.specs.Runs.{rules_declared}
use Rattle.kmipa_check.specs.Steps.{StepOf, order_of, step_of}
use Rattle.kmipa_check.specs.declared.step.Step.{Step}
use Rattle.kmipa_check.specs.Verdicts.{Checks, TellsVerdict, IsRefused, RefusedAt, RefusedPlace, late, runs_back, in_place}
use Rattle.kmipa_check.specs.Verdicts
use Rattle.kmipa_check.specs.declared.fault.CheckFault.{CheckFault}
use Rattle.kmipa_check.specs.declared.fault.CheckFault.TheVariants.{Outside, Witness, Memory}
use Rattle.kmipa_check.specs.declared.verdict.Refused.{Refused}
use Rattle.kmipa_check.specs.declared.verdict.Verdict.TheVariants.{No}
use Rattle.kmipa_check.proofs.CheckLemmas.{calls_once}
use Rattle.kmipa_check.proofs.OneAnswerLemmas.{one_answer_lem}
use Rattle.kmipa_check.proofs.OnceLemmas.{once_pairs}
use Rattle.kmipa_check.proofs.PlaceLemmas.{at_contains, mapped_at}
use Rattle.kmipa_check.proofs.RecordedLemmas.{recorded_at, same_calls}
use Rattle.kmipa_check.proofs.WholeOrderLemmas.{number_of, one_order_lem}
use Rattle.kmipa_explain.specs.Explainable.{IsBegun, HasPair, IsRefusedHere, IsExplainable}
use Rattle.kmipa_explain.specs.Places.{at_item}
use Rattle.kmipa_explain.proofs.PairLemmas.{at_next}
use Rattle.kmipa_explain.proofs.QuietLemmas.{no_stamp}
use Rattle.kmipa_explain.proofs.StandingLemmas.{refused_there}

module _ (rules : RulesOf) (m : Meaning) (request : RequestOf) (response : ResponseOf) (order : Option (List ℕ)) (count item : ℕ) (why : Why) where
  -- no item is refused for a stamp
  no_stamp_speaks : SpeaksAtAlong rules m request response order count item why → why ≡ StampRunsBack → ⊥
  no_stamp_speaks (in_shape place at judged first is) stamp = absurd cc
  no_stamp_speaks (in_item place at shaped its between placeholder ask answer so sound there refuted) stamp =
      no_stamp rules between placeholder response.stamp ask answer (refuted.named ∙ ap Some stamp)

  -- and for its operation one that has an answer
  pair_speaks : SpeaksAtAlong rules m request response order count item why → why ≡ OperationDiffers → (ask : AskOf) × (answer : AnswerOf) × (at_item (pairs_of request response) item ≡ Some (ask, answer))
  pair_speaks (in_shape place at judged first is) differs = absurd cc
  pair_speaks (in_item place at shaped its between placeholder ask answer so sound there refuted) differs =
      (ask, answer, ap (at_item (pairs_of request response)) at ∙ at_next (pairs_of request response) place ∙ there)

-- a stamp runs back only behind another turn
stamp_behind : (declared : DeclarationOf) (order : List StepOf) (turn : ℕ) (c : StepOf) (item : ℕ) (why : Why) → RefusedAt declared order turn c item why → why ≡ StampRunsBack → 1 ≤ turn
stamp_behind declared order turn c item why (in_place e (late l is)) stamp = absurd cc
stamp_behind declared order turn c item why (in_place e (runs_back kept back is)) stamp = omega (arith, back.2)
stamp_behind declared order turn c item why (Verdicts.in_item count h) stamp =
    absurd (no_stamp_speaks (rules_declared declared) h.known c.request c.response (order_of c) count item why h.speaks stamp)

-- operations differ only where there are two
operations_there : (declared : DeclarationOf) (order : List StepOf) (turn : ℕ) (c : StepOf) (item : ℕ) (why : Why) → RefusedAt declared order turn c item why → why ≡ OperationDiffers → HasPair c item
operations_there declared order turn c item why (in_place e (late l is)) differs = absurd cc
operations_there declared order turn c item why (in_place e (runs_back kept back is)) differs = absurd cc
operations_there declared order turn c item why (Verdicts.in_item count h) differs =
    pair_speaks (rules_declared declared) h.known c.request c.response (order_of c) count item why h.speaks differs

-- the begin mark of a step
begun_at : (g : GrantsOf) (marks : List MarkOf) (calls : List CallOf) (turns : List TurnOf) (order : List StepOf) (turn : ℕ) (c : StepOf)
    → AreCalls marks calls → IsOrder g calls turns order → slice_get order turn ≡ Some c → IsBegun marks c
begun_at g marks calls turns order turn c are formed at =
    let f = formed.formed turn c at in
    let p = at_contains calls f.call f.known in
    let its = recorded_at marks calls p.0 f.call are p.1 in
    let P : StepOf → Type 0 = λ s. slice_get marks s.begin ≡ Some (begins s.number its.carried.client its.asked) in
    record { client = its.carried.client; asked = its.asked; there = subst P (sym f.step.is) its.carried.there }

module _ (marks : List MarkOf) (declared : DeclarationOf) (turns : List TurnOf) (r : Refused) (recorded : AreRecorded marks) (told : TellsVerdict marks declared turns (No r)) where
  -- the order of the no is the one that is read
  its_order : (calls : List CallOf) (order : List StepOf) → AreCalls marks calls → IsOrder (grants_declared declared) calls turns order → IsRefused declared order r
  its_order calls order are formed =
      let e : told.0 ≡ calls = same_calls marks told.0 calls recorded told.1 are in
      let P : List CallOf → Type 0 = λ cs. IsOrder (grants_declared declared) cs turns told.2.0 in
      let o = one_order_lem (grants_declared declared) calls turns told.2.0 order (once_pairs (map number_of calls) (calls_once marks calls recorded are)) (subst P e told.2.1) formed in
      let Q : List StepOf → Type 0 = λ ss. IsRefused declared ss r in
      subst Q o told.2.2

  pub explainable : (calls : List CallOf) (order : List StepOf) → AreCalls marks calls → IsOrder (grants_declared declared) calls turns order → IsExplainable marks declared order r
  explainable calls order are formed =
      let its = its_order calls order are formed in
      record {
        turn = its.turn;
        reported = its.reported;
        call = its.call;
        begun = begun_at (grants_declared declared) marks calls turns order its.turn its.call are formed its.there;
        refused = record {
          there = its.there;
          behind = stamp_behind declared order its.turn its.call r.item r.why its.refused;
          pair = operations_there declared order its.turn its.call r.item r.why its.refused;
          refused_item = λ o. refused_there declared order its.turn its.call r.item r.why its.there its.before o its.refused;
        };
      }

  -- a check that gives a no gives no fault, unless memory runs out
  pub only_memory : (f : CheckFault) → Checks marks declared turns (Err f) → f ≡ Memory
  only_memory (Outside number side o) h = absurd (one_answer_lem marks declared turns recorded (Err (Outside number side o)) (Ok (No r)) h told)
  only_memory (Witness f) h = absurd (one_answer_lem marks declared turns recorded (Err (Witness f)) (Ok (No r)) h told)
  only_memory Memory h = refl

-- ---- the refused step, as it is read

module _ (marks : List MarkOf) (declared : DeclarationOf) (steps : List Step) (r : Refused) (e : IsExplainable marks declared (map step_of steps) r) where
  pub turn_is : e.turn ≡ r.turn - 1
  turn_is = omega (arith, e.reported)

  pub turn_within : r.turn - 1 < length steps
  turn_within = omega (arith, e.reported, slice_get_within (map step_of steps) e.turn e.call e.refused.there, length-map steps step_of)

  pub stands : slice_get (map step_of steps) (r.turn - 1) ≡ Some e.call
  stands = let P : ℕ → Type 0 = λ n. slice_get (map step_of steps) n ≡ Some e.call in subst P turn_is e.refused.there

  pub its_call : (s : Step) → s ≡ get_or steps (r.turn - 1) s → e.call ≡ step_of s
  its_call s is = let at = mapped_at step_of steps (r.turn - 1) s turn_within is in let there = stands in cc

  pub refused_here : IsRefusedHere declared (map step_of steps) (r.turn - 1) e.call r.item r.why
  refused_here = let P : ℕ → Type 0 = λ n. IsRefusedHere declared (map step_of steps) n e.call r.item r.why in subst P turn_is e.refused
