use Rattle.std.proofs.Common.{rules, ◌≡◌, ◌∙◌, ℤ, pos, List, map, sym, subst}
use mir.Val.{SFits, to_z, of_z}
use mir.Syntax.{w32}
use Rattle.std.specs.Prelude.{IfOk}
use Rattle.std.proofs.lemmas.Int.{to_z-of_z}
use Rattle.std.proofs.lemmas.Result.{IfOk-weaker, err_from_is_err_and}
use Rattle.kmipa_record.specs.Marks.{AreRecorded, mark_of}
use Rattle.kmipa_record.specs.Transcripts.{transcript_of}
use Rattle.kmipa_record.specs.Witnesses.{TurnOf, turn_of, witness_of}
use Rattle.kmipa_record.specs.declared.transcript.Mark.{Mark}
use Rattle.kmipa_record.specs.declared.turn.Turn.{Turn}
use Rattle.kmipa_check.specs.Calls.{AreCalls, call_of}
use Rattle.kmipa_check.specs.Grants.{grants_of}
use Rattle.kmipa_check.specs.Orders.{HasCall}
use Rattle.kmipa_record.specs.declared.call.Call.{Call}
use Rattle.kmipa_unfit.specs.Explanations.{ExplainsFault, ExplainsUnnamed, of_call}
use Rattle.kmipa_unfit.specs.Finding.{IsTurnFault, LeavesOut}
use Rattle.kmipa_unfit.specs.declared.explanation.WitnessExplanation.{WitnessExplanation}
use Rattle.kmipa_unfit.proofs.FaultLemmas.{call_of_fault, fault_stands, left_fits, only_memory, turn_of_fault}
use Rattle.kmipa_unfit.proofs.explaining.explain_witness.Goals as goal

pub returns-in_err-calls-clause-memory : goal.returns-in_err-calls-clause-memory
returns-in_err-calls-clause-memory c =
    let p = err_from_is_err_and c.from_residual.result c.from_residual.ensures.1 in
    let marks = transcript_of c.args.transcript.now in
    rw (p.1, p.2) (only_memory marks c.requires.fault.0 c.in_err-calls.field-0.0 c.requires.recorded c.requires.fault.1 (c.in_err-calls.ensures.read c.requires.recorded))

pub unnamed_told-requires-clause-has : goal.unnamed_told-requires-clause-has
unnamed_told-requires-clause-has c =
    let marks = transcript_of c.args.transcript.now in
    let turns = witness_of c.args.witness.now in
    let calls : List Call = c.in_ok-calls.calls.items in
    let are : AreCalls marks (map call_of calls) = c.in_ok-calls.ensures.read c.requires.recorded in
    let fault = fault_stands (grants_of c.args.grants.now) marks turns c.args.fault.at c.args.fault.kind (map call_of calls) c.requires.recorded are c.requires.fault in
    let left = call_of_fault (grants_of c.args.grants.now) (map call_of calls) turns c.args.fault.at c.args.fault.kind fault c.in-LeftOut.is in
    let number : ℤ = c.in-Ok.number in
    let fits : SFits w32 number = search rules in
    let H : List Call → Type 0 = λ cs. HasCall (map call_of cs) (to_z w32 (of_z w32 number)) in
    let is : pos c.args.fault.at ≡ to_z w32 (of_z w32 number) = sym c.in-Ok.ensures.1 ∙ sym (to_z-of_z w32 number fits) in
    subst H (sym c.deref-in-Ok.ensures.value) (left.0, left.1.0, left.1.1 ∙ is)

pub returns-in-Ok-clause-explains : goal.returns-in-Ok-clause-explains
returns-in-Ok-clause-explains c =
    let marks = transcript_of c.args.transcript.now in
    let turns = witness_of c.args.witness.now in
    let calls : List Call = c.in_ok-calls.calls.items in
    let are : AreCalls marks (map call_of calls) = c.in_ok-calls.ensures.read c.requires.recorded in
    let fault = fault_stands (grants_of c.args.grants.now) marks turns c.args.fault.at c.args.fault.kind (map call_of calls) c.requires.recorded are c.requires.fault in
    let left = call_of_fault (grants_of c.args.grants.now) (map call_of calls) turns c.args.fault.at c.args.fault.kind fault c.in-LeftOut.is in
    let number : ℤ = c.in-Ok.number in
    let fits : SFits w32 number = search rules in
    let r = c.unnamed_told.result in
    let M : List Mark → Type 0 = λ ms. (ts : List TurnOf) → LeavesOut (map call_of c.deref-in-Ok.result.now) ts (to_z w32 (of_z w32 number))
    → IfOk r (ExplainsUnnamed (map mark_of ms) (map call_of c.deref-in-Ok.result.now) ts (to_z w32 (of_z w32 number))) in
    let C : List Call → Type 0 = λ cs. (ts : List TurnOf) → LeavesOut (map call_of cs) ts (to_z w32 (of_z w32 number))
    → IfOk r (ExplainsUnnamed marks (map call_of cs) ts (to_z w32 (of_z w32 number))) in
    let Z : ℤ → Type 0 = λ z. (ts : List TurnOf) → LeavesOut (map call_of calls) ts z → IfOk r (ExplainsUnnamed marks (map call_of calls) ts z) in
    let is : to_z w32 (of_z w32 number) ≡ pos c.args.fault.at = to_z-of_z w32 number fits ∙ c.in-Ok.ensures.1 in
    let explains = subst Z is (subst C c.deref-in-Ok.ensures.value (subst M c.deref.ensures.value c.unnamed_told.ensures.explains)) in
    IfOk-weaker r _ _ (λ e told. record { calls = map call_of calls; are = are; explains = of_call c.in-LeftOut.is told }) (explains turns left)

pub returns-in-LeftOut-clause-memory : goal.returns-in-LeftOut-clause-memory
returns-in-LeftOut-clause-memory c =
    let marks = transcript_of c.args.transcript.now in
    let turns = witness_of c.args.witness.now in
    let calls : List Call = c.in_ok-calls.calls.items in
    let are : AreCalls marks (map call_of calls) = c.in_ok-calls.ensures.read c.requires.recorded in
    let fault = fault_stands (grants_of c.args.grants.now) marks turns c.args.fault.at c.args.fault.kind (map call_of calls) c.requires.recorded are c.requires.fault in
    let left = call_of_fault (grants_of c.args.grants.now) (map call_of calls) turns c.args.fault.at c.args.fault.kind fault c.in-LeftOut.is in
    absurd (c.in-Err.ensures (left_fits marks (map call_of calls) turns c.args.fault.at c.requires.recorded are left))

pub turn_told-requires : goal.turn_told-requires
turn_told-requires c =
    let g = grants_of c.args.grants.now in
    let marks = transcript_of c.args.transcript.now in
    let turns = witness_of c.args.witness.now in
    let calls : List Call = c.in_ok-calls.calls.items in
    let are : AreCalls marks (map call_of calls) = c.in_ok-calls.ensures.read c.requires.recorded in
    let at = c.args.fault.at in
    let kind = c.args.fault.kind in
    let f = turn_of_fault g (map call_of calls) turns at kind (fault_stands g marks turns at kind (map call_of calls) c.requires.recorded are c.requires.fault) c.in_default.not-LeftOut in
    let R : List Mark → Type 0 = λ ms. AreRecorded (map mark_of ms) in
    let M : List Mark → Type 0 = λ ms. AreCalls (map mark_of ms) (map call_of c.deref-in_default-2.result.now) in
    let C : List Call → Type 0 = λ cs. AreCalls marks (map call_of cs) in
    let F : List Call → Type 0 = λ cs. IsTurnFault g (map call_of cs) (map turn_of c.deref-in_default-3.result.now) at kind in
    let T : List Turn → Type 0 = λ ts. IsTurnFault g (map call_of calls) (map turn_of ts) at kind in
    record {
      recorded = subst R (sym c.deref-in_default.ensures.value) c.requires.recorded;
      calls = subst M (sym c.deref-in_default.ensures.value) (subst C (sym c.deref-in_default-2.ensures.value) are);
      fault = subst F (sym c.deref-in_default-2.ensures.value) (subst T (sym c.deref-in_default-3.ensures.value) f);
    }

pub returns : goal.returns
returns c =
    let g = grants_of c.args.grants.now in
    let marks = transcript_of c.args.transcript.now in
    let calls : List Call = c.in_ok-calls.calls.items in
    let are : AreCalls marks (map call_of calls) = c.in_ok-calls.ensures.read c.requires.recorded in
    let at = c.args.fault.at in
    let kind = c.args.fault.kind in
    let M : WitnessExplanation → List Mark → Type 0 = λ e ms. ExplainsFault g (map mark_of ms) (map call_of c.deref-in_default-2.result.now) (map turn_of c.deref-in_default-3.result.now) at kind e in
    let C : WitnessExplanation → List Call → Type 0 = λ e cs. ExplainsFault g marks (map call_of cs) (map turn_of c.deref-in_default-3.result.now) at kind e in
    let T : WitnessExplanation → List Turn → Type 0 = λ e ts. ExplainsFault g marks (map call_of calls) (map turn_of ts) at kind e in
    record {
      explains = IfOk-weaker c.turn_told.result _ _ (λ e told. record {
        calls = map call_of calls;
        are = are;
        explains = subst (T e) c.deref-in_default-3.ensures.value (subst (C e) c.deref-in_default-2.ensures.value (subst (M e) c.deref-in_default.ensures.value told));
      }) c.turn_told.ensures.explains;
      memory = c.turn_told.ensures.memory;
    }
