use Rattle.std.proofs.Common.{List, length, map, sym, subst}
use Rattle.std.proofs.lemmas.Result.{IfOk-weaker, err_from_is_err_and}
use Rattle.kmipa_record.specs.Declarations.{declaration_of}
use Rattle.kmipa_record.specs.Marks.{mark_of}
use Rattle.kmipa_record.specs.Transcripts.{transcript_of}
use Rattle.kmipa_record.specs.Witnesses.{turn_of, witness_of}
use Rattle.kmipa_record.specs.declared.transcript.Mark.{Mark}
use Rattle.kmipa_record.specs.declared.turn.Turn.{Turn}
use Rattle.kmipa_check.specs.Calls.{call_of, AreCalls}
use Rattle.kmipa_check.specs.Grants.{GrantsOf, grants_of}
use Rattle.kmipa_check.specs.Orders.{IsOrder, AreFormed, OrderFault}
use Rattle.kmipa_check.specs.Replays.{AllTakable}
use Rattle.kmipa_check.specs.Steps.{step_of}
use Rattle.kmipa_record.specs.declared.call.Call.{Call}
use Rattle.kmipa_check.specs.declared.step.Step.{Step}
use Rattle.kmipa_check.proofs.CheckLemmas.{calls_numbered, calls_once, call_faults, order_faults, steps_takable}
use Rattle.kmipa_explain.specs.Explainable.{IsExplainable}
use Rattle.kmipa_explain.specs.Explanations.{ExplainsIn}
use Rattle.kmipa_explain.specs.declared.explanation.Explanation.{Explanation}
use Rattle.kmipa_explain.proofs.RefusedLemmas.{explainable, only_memory}
use Rattle.kmipa_explain.proofs.explaining.explain.Goals as goal

pub returns-in_err-calls : goal.returns-in_err-calls
returns-in_err-calls c =
    let p = err_from_is_err_and c.from_residual.result c.from_residual.ensures.1 in
    let marks = transcript_of c.args.transcript.now in
    let declared = declaration_of c.args.declaration.now in
    let turns = witness_of c.args.witness.now in
    let f = c.in_err-calls.field-0.0 in
    rw (p.1, p.2) (record {
      explains = tt;
      memory = only_memory marks declared turns c.args.refused c.requires.recorded c.requires.refused f (call_faults marks declared turns f (c.in_err-calls.ensures.read c.requires.recorded));
    })

pub returns-in_err-steps : goal.returns-in_err-steps
returns-in_err-steps c =
    let p = err_from_is_err_and c.from_residual-in_err-steps.result c.from_residual-in_err-steps.ensures.1 in
    let marks = transcript_of c.args.transcript.now in
    let declared = declaration_of c.args.declaration.now in
    let turns = witness_of c.args.witness.now in
    let recorded = c.requires.recorded in
    let calls : List Call = c.deref.result.now in
    let P : List Call → Type 0 = λ cs. AreCalls marks (map call_of cs) in
    let are : AreCalls marks (map call_of calls) = subst P (sym c.deref.ensures.value) (c.in_ok-calls.ensures.read recorded) in
    let f = c.in_err-steps.ensures.ordered (calls_numbered marks calls recorded are) (calls_once marks (map call_of calls) recorded are) in
    let Q : List Turn → Type 0 = λ ts. OrderFault (grants_of c.of.result) (map call_of calls) (map turn_of ts) c.in_err-steps.field-0.0 in
    let G : GrantsOf → Type 0 = λ g. OrderFault g (map call_of calls) turns c.in_err-steps.field-0.0 in
    rw (p.1, p.2) (record {
      explains = tt;
      memory = only_memory marks declared turns c.args.refused recorded c.requires.refused c.in_err-steps.field-0.0
          (order_faults marks declared turns (map call_of calls) c.in_err-steps.field-0.0 are (subst G c.of.ensures (subst Q c.deref-2.ensures.value f)));
    })

pub explained-requires-clause-explainable : goal.explained-requires-clause-explainable
explained-requires-clause-explainable c =
    let marks = transcript_of c.args.transcript.now in
    let recorded = c.requires.recorded in
    let calls : List Call = c.in_ok-calls.calls.items in
    let steps : List Step = c.in_ok-steps.steps.items in
    let are : AreCalls marks (map call_of calls) = c.in_ok-calls.ensures.read recorded in
    let P : List Call → Type 0 = λ cs. AreCalls marks (map call_of cs) in
    let there = subst P (sym c.deref.ensures.value) are in
    let o = c.in_ok-steps.ensures.ordered (calls_numbered marks c.deref.result.now recorded there) (calls_once marks (map call_of c.deref.result.now) recorded there) in
    let O : List Call → Type 0 = λ cs. IsOrder (grants_of c.of.result) (map call_of cs) (map turn_of c.deref-2.result.now) (map step_of steps) in
    let T : List Turn → Type 0 = λ ts. IsOrder (grants_of c.of.result) (map call_of calls) (map turn_of ts) (map step_of steps) in
    let G : GrantsOf → Type 0 = λ g. IsOrder g (map call_of calls) (witness_of c.args.witness.now) (map step_of steps) in
    let order = subst G c.of.ensures (subst T c.deref-2.ensures.value (subst O c.deref.ensures.value o)) in
    let M : List Mark → Type 0 = λ ms. IsExplainable (map mark_of ms) (declaration_of c.args.declaration.now) (map step_of c.deref-4.result.now) c.args.refused in
    let S : List Step → Type 0 = λ ss. IsExplainable marks (declaration_of c.args.declaration.now) (map step_of ss) c.args.refused in
    subst M (sym c.deref-3.ensures.value) (subst S (sym c.deref-4.ensures.value)
    (explainable marks (declaration_of c.args.declaration.now) (witness_of c.args.witness.now) c.args.refused recorded c.requires.refused (map call_of calls) (map step_of steps) are order))

pub explained-requires-clause-takable : goal.explained-requires-clause-takable
explained-requires-clause-takable c =
    let calls : List Call = c.in_ok-calls.calls.items in
    let turns : List Turn = c.deref-2.result.now in
    let steps : List Step = c.in_ok-steps.steps.items in
    let F : List Call → Type 0 = λ cs. AreFormed (grants_of c.of.result) (map call_of cs) (map turn_of turns) (length turns) (map step_of steps) in
    let R : List Step → Type 0 = λ ss. AllTakable (map step_of ss) in
    subst R (sym c.deref-4.ensures.value)
    (steps_takable (grants_of c.of.result) (transcript_of c.args.transcript.now) (map call_of calls) (map turn_of turns) (length turns) (map step_of steps) c.in_ok-calls.ensures.each
    (subst F c.deref.ensures.value c.in_ok-steps.ensures.formed))

pub returns : goal.returns
returns c =
    let marks = transcript_of c.args.transcript.now in
    let recorded = c.requires.recorded in
    let calls : List Call = c.in_ok-calls.calls.items in
    let steps : List Step = c.in_ok-steps.steps.items in
    let are : AreCalls marks (map call_of calls) = c.in_ok-calls.ensures.read recorded in
    let P : List Call → Type 0 = λ cs. AreCalls marks (map call_of cs) in
    let there = subst P (sym c.deref.ensures.value) are in
    let o = c.in_ok-steps.ensures.ordered (calls_numbered marks c.deref.result.now recorded there) (calls_once marks (map call_of c.deref.result.now) recorded there) in
    let O : List Call → Type 0 = λ cs. IsOrder (grants_of c.of.result) (map call_of cs) (map turn_of c.deref-2.result.now) (map step_of steps) in
    let T : List Turn → Type 0 = λ ts. IsOrder (grants_of c.of.result) (map call_of calls) (map turn_of ts) (map step_of steps) in
    let G : GrantsOf → Type 0 = λ g. IsOrder g (map call_of calls) (witness_of c.args.witness.now) (map step_of steps) in
    let order = subst G c.of.ensures (subst T c.deref-2.ensures.value (subst O c.deref.ensures.value o)) in
    let M : Explanation → List Mark → Type 0 = λ e ms. ExplainsIn (map mark_of ms) (declaration_of c.args.declaration.now) (map step_of c.deref-4.result.now) c.args.refused e in
    let S : Explanation → List Step → Type 0 = λ e ss. ExplainsIn marks (declaration_of c.args.declaration.now) (map step_of ss) c.args.refused e in
    record {
      explains = IfOk-weaker c.explained.result _ _ (λ e told. record {
        calls = map call_of calls;
        are = are;
        order = map step_of steps;
        formed = order;
        explains = subst (S e) c.deref-4.ensures.value (subst (M e) c.deref-3.ensures.value told);
      }) c.explained.ensures.explains;
      memory = c.explained.ensures.memory;
    }
