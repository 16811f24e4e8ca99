use Rattle.std.proofs.Common.{◌∙◌, All, ap, sym, subst, List, map, length}
use Rattle.std.proofs.lemmas.Result.{err_from_is_err_and}
use Rattle.kmipa_msgs.specs.Messages.{rules_of}
use Rattle.kmipa_record.specs.Transcripts.{transcript_of}
use Rattle.kmipa_record.specs.Witnesses.{turn_of, witness_of}
use Rattle.kmipa_record.specs.declared.call.Call.{Call}
use Rattle.kmipa_record.specs.declared.turn.Turn.{Turn}
use Rattle.kmipa_aside.specs.Sights.{owned_of}
use Rattle.kmipa_check.specs.Calls.{AreCalls, IsRecorded, call_of}
use Rattle.kmipa_check.specs.Grants.{GrantsOf, grants_of}
use Rattle.kmipa_check.specs.Orders.{IsOrder, OrderFault}
use Rattle.kmipa_check.specs.Steps as ever
use Rattle.kmipa_check.proofs.CheckLemmas.{call_faults, calls_numbered, calls_once, order_faults, steps_takable}
use Rattle.kmipa_turns.specs.Steps.{StepOf, step_of}
use Rattle.kmipa_trail.specs.Replays.{AllTakable}
use Rattle.kmipa_trail.specs.Whole.{whole_step}
use Rattle.kmipa_trail.proofs.EndingLemmas.{run_in_sight}
use Rattle.kmipa_trail.proofs.WholeLemmas.{whole_takable}
use Rattle.kmipa_trail.proofs.ending.check_in_sight.Goals as goal

pub returns-in_err-calls : goal.returns-in_err-calls
returns-in_err-calls g c = λ declared rules granted owned known recorded.
    let p = err_from_is_err_and c.from_residual.result c.from_residual.ensures.1 in
    rw (p.1, p.2) (call_faults (transcript_of c.args.transcript.now) declared (witness_of c.args.witness.now) c.in_err-calls.field-0.0 (c.in_err-calls.ensures.read recorded))

pub returns-in_err-steps : goal.returns-in_err-steps
returns-in_err-steps g c = λ declared rules granted owned known recorded.
    let p = err_from_is_err_and c.from_residual-in_err-steps.result c.from_residual-in_err-steps.ensures.1 in
    let marks = transcript_of c.args.transcript.now in
    let calls : List Call = c.deref.result.now in
    let A : List Call → Type 0 = λ cs. AreCalls marks (map call_of cs) in
    let are = subst A (sym c.deref.ensures.value) (c.in_ok-calls.ensures.read recorded) in
    let fault = c.in_err-steps.field-0.0 in
    let f = c.in_err-steps.ensures.ordered (calls_numbered marks calls recorded are) (calls_once marks (map call_of calls) recorded are) in
    let Q : List Turn → Type 0 = λ ts. OrderFault (grants_of c.args.terms.grants.now) (map call_of calls) (map turn_of ts) fault in
    let G : GrantsOf → Type 0 = λ x. OrderFault x (map call_of calls) (witness_of c.args.witness.now) fault in
    rw (p.1, p.2) (order_faults marks declared (witness_of c.args.witness.now) (map call_of calls) fault are (subst G granted (subst Q c.deref-2.ensures.value f)))

pub replay-requires-clause-takable : goal.replay-requires-clause-takable
replay-requires-clause-takable g c =
    let marks = transcript_of c.args.transcript.now in
    let calls : List Call = c.deref.result.now in
    let turns : List Turn = c.deref-2.result.now in
    let steps = c.deref-3.result.now in
    let E : List Call → Type 0 = λ cs. All (IsRecorded marks) (map call_of cs) in
    let each = subst E (sym c.deref.ensures.value) c.in_ok-calls.ensures.each in
    let takable = steps_takable (grants_of c.args.terms.grants.now) marks (map call_of calls) (map turn_of turns) (length turns) (map ever.step_of c.in_ok-steps.steps.items) each c.in_ok-steps.ensures.formed in
    let W : List StepOf → Type 0 = λ ss. AllTakable ss in
    let same = ap (map step_of) c.deref-4.ensures.value ∙ c.in_ok-whole.ensures ∙ ap (λ ss. map (whole_step marks) (map ever.step_of ss)) c.deref-3.ensures.value in
    subst W (sym same) (whole_takable marks (map ever.step_of c.in_ok-steps.steps.items) takable)

pub returns-in-Ok : goal.returns-in-Ok
returns-in-Ok g c = λ declared rules granted owned known recorded.
    let marks = transcript_of c.args.transcript.now in
    let calls : List Call = c.deref.result.now in
    let steps = map ever.step_of c.in_ok-steps.steps.items in
    let A : List Call → Type 0 = λ cs. AreCalls marks (map call_of cs) in
    let are = subst A (sym c.deref.ensures.value) (c.in_ok-calls.ensures.read recorded) in
    let o = c.in_ok-steps.ensures.ordered (calls_numbered marks calls recorded are) (calls_once marks (map call_of calls) recorded are) in
    let Q : List Turn → Type 0 = λ ts. IsOrder (grants_of c.args.terms.grants.now) (map call_of calls) (map turn_of ts) steps in
    let G : GrantsOf → Type 0 = λ x. IsOrder x (map call_of calls) (witness_of c.args.witness.now) steps in
    let same = ap (map step_of) c.deref-4.ensures.value ∙ c.in_ok-whole.ensures ∙ ap (λ ss. map (whole_step marks) (map ever.step_of ss)) c.deref-3.ensures.value in
    run_in_sight marks declared (witness_of c.args.witness.now) (map call_of calls) steps c.in-Ok.verdict are (subst G granted (subst Q c.deref-2.ensures.value o))
    (rules_of c.args.terms.rules.now) rules (map owned_of c.args.terms.owners.items) owned (map step_of c.deref-4.result.now) same (c.in-Ok.ensures declared rules known)
