use Rattle.std.proofs.Common.{sym, subst, List, map, length}
use Rattle.std.proofs.lemmas.Result.{err_from_is_err_and}
use Rattle.kmipa_store.specs.States.{state_of_journal}
use Rattle.kmipa_record.specs.Declarations.{declaration_of}
use Rattle.kmipa_record.specs.Transcripts.{transcript_of}
use Rattle.kmipa_record.specs.Witnesses.{turn_of, witness_of}
use Rattle.kmipa_record.specs.declared.turn.Turn.{Turn}
use Rattle.kmipa_check.specs.Calls.{call_of, AreCalls}
use Rattle.kmipa_check.specs.Orders.{IsOrder, AreFormed, OrderFault}
use Rattle.kmipa_check.specs.Grants.{GrantsOf, grants_of, grants_declared}
use Rattle.kmipa_check.specs.Steps.{step_of}
use Rattle.kmipa_check.specs.Replays.{AllTakable, TellsRun}
use Rattle.kmipa_record.specs.declared.call.Call.{Call}
use Rattle.kmipa_check.specs.declared.step.Step.{Step}
use Rattle.kmipa_check.proofs.CheckLemmas.{calls_numbered, calls_once, steps_takable, order_faults, run_reported}
use Rattle.kmipa_check.proofs.ReplayLemmas.{replayed_none}
use Rattle.kmipa_check.proofs.checking.check_calls.Goals as goal

pub returns-in_err-steps : goal.returns-in_err-steps
returns-in_err-steps c = λ marks recorded are.
    let p = err_from_is_err_and c.from_residual.result c.from_residual.ensures.1 in
    let calls : List Call = c.args.calls.now in
    let f = c.in_err-steps.ensures.ordered (calls_numbered marks calls recorded are) (calls_once marks (map call_of calls) recorded are) in
    let Q : List Turn → Type 0 = λ ts. OrderFault (grants_of c.of.result) (map call_of calls) (map turn_of ts) c.in_err-steps.field-0.0 in
    let G : GrantsOf → Type 0 = λ g. OrderFault g (map call_of calls) (witness_of c.args.witness.now) c.in_err-steps.field-0.0 in
    rw (p.1, p.2) (order_faults marks (declaration_of c.args.declaration.now) (witness_of c.args.witness.now) (map call_of calls) c.in_err-steps.field-0.0 are (subst G c.of.ensures (subst Q c.deref.ensures.value f)))

pub replay-requires-clause-takable : goal.replay-requires-clause-takable
replay-requires-clause-takable c =
    let calls : List Call = c.args.calls.now in
    let turns : List Turn = c.deref.result.now in
    let steps : List Step = c.in_ok-steps.steps.items in
    let R : List Step → Type 0 = λ ss. AllTakable (map step_of ss) in
    subst R (sym c.deref-2.ensures.value)
    (steps_takable (grants_of c.of.result) c.requires.each.0 (map call_of calls) (map turn_of turns) (length turns) (map step_of steps) c.requires.each.1 c.in_ok-steps.ensures.formed)

pub returns : goal.returns
returns c = λ marks recorded are.
    let declared = declaration_of c.args.declaration.now in
    let calls : List Call = c.args.calls.now in
    let steps : List Step = c.in_ok-steps.steps.items in
    let o = c.in_ok-steps.ensures.ordered (calls_numbered marks calls recorded are) (calls_once marks (map call_of calls) recorded are) in
    let T : List Turn → Type 0 = λ ts. IsOrder (grants_of c.of.result) (map call_of calls) (map turn_of ts) (map step_of steps) in
    let G : GrantsOf → Type 0 = λ g. IsOrder g (map call_of calls) (witness_of c.args.witness.now) (map step_of steps) in
    let order : IsOrder (grants_declared declared) (map call_of calls) (witness_of c.args.witness.now) (map step_of steps) = subst G c.of.ensures (subst T c.deref.ensures.value o) in
    let reported = c.replay.ensures.told declared c.in_ok-rules.ensures
    (replayed_none declared (map step_of c.deref-2.result.now) (state_of_journal c.in_ok-ledger.ledger).now c.in_ok-ledger.ensures.opened c.in_ok-ledger.ensures.sound) in
    let S : List Step → Type 0 = λ ss. TellsRun declared (map step_of ss) c.replay.result in
    run_reported marks declared (witness_of c.args.witness.now) (map call_of calls) (map step_of steps) c.replay.result are order (subst S c.deref-2.ensures.value reported)
