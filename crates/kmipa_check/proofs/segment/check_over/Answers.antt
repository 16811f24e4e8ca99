use Rattle.std.proofs.Common.{sym, subst, List, map, length}
use Rattle.std.proofs.lemmas.Result.{err_from_is_err_and}
use Rattle.kmipa_record.specs.Declarations.{declaration_of}
use Rattle.kmipa_record.specs.Transcripts.{transcript_of}
use Rattle.kmipa_record.specs.Witnesses.{turn_of, witness_of}
use Rattle.kmipa_record.specs.declared.turn.Turn.{Turn}
use Rattle.kmipa_check.specs.Calls.{call_of, AreCalls}
use Rattle.kmipa_check.specs.Orders.{IsOrder, AreFormed, OrderFault}
use Rattle.kmipa_check.specs.Grants.{GrantsOf, grants_of, grants_declared}
use Rattle.kmipa_check.specs.Steps.{step_of}
use Rattle.kmipa_check.specs.Replays.{AllTakable}
use Rattle.kmipa_record.specs.declared.call.Call.{Call}
use Rattle.kmipa_check.specs.declared.step.Step.{Step}
use Rattle.kmipa_check.proofs.CheckLemmas.{calls_numbered, calls_once, steps_takable, order_faults}
use Rattle.kmipa_check.specs.Since.{verdict_told}
use Rattle.kmipa_check.specs.SegmentReplays.{TellsSegment}
use Rattle.kmipa_check.proofs.SegmentLemmas.{LeftTold, left_reported, segment_reported}
use Rattle.kmipa_check.proofs.ReplayLemmas.{replayed_none}
use Rattle.kmipa_check.proofs.segment.check_over.Goals as goal

pub returns-in_err-steps-clause-checks : goal.returns-in_err-steps-clause-checks
returns-in_err-steps-clause-checks g c recorded =
    let p = err_from_is_err_and c.from_residual-in_err-steps.result c.from_residual-in_err-steps.ensures.1 in
    let marks = transcript_of c.args.transcript.now in
    let calls : List Call = c.deref.result.now in
    let P : List Call → Type 0 = λ cs. AreCalls marks (map call_of cs) in
    let are : AreCalls marks (map call_of calls) = subst P (sym c.deref.ensures.value) (c.in_ok-calls.ensures.read recorded) in
    let f = c.in_err-steps.ensures.ordered (calls_numbered marks calls recorded are) (calls_once marks (map call_of calls) recorded are) in
    let Q : List Turn → Type 0 = λ ts. OrderFault (grants_of c.of.result) (map call_of calls) (map turn_of ts) c.in_err-steps.field-0.0 in
    let G : GrantsOf → Type 0 = λ g. OrderFault g (map call_of calls) (witness_of c.args.witness.now) c.in_err-steps.field-0.0 in
    rw (p.1, p.2) (order_faults marks (declaration_of c.args.declaration.now) (witness_of c.args.witness.now) (map call_of calls) c.in_err-steps.field-0.0 are (subst G c.of.ensures (subst Q c.deref-2.ensures.value f)))

pub replay_segment-requires-clause-takable : goal.replay_segment-requires-clause-takable
replay_segment-requires-clause-takable g c =
    let calls : List Call = c.in_ok-calls.calls.items in
    let turns : List Turn = c.deref-2.result.now in
    let steps : List Step = c.in_ok-steps.steps.items in
    let F : List Call → Type 0 = λ cs. AreFormed (grants_of c.of.result) (map call_of cs) (map turn_of turns) (length turns) (map step_of steps) in
    let R : List Step → Type 0 = λ ss. AllTakable (map step_of ss) in
    subst R (sym c.deref-3.ensures.value)
    (steps_takable (grants_of c.of.result) (transcript_of c.args.transcript.now) (map call_of calls) (map turn_of turns) (length turns) (map step_of steps) c.in_ok-calls.ensures.each
    (subst F c.deref.ensures.value c.in_ok-steps.ensures.formed))

pub replay_segment-requires-clause-replayed : goal.replay_segment-requires-clause-replayed
replay_segment-requires-clause-replayed g c =
    replayed_none (declaration_of c.args.declaration.now) (map step_of c.deref-3.result.now) (g.L.Ledger.state c.args.ledger.now).now c.requires.known c.requires.sound

pub returns-clause-checks : goal.returns-clause-checks
returns-clause-checks g c recorded =
    let marks = transcript_of c.args.transcript.now in
    let declared = declaration_of c.args.declaration.now in
    let calls : List Call = c.in_ok-calls.calls.items in
    let steps : List Step = c.in_ok-steps.steps.items in
    let are : AreCalls marks (map call_of calls) = c.in_ok-calls.ensures.read recorded in
    let P : List Call → Type 0 = λ cs. AreCalls marks (map call_of cs) in
    let there = subst P (sym c.deref.ensures.value) are in
    let o = c.in_ok-steps.ensures.ordered (calls_numbered marks c.deref.result.now recorded there) (calls_once marks (map call_of c.deref.result.now) recorded there) in
    let O : List Call → Type 0 = λ cs. IsOrder (grants_of c.of.result) (map call_of cs) (map turn_of c.deref-2.result.now) (map step_of steps) in
    let T : List Turn → Type 0 = λ ts. IsOrder (grants_of c.of.result) (map call_of calls) (map turn_of ts) (map step_of steps) in
    let G : GrantsOf → Type 0 = λ g. IsOrder g (map call_of calls) (witness_of c.args.witness.now) (map step_of steps) in
    let order : IsOrder (grants_declared declared) (map call_of calls) (witness_of c.args.witness.now) (map step_of steps) = subst G c.of.ensures (subst T c.deref-2.ensures.value (subst O c.deref.ensures.value o)) in
    let S : List Step → Type 0 = λ ss. TellsSegment declared c.args.since (map step_of ss) (verdict_told c.replay_segment.result) in
    segment_reported marks declared c.args.since (witness_of c.args.witness.now) (map call_of calls) (map step_of steps) (verdict_told c.replay_segment.result) are order (subst S c.deref-3.ensures.value c.replay_segment.ensures.told)

pub returns-clause-leads : goal.returns-clause-leads
returns-clause-leads g c recorded =
    let marks = transcript_of c.args.transcript.now in
    let declared = declaration_of c.args.declaration.now in
    let calls : List Call = c.in_ok-calls.calls.items in
    let steps : List Step = c.in_ok-steps.steps.items in
    let are : AreCalls marks (map call_of calls) = c.in_ok-calls.ensures.read recorded in
    let P : List Call → Type 0 = λ cs. AreCalls marks (map call_of cs) in
    let there = subst P (sym c.deref.ensures.value) are in
    let o = c.in_ok-steps.ensures.ordered (calls_numbered marks c.deref.result.now recorded there) (calls_once marks (map call_of c.deref.result.now) recorded there) in
    let O : List Call → Type 0 = λ cs. IsOrder (grants_of c.of.result) (map call_of cs) (map turn_of c.deref-2.result.now) (map step_of steps) in
    let T : List Turn → Type 0 = λ ts. IsOrder (grants_of c.of.result) (map call_of calls) (map turn_of ts) (map step_of steps) in
    let G : GrantsOf → Type 0 = λ g. IsOrder g (map call_of calls) (witness_of c.args.witness.now) (map step_of steps) in
    let order : IsOrder (grants_declared declared) (map call_of calls) (witness_of c.args.witness.now) (map step_of steps) = subst G c.of.ensures (subst T c.deref-2.ensures.value (subst O c.deref.ensures.value o)) in
    let S : List Step → Type 0 = λ ss. LeftTold marks declared c.args.since (witness_of c.args.witness.now) (map step_of ss) c.replay_segment.result in
    left_reported marks declared c.args.since (witness_of c.args.witness.now) (map call_of calls) (map step_of steps) c.replay_segment.result are order (subst S c.deref-3.ensures.value c.replay_segment.ensures.leaves)
