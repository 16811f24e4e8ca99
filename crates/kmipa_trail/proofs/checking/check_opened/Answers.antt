use Rattle.std.proofs.Common.{ap, sym, subst, List, map, length}
use Rattle.std.proofs.lemmas.Result.{err_from_is_err_and}
use Rattle.kmipa_msgs.specs.Messages.{RulesOf}
use Rattle.kmipa_msgs.specs.declared.rules.Visibility.{Visibility}
use Rattle.kmipa_record.specs.Transcripts.{transcript_of}
use Rattle.kmipa_record.specs.Witnesses.{turn_of, witness_of}
use Rattle.kmipa_record.specs.declared.turn.Turn.{Turn}
use Rattle.kmipa_aside.specs.Sights.{OwnedOf, owned_of}
use Rattle.kmipa_check.specs.Grants.{GrantsOf, grants_of}
use Rattle.kmipa_turns.specs.Recorded.{AreRecorded, recorded_of}
use Rattle.kmipa_turns.specs.Steps.{step_of}
use Rattle.kmipa_turns.specs.declared.recorded.Recorded.{Recorded}
use Rattle.kmipa_turns.specs.declared.step.Step.{Step}
use Rattle.kmipa_trail.specs.Ordering.{OrderFault}
use Rattle.kmipa_trail.specs.Orders.{IsOrder}
use Rattle.kmipa_trail.specs.Owners.{steps_seen}
use Rattle.kmipa_trail.specs.Replays.{AllTakable, TellsRun}
use Rattle.kmipa_trail.proofs.CheckLemmas.{calls_numbered, calls_once, steps_takable, order_faults, run_reported}
use Rattle.kmipa_trail.proofs.checking.check_opened.Goals as goal

pub returns-in_err-steps : goal.returns-in_err-steps
returns-in_err-steps g c = λ declared rules granted owned known recorded.
    let p = err_from_is_err_and c.from_residual-in_err-steps.result c.from_residual-in_err-steps.ensures.1 in
    let marks = transcript_of c.args.transcript.now in
    let calls : List Recorded = c.deref.result.now in
    let A : List Recorded → Type 0 = λ cs. AreRecorded marks (map recorded_of cs) in
    let are = subst A (sym c.deref.ensures.value) (c.in_ok-calls.ensures.recorded recorded) in
    let fault = c.in_err-steps.field-0.0 in
    let f = c.in_err-steps.ensures.ordered (calls_numbered marks calls recorded are) (calls_once marks (map recorded_of calls) recorded are) in
    let Q : List Turn → Type 0 = λ ts. OrderFault (grants_of c.args.terms.grants.now) (map recorded_of calls) (map turn_of ts) fault in
    let G : GrantsOf → Type 0 = λ x. OrderFault x (map recorded_of calls) (witness_of c.args.witness.now) fault in
    rw (p.1, p.2) (order_faults marks declared (witness_of c.args.witness.now) (map recorded_of calls) fault are (subst G granted (subst Q c.deref-2.ensures.value f)))

pub replay-requires-clause-takable : goal.replay-requires-clause-takable
replay-requires-clause-takable g c =
    let calls : List Recorded = c.deref.result.now in
    let turns : List Turn = c.deref-2.result.now in
    let steps : List Step = c.in_ok-steps.steps.items in
    let R : List Step → Type 0 = λ ss. AllTakable (map step_of ss) in
    subst R (sym c.deref-3.ensures.value)
    (steps_takable (grants_of c.args.terms.grants.now) (map recorded_of calls) (map turn_of turns) (length turns) (map step_of steps) c.step_is_takable.ensures c.in_ok-steps.ensures.formed)

pub returns : goal.returns
returns g c = λ declared rules granted owned known recorded.
    let marks = transcript_of c.args.transcript.now in
    let calls : List Recorded = c.deref.result.now in
    let steps : List Step = c.in_ok-steps.steps.items in
    let owners = map owned_of c.args.terms.owners.items in
    let A : List Recorded → Type 0 = λ cs. AreRecorded marks (map recorded_of cs) in
    let are = subst A (sym c.deref.ensures.value) (c.in_ok-calls.ensures.recorded recorded) in
    let o = c.in_ok-steps.ensures.ordered (calls_numbered marks calls recorded are) (calls_once marks (map recorded_of calls) recorded are) in
    let Q : List Turn → Type 0 = λ ts. IsOrder (grants_of c.args.terms.grants.now) (map recorded_of calls) (map turn_of ts) (map step_of steps) in
    let G : GrantsOf → Type 0 = λ x. IsOrder x (map recorded_of calls) (witness_of c.args.witness.now) (map step_of steps) in
    let S : List Step → Type 0 = λ ss. TellsRun declared (steps_seen c.args.terms.rules.now.visibility owners (map step_of ss)) c.replay.result in
    let V : Visibility → Type 0 = λ v. TellsRun declared (steps_seen v owners (map step_of steps)) c.replay.result in
    let O : List OwnedOf → Type 0 = λ os. TellsRun declared (steps_seen declared.settings.visibility os (map step_of steps)) c.replay.result in
    run_reported marks declared (witness_of c.args.witness.now) (map recorded_of calls) (map step_of steps) c.replay.result are (subst G granted (subst Q c.deref-2.ensures.value o))
    (subst O owned (subst V (ap (λ (r : RulesOf). r.visibility) rules) (subst S c.deref-3.ensures.value (c.replay.ensures declared rules known))))
