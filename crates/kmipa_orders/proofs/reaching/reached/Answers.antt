use Rattle.std.proofs.Common.{map}
use Rattle.std.proofs.lemmas.Result.{err_from_is_err_and}
use Rattle.kmipa_record.specs.Declarations.{declaration_of}
use Rattle.kmipa_record.specs.Transcripts.{transcript_of}
use Rattle.kmipa_check.specs.Calls.{call_of}
use Rattle.kmipa_orders.specs.Candidates.{candidate_step}
use Rattle.kmipa_orders.specs.Plain.{ArePlain}
use Rattle.kmipa_orders.proofs.CandidateLemmas.{plain_own}
use Rattle.kmipa_orders.proofs.PlainLemmas.{plain_begun, plain_readable}
use Rattle.kmipa_orders.proofs.ReachedLemmas.{no_fault, reached_told}
use Rattle.kmipa_orders.proofs.reaching.reached.Goals as goal

pub returns-in_err-calls : goal.returns-in_err-calls
returns-in_err-calls c =
    let p = err_from_is_err_and c.from_residual.result c.from_residual.ensures.1 in
    let marks = transcript_of c.args.transcript.now in
    let fault = c.in_err-calls.field-0.0 in
    rw (p.1, p.2) (λ recorded steps. no_fault marks recorded steps fault (c.in_err-calls.ensures.read recorded))

pub reach-requires-clause-readable : goal.reach-requires-clause-readable
reach-requires-clause-readable c =
    let calls = map call_of c.in_ok-calls.calls.items in
    let steps = map candidate_step c.deref-2.result.now in
    let plain : ArePlain calls steps = plain_own c.in_ok-calls.calls.items c.deref.result.now c.in_ok-own.field-0 c.in-Some.own c.deref-2.result.now c.deref.ensures.value c.in-Some.is c.deref-2.ensures.value c.in_ok-own.ensures in
    plain_readable calls steps plain (transcript_of c.args.transcript.now) c.check_laws.ensures c.in_ok-calls.ensures.each

pub returns : goal.returns
returns c = λ recorded have.
    let marks = transcript_of c.args.transcript.now in
    let declared = declaration_of c.args.declaration.now in
    let calls = map call_of c.in_ok-calls.calls.items in
    let steps = map candidate_step c.deref-2.result.now in
    let plain : ArePlain calls steps = plain_own c.in_ok-calls.calls.items c.deref.result.now c.in_ok-own.field-0 c.in-Some.own c.deref-2.result.now c.deref.ensures.value c.in-Some.is c.deref-2.ensures.value c.in_ok-own.ensures in
    let are = c.in_ok-calls.ensures.read recorded in
    let begun = plain_begun calls steps plain (c.check_laws.ensures.timed marks calls recorded are) in
    reached_told marks declared c.reach.result calls steps are plain (c.reach.ensures.tells declared c.in_ok-rules.ensures begun c.in_ok-ledger.ensures.opened) c.reach.ensures.memory
