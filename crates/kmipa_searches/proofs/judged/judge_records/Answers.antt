use Rattle.std.proofs.Common.{◌≡◌, ◌∙◌, ℕ, Ok, None, Option, Some, subst, sym}
use Rattle.std.proofs.lemmas.Result.{err_from_is_err_and}
use Rattle.kmipa_record.specs.Declarations.{declaration_of}
use Rattle.kmipa_record.specs.Transcripts.{transcript_of}
use Rattle.kmipa_check.specs.Grants.{GrantsOf, grants_declared}
use Rattle.kmipa_searches.specs.Searches.{SearchesRecords}
use Rattle.kmipa_searches.specs.Deciding.{TellsDecision}
use Rattle.kmipa_searches.proofs.DecidingLemmas.{judged_told, memory_stops}
use Rattle.kmipa_searches.proofs.judged.judge_records.Goals as goal

pub returns : goal.returns
returns g c = λ recorded.
    let marks = transcript_of c.args.transcript.now in
    let declared = declaration_of c.args.declaration.now in
    let S : ℕ → Type 0 = λ n. SearchesRecords marks declared n c.args.asked.budget c.args.asked.forced (Ok c.in_ok-searched.searched) in
    let G : GrantsOf → Type 0 = λ given. TellsDecision marks given c.args.asked.budget c.in-Some.count (Ok c.in_ok-said.said) in
    let tells = subst G c.of-grants.ensures (c.in_ok-said.ensures recorded) in
    judged_told marks declared (g.W.Watch.seconds c.args.watch.now) c.args.asked.budget c.args.asked.forced c.in_ok-searched.searched
    (subst S c.new-deepest.ensures (c.in_ok-searched.ensures recorded)) c.in-Some.count c.in_ok-said.said c.in_ok-reached.reached recorded tells
    (c.in_ok-reached.ensures (grants_declared declared) c.args.asked.budget c.in-Some.count recorded tells)
    c.in_ok-decision.decision (sym c.given_up_steps.ensures ∙ c.in-Some.is) c.in_ok-decision.ensures

pub returns-in_err-reached : goal.returns-in_err-reached
returns-in_err-reached g c =
    let marks = transcript_of c.args.transcript.now in
    let declared = declaration_of c.args.declaration.now in
    let p = err_from_is_err_and c.from_residual-in_err-reached.result c.from_residual-in_err-reached.ensures.1 in
    let G : GrantsOf → Type 0 = λ given. TellsDecision marks given c.args.asked.budget c.in-Some.count (Ok c.in_ok-said.said) in
    rw (p.1, p.2) (λ recorded. memory_stops marks c.in_err-reached.field-0.0
    (c.in_err-reached.ensures (grants_declared declared) c.args.asked.budget c.in-Some.count recorded (subst G c.of-grants.ensures (c.in_ok-said.ensures recorded))))
