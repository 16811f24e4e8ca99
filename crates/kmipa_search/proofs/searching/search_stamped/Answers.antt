use Rattle.std.proofs.Common.{Option, Vec, map, refl, subst}
use Rattle.std.specs.Prelude.{MatchOption}
use Rattle.std.specs.declared.alloc.Global.{Global}
use Rattle.kmipa_record.specs.Transcripts.{transcript_of}
use Rattle.kmipa_check.specs.Calls.{call_of}
use Rattle.kmipa_orders.specs.Candidates.{AreNotPlain, candidate_step}
use Rattle.kmipa_orders.specs.Plain.{ArePlain}
use Rattle.kmipa_orders.specs.declared.candidate.Candidate.{Candidate}
use Rattle.kmipa_orders.proofs.CandidateLemmas.{plain_own}
use Rattle.kmipa_orders.proofs.PlainLemmas.{plain_readable}
use Rattle.kmipa_search.proofs.searching.search_stamped.Goals as goal

pub search_plain-requires-clause-each : goal.search_plain-requires-clause-each
search_plain-requires-clause-each g c = (transcript_of c.args.transcript.now, c.requires.each)

pub search_plain-requires-clause-readable : goal.search_plain-requires-clause-readable
search_plain-requires-clause-readable g c =
    let calls = map call_of c.args.calls.now in
    let steps = map candidate_step c.deref.result.now in
    let plain : ArePlain calls steps = plain_own c.args.calls.now c.args.calls.now c.in_ok-own.field-0 c.in-Some.own c.deref.result.now refl c.in-Some.is c.deref.ensures.value c.in_ok-own.ensures in
    plain_readable calls steps plain (transcript_of c.args.transcript.now) c.check_laws.ensures c.requires.each

pub returns-in-None : goal.returns-in-None
returns-in-None g c = λ r are.
    let calls = map call_of c.args.calls.now in
    let P : Option (Vec Candidate Global) → Type 0 = λ o. MatchOption o (AreNotPlain calls) (λ own. ArePlain calls (map candidate_step own.items)) in
    let not = subst P c.in-None.is c.in_ok-own.ensures in
    c.or_refuted.ensures (g.W.Watch.seconds c.args.watch.now) (transcript_of c.args.transcript.now) c.args.budget r are (c.search_waiting-answered.ensures r are not)
