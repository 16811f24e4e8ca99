use Rattle.kmipa_record.specs.Declarations.{declaration_of}
use Rattle.kmipa_record.specs.Transcripts.{transcript_of}
use Rattle.kmipa_orders.proofs.AnswerLemmas.{some_in_time}
use Rattle.kmipa_search.proofs.searching.search_waiting.Goals as goal

pub waiting_steps-requires-clause-each : goal.waiting_steps-requires-clause-each
waiting_steps-requires-clause-each g c = (transcript_of c.args.transcript.now, c.requires.each)

pub returns-in_ok-_steps-in-Some : goal.returns-in_ok-_steps-in-Some
returns-in_ok-_steps-in-Some g c = λ r are not.
    some_in_time (g.W.Watch.seconds c.args.watch.now) (transcript_of c.args.transcript.now) (declaration_of c.args.declaration.now) c.args.budget _ c.in-Some.found c.in-Some.is (c.in_ok-found.ensures.finds r are)
