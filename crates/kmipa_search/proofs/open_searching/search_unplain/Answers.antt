use Rattle.kmipa_record.specs.Declarations.{declaration_of}
use Rattle.kmipa_record.specs.Transcripts.{transcript_of}
use Rattle.kmipa_orders.proofs.AnswerLemmas.{some_in_time}
use Rattle.kmipa_orders.proofs.DescentLemmas.{all_recorded}
use Rattle.kmipa_search.proofs.open_searching.search_unplain.Goals as goal

pub ends_early-requires-clause-recorded : goal.ends_early-requires-clause-recorded
ends_early-requires-clause-recorded g c = all_recorded (transcript_of c.args.transcript.now) c.args.calls.now c.requires.each

pub search_by_turns-requires-clause-recorded : goal.search_by_turns-requires-clause-recorded
search_by_turns-requires-clause-recorded g c = all_recorded (transcript_of c.args.transcript.now) c.args.calls.now c.requires.each

pub returns-in-Some : goal.returns-in-Some
returns-in-Some g c = λ r are not.
    some_in_time (g.W.Watch.seconds c.args.watch.now) (transcript_of c.args.transcript.now) (declaration_of c.args.declaration.now) c.args.budget _ c.in-Some.found c.in-Some.is (c.in_ok-found.ensures.finds r)
