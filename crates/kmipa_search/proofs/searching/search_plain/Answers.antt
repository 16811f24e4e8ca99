use Rattle.kmipa_record.specs.Declarations.{declaration_of}
use Rattle.kmipa_orders.proofs.AnswerLemmas.{some_in_time}
use Rattle.kmipa_search.proofs.searching.search_plain.Goals as goal

pub returns-in-Some : goal.returns-in-Some
returns-in-Some g c = λ marks r are plain.
    some_in_time (g.W.Watch.seconds c.args.watch.now) marks (declaration_of c.args.declaration.now) c.args.budget _ c.in-Some.found c.in-Some.is (c.in_ok-found.ensures.finds marks r are plain)

pub returns-in_ok-_ended-in-Some-2 : goal.returns-in_ok-_ended-in-Some-2
returns-in_ok-_ended-in-Some-2 g c = λ marks r are plain.
    some_in_time (g.W.Watch.seconds c.args.watch.now) marks (declaration_of c.args.declaration.now) c.args.budget _ c.in-Some-2.found c.in-Some-2.is (c.in_ok-found-2.ensures.finds marks r are plain)
