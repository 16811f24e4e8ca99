use Rattle.kmipa_search.proofs.searching.search_objects.Goals as goal

pub returns-in-None-clause-finds : goal.returns-in-None-clause-finds
returns-in-None-clause-finds c = λ marks r are plain. c.search_by_object.ensures.finds marks r are
