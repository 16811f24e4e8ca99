use Rattle.kmipa_attrs.proofs.DistinctLemmas.{distinct-Contains}
use Rattle.kmipa_attrs.proofs.laws.distinct_names_are_the_same.Goals as goal

pub returns : goal.returns
returns c = distinct-Contains
