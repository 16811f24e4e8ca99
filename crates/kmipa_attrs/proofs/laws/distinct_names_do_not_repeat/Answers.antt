use Rattle.kmipa_attrs.proofs.DistinctLemmas.{distinct-HasNoRepeats}
use Rattle.kmipa_attrs.proofs.laws.distinct_names_do_not_repeat.Goals as goal

pub returns : goal.returns
returns c = distinct-HasNoRepeats
