use Rattle.kmipa_attrs.proofs.FilterLemmas.{reads_filter}
use Rattle.kmipa_attrs.proofs.laws.filters_are_read.Goals as goal

pub returns : goal.returns
returns c = λ ts most is_unknown. reads_filter most is_unknown ts
