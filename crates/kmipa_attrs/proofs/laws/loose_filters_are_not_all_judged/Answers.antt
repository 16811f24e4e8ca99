use Rattle.kmipa_attrs.proofs.LooseLemmas.{loose_exactly}
use Rattle.kmipa_attrs.proofs.laws.loose_filters_are_not_all_judged.Goals as goal

pub returns : goal.returns
returns c = loose_exactly
