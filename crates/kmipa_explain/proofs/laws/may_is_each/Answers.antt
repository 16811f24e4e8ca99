use Rattle.kmipa_explain.proofs.FilterLemmas.{may_is_each}
use Rattle.kmipa_explain.proofs.laws.may_is_each.Goals as goal

pub returns : goal.returns
returns c = may_is_each
