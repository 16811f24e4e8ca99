use Rattle.kmipa_object.proofs.RuleLemmas.{admits_possible}
use Rattle.kmipa_object.proofs.laws.rules_admit_only_if_possible.Goals as goal

pub returns : goal.returns
returns c = admits_possible
