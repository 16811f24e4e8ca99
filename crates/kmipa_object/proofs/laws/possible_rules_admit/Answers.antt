use Rattle.kmipa_object.proofs.RuleLemmas.{possible_admits}
use Rattle.kmipa_object.proofs.laws.possible_rules_admit.Goals as goal

pub returns : goal.returns
returns c = possible_admits
