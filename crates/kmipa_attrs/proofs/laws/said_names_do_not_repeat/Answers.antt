use Rattle.kmipa_attrs.proofs.WriteLemmas.{said-HasNoRepeats}
use Rattle.kmipa_attrs.proofs.laws.said_names_do_not_repeat.Goals as goal

pub returns : goal.returns
returns c = said-HasNoRepeats
