use Rattle.kmipa_bundle.proofs.WholeLemmas.{read_whole}
use Rattle.kmipa_bundle.proofs.laws.read_calls_are_whole.Goals as goal

pub returns : goal.returns
returns c = read_whole
