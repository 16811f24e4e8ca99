use Rattle.kmipa_ttlv.proofs.BeginLemmas.{begins_or_flawed}
use Rattle.kmipa_ttlv.proofs.laws.begins_or_flawed.Goals as goal

pub returns : goal.returns
returns c = begins_or_flawed
