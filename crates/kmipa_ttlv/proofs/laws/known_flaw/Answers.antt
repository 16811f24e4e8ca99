use Rattle.kmipa_ttlv.proofs.ReadLemmas.{known_flaw_lem}
use Rattle.kmipa_ttlv.proofs.laws.known_flaw.Goals as goal

pub returns : goal.returns
returns c = known_flaw_lem
