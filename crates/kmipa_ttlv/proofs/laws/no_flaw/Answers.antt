use Rattle.kmipa_ttlv.proofs.LawLemmas.{no_flaw_lem}
use Rattle.kmipa_ttlv.proofs.laws.no_flaw.Goals as goal

pub returns : goal.returns
returns c = no_flaw_lem
