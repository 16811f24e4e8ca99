use Rattle.kmipa_ttlv.proofs.LawLemmas.{decoded_again_found, decoded_again_only}
use Rattle.kmipa_ttlv.proofs.laws.decoded_again.Goals as goal

pub returns-clause-found : goal.returns-clause-found
returns-clause-found c = decoded_again_found

pub returns-clause-only : goal.returns-clause-only
returns-clause-only c = decoded_again_only
