use Rattle.kmipa_trail.proofs.OwnershipLemmas.{owners_told}
use Rattle.kmipa_trail.proofs.laws.owners_are_told.Goals as goal

pub returns : goal.returns
returns c = owners_told
