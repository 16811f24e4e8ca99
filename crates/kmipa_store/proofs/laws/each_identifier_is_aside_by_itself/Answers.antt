use Rattle.kmipa_store.proofs.AsideLemmas.{says_of_each}
use Rattle.kmipa_store.proofs.laws.each_identifier_is_aside_by_itself.Goals as goal

pub returns : goal.returns
returns c = says_of_each
