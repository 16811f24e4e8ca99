use Rattle.kmipa_ttlv.proofs.SpelledLemmas.{listed_items}
use Rattle.kmipa_ttlv.proofs.laws.items_in_place.Goals as goal

pub returns : goal.returns
returns c = listed_items
