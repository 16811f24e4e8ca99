use Rattle.kmipa_ttlv.proofs.SpelledLemmas.{run_items}
use Rattle.kmipa_ttlv.proofs.laws.read_in_place.Goals as goal

pub returns : goal.returns
returns c = run_items
