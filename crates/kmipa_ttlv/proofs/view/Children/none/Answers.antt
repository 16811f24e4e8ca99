use Rattle.kmipa_ttlv.proofs.SpelledLemmas.{items_nothing}
use Rattle.kmipa_ttlv.proofs.view.Children.none.Goals as goal

pub returns : goal.returns
returns c = items_nothing
