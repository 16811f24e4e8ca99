use Rattle.kmipa_aside.proofs.PlaceLemmas as lemma
use Rattle.kmipa_aside.proofs.laws.places_without_asides.Goals as goal

pub returns : goal.returns
returns c = lemma.places_without_asides
