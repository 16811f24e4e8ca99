use Rattle.kmipa_aside.proofs.EverLemmas as lemma
use Rattle.kmipa_aside.proofs.laws.as_ever_without_asides.Goals as goal

pub returns : goal.returns
returns c = lemma.as_ever_without_asides
