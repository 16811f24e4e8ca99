use Rattle.kmipa_aside.proofs.EverLemmas as lemma
use Rattle.kmipa_aside.proofs.laws.plain_without_asides.Goals as goal

pub returns : goal.returns
returns c = lemma.plain_without_asides
