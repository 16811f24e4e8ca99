use Rattle.kmipa_aside.proofs.LawLemmas as lemma
use Rattle.kmipa_aside.proofs.laws.identifiers_are_set_aside.Goals as goal

pub returns : goal.returns
returns c = lemma.identifiers_are_set_aside
