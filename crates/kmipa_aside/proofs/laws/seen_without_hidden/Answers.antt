use Rattle.kmipa_aside.proofs.InSightLemmas as lemma
use Rattle.kmipa_aside.proofs.laws.seen_without_hidden.Goals as goal

pub returns : goal.returns
returns c = lemma.seen_without_hidden
