use Rattle.kmipa_check.proofs.RunLemmas.{refused_is_never_lem}
use Rattle.kmipa_check.proofs.laws.refused_is_never.Goals as goal

pub returns : goal.returns
returns c = λ declared steps rest s m item why start last k e d l. refused_is_never_lem declared steps rest s m item why start last k e d l
