use Rattle.kmipa_trail.proofs.RefusedLemmas.{refused_is_never_lem}
use Rattle.kmipa_trail.proofs.laws.refused_is_never.Goals as goal

pub returns : goal.returns
returns c = refused_is_never_lem
