use Rattle.kmipa_check.proofs.SegmentLemmas.{accepted_behind_lem}
use Rattle.kmipa_check.proofs.laws.accepted_behind_is_accepted.Goals as goal

pub returns : goal.returns
returns c = λ first second turns more declared between since middle rf rs apart l b. accepted_behind_lem first second turns more declared between since middle rf rs apart l b
