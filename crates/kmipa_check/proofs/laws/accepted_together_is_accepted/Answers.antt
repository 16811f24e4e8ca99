use Rattle.kmipa_check.proofs.SegmentLemmas.{accepted_together_lem}
use Rattle.kmipa_check.proofs.laws.accepted_together_is_accepted.Goals as goal

pub returns : goal.returns
returns c = λ first second turns more declared between since middle rf rs apart l a only. accepted_together_lem first second turns more declared between since middle rf rs apart l a only
