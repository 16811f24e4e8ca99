use Rattle.kmipa_check.proofs.SegmentLemmas.{accepted_since_lem}
use Rattle.kmipa_check.proofs.laws.accepted_since_is_yes.Goals as goal

pub returns : goal.returns
returns c = λ marks declared since turns result r a h. accepted_since_lem marks declared since turns r a result h
