use Rattle.kmipa_check.proofs.CompletedLemmas.{filled_is_completed_lem}
use Rattle.kmipa_check.proofs.laws.filled_is_completed.Goals as goal

pub returns : goal.returns
returns c = λ request response full fuller fills range f completes. filled_is_completed_lem request response full fuller fills range f completes
