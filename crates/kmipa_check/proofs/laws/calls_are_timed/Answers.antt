use Rattle.kmipa_check.proofs.TimedLemmas.{calls_are_timed_lem}
use Rattle.kmipa_check.proofs.laws.calls_are_timed.Goals as goal

pub returns : goal.returns
returns c = λ marks calls r are. calls_are_timed_lem marks r calls are
