use Rattle.kmipa_check.proofs.PlainLemmas.{plain_call_has_one_step_lem}
use Rattle.kmipa_check.proofs.plain_laws.plain_call_has_one_step.Goals as goal

pub returns : goal.returns
returns c = plain_call_has_one_step_lem
