use Rattle.kmipa_outside.proofs.AnswerLemmas.{response_reasons}
use Rattle.kmipa_outside.proofs.laws.response_fields_are_reasons.Goals as goal

pub returns : goal.returns
returns c = response_reasons
