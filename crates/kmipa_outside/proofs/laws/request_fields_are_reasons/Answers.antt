use Rattle.kmipa_outside.proofs.AskLemmas.{request_reasons}
use Rattle.kmipa_outside.proofs.laws.request_fields_are_reasons.Goals as goal

pub returns : goal.returns
returns c = request_reasons
