use Rattle.kmipa_outside.proofs.StampLemmas.{response_finds}
use Rattle.kmipa_outside.proofs.laws.response_reasons_have_fields.Goals as goal

pub returns : goal.returns
returns c = response_finds
