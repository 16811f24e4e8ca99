use Rattle.kmipa_outside.proofs.AskLemmas.{request_finds}
use Rattle.kmipa_outside.proofs.laws.request_reasons_have_fields.Goals as goal

pub returns : goal.returns
returns c = request_finds
