use Rattle.kmipa_check.proofs.PlainLemmas.{plain_call_is_taken_bare_lem}
use Rattle.kmipa_check.proofs.plain_laws.plain_call_is_taken_bare.Goals as goal

pub returns : goal.returns
returns c = plain_call_is_taken_bare_lem
