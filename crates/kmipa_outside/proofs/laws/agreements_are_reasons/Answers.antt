use Rattle.kmipa_outside.proofs.AgreementLemmas.{agreement_reasons}
use Rattle.kmipa_outside.proofs.laws.agreements_are_reasons.Goals as goal

pub returns : goal.returns
returns c = agreement_reasons
