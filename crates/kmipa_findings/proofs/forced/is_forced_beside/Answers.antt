use Rattle.std.proofs.Common.{refl}
use Rattle.kmipa_findings.proofs.StandLemmas.{if_ok}
use Rattle.kmipa_findings.proofs.forced.is_forced_beside.Goals as goal

pub returns : goal.returns
returns c = λ recorded. if_ok c.is_plain_and.result (λ told and yes. record { plain = (and yes).plain; apart = (and yes).apart refl }) (c.is_plain_and.ensures recorded)
