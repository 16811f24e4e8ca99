use Rattle.std.proofs.Common.{refl}
use Rattle.kmipa_findings.proofs.StandLemmas.{if_ok}
use Rattle.kmipa_findings.proofs.refuting.can_decide.Goals as goal

pub returns : goal.returns
returns c = λ recorded.
    if_ok c.is_plain_beside.result (λ b plain yes. (plain yes, c.if-not-grants_nothing.ensures refl, c.if-not-sees_all.ensures refl)) (c.is_plain_beside.ensures recorded)
