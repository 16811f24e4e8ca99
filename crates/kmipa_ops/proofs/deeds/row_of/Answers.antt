use Rattle.std.proofs.Common.{◌∙◌, ap, sym}
use Rattle.kmipa_msgs.specs.Messages.{asked_of}
use Rattle.kmipa_msgs.specs.declared.request.Asked.{Asked}
use Rattle.kmipa_ops.specs.Rows.{effect_asked}
use Rattle.kmipa_ops.proofs.deeds.row_of.Goals as goal

pub returns-in-Create-clause-effect : goal.returns-in-Create-clause-effect
returns-in-Create-clause-effect c = c.row.ensures.effect ∙ ap (λ (a : Asked). effect_asked (asked_of a)) (sym c.in-Create.is)

pub returns-in-Register-clause-effect : goal.returns-in-Register-clause-effect
returns-in-Register-clause-effect c = c.row-in-Register.ensures.effect ∙ ap (λ (a : Asked). effect_asked (asked_of a)) (sym c.in-Register.is)

pub returns-in-Locate-clause-effect : goal.returns-in-Locate-clause-effect
returns-in-Locate-clause-effect c = c.row-in-Locate.ensures.effect ∙ ap (λ (a : Asked). effect_asked (asked_of a)) (sym c.in-Locate.is)

pub returns-in-Get-clause-effect : goal.returns-in-Get-clause-effect
returns-in-Get-clause-effect c = c.row-in-Get.ensures.effect ∙ ap (λ (a : Asked). effect_asked (asked_of a)) (sym c.in-Get.is)

pub returns-in-GetAttributes-clause-effect : goal.returns-in-GetAttributes-clause-effect
returns-in-GetAttributes-clause-effect c = c.row-in-GetAttributes.ensures.effect ∙ ap (λ (a : Asked). effect_asked (asked_of a)) (sym c.in-GetAttributes.is)

pub returns-in-Activate-clause-effect : goal.returns-in-Activate-clause-effect
returns-in-Activate-clause-effect c = c.changing_row.ensures.effect ∙ ap (λ (a : Asked). effect_asked (asked_of a)) (sym c.in-Activate.is)

pub returns-in-Revoke-clause-effect : goal.returns-in-Revoke-clause-effect
returns-in-Revoke-clause-effect c = c.changing_row-in-Revoke.ensures.effect ∙ ap (λ (a : Asked). effect_asked (asked_of a)) (sym c.in-Revoke.is)

pub returns-in-Destroy-clause-effect : goal.returns-in-Destroy-clause-effect
returns-in-Destroy-clause-effect c = c.changing_row-in-Destroy.ensures.effect ∙ ap (λ (a : Asked). effect_asked (asked_of a)) (sym c.in-Destroy.is)
