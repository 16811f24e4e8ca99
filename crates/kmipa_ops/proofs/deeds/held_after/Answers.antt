use Rattle.std.proofs.Common.{◌∙◌, ap, option_map, sym}
use Rattle.kmipa_msgs.specs.Messages.{asked_of, maybe_lent, payload_of}
use Rattle.kmipa_msgs.specs.declared.request.Asked.{Asked}
use Rattle.kmipa_ops.specs.After.{placeholder_done}
use Rattle.kmipa_ops.proofs.deeds.held_after.Goals as goal

pub returns-in-Create : goal.returns-in-Create
returns-in-Create c =
    c.holds.ensures ∙ ap (λ (a : Asked). placeholder_done (maybe_lent c.args.held) (asked_of a) (option_map payload_of c.args.payload.now)) (sym c.in-Create.is)

pub returns-in-Register : goal.returns-in-Register
returns-in-Register c =
    c.holds-in-Register.ensures ∙ ap (λ (a : Asked). placeholder_done (maybe_lent c.args.held) (asked_of a) (option_map payload_of c.args.payload.now)) (sym c.in-Register.is)

pub returns-in-Locate : goal.returns-in-Locate
returns-in-Locate c =
    c.holds-in-Locate.ensures ∙ ap (λ (a : Asked). placeholder_done (maybe_lent c.args.held) (asked_of a) (option_map payload_of c.args.payload.now)) (sym c.in-Locate.is)

pub returns-in-Get : goal.returns-in-Get
returns-in-Get c =
    c.holds-in-Get.ensures ∙ ap (λ (a : Asked). placeholder_done (maybe_lent c.args.held) (asked_of a) (option_map payload_of c.args.payload.now)) (sym c.in-Get.is)

pub returns-in-GetAttributes : goal.returns-in-GetAttributes
returns-in-GetAttributes c =
    c.holds-in-GetAttributes.ensures ∙ ap (λ (a : Asked). placeholder_done (maybe_lent c.args.held) (asked_of a) (option_map payload_of c.args.payload.now)) (sym c.in-GetAttributes.is)

pub returns-in-Activate : goal.returns-in-Activate
returns-in-Activate c =
    c.holds-in-Activate.ensures ∙ ap (λ (a : Asked). placeholder_done (maybe_lent c.args.held) (asked_of a) (option_map payload_of c.args.payload.now)) (sym c.in-Activate.is)

pub returns-in-Revoke : goal.returns-in-Revoke
returns-in-Revoke c =
    c.holds-in-Revoke.ensures ∙ ap (λ (a : Asked). placeholder_done (maybe_lent c.args.held) (asked_of a) (option_map payload_of c.args.payload.now)) (sym c.in-Revoke.is)

pub returns-in-Destroy : goal.returns-in-Destroy
returns-in-Destroy c =
    c.holds-in-Destroy.ensures ∙ ap (λ (a : Asked). placeholder_done (maybe_lent c.args.held) (asked_of a) (option_map payload_of c.args.payload.now)) (sym c.in-Destroy.is)
