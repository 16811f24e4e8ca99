use Rattle.std.proofs.Common.{◌∙◌, ap, map, sym}
use Rattle.kmipa_msgs.specs.Messages.{lent, maybe_lent}
use Rattle.kmipa_trail.specs.Owners.{id_kept}
use Rattle.kmipa_trail.proofs.OwnersLemmas.{push_none, push_one}
use Rattle.kmipa_trail.proofs.owners.push_born.Goals as goal

pub returns-in_default : goal.returns-in_default
returns-in_default c =
    push_none lent c.args.ids.now.items _ (sym c.born_at.ensures ∙ ap (λ o. id_kept (maybe_lent o)) c.in_default.is)

pub returns : goal.returns
returns c =
    ap (map lent) c.in_ok-push.ensures.items
    ∙ push_one lent c.args.ids.now.items c.in-Some.id _ (sym c.born_at.ensures ∙ ap (λ o. id_kept (maybe_lent o)) c.in-Some.is)
