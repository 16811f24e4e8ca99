use Rattle.std.proofs.Common.{◌∙◌, ap, map}
use Rattle.kmipa_aside.specs.Sights.{owned_of}
use Rattle.kmipa_trail.proofs.OwnersLemmas.{owned_new, pushed}
use Rattle.kmipa_trail.proofs.owners.own.Goals as goal

pub returns : goal.returns
returns c =
    ap (map owned_of) c.in_ok-push.ensures.items ∙ pushed owned_of c.leave.new.owners.items _
    ∙ owned_new c.args.me.now c.args.id.now (map owned_of c.args.owners.now.items) (map owned_of c.leave.new.owners.items) c.in_ok-leave.ensures
