use Rattle.std.proofs.Common.{◌∙◌, ap, map, sym, bytes_eq}
use Rattle.kmipa_aside.specs.Sights.{owned_of, OwnedOf}
use Rattle.kmipa_trail.specs.Owners.{disowned}
use Rattle.kmipa_trail.proofs.OwnersLemmas.{none_if, one_if, push_none, push_one}
use Rattle.kmipa_trail.proofs.owners.push_other.Goals as goal

pub returns-then-is_of : goal.returns-then-is_of
returns-then-is_of c =
    push_none owned_of c.args.others.now.items _ (none_if (bytes_eq c.args.id.now (owned_of c.args.owned).id) (owned_of c.args.owned) (sym c.is_of.ensures ∙ c.if-is_of.true))

pub returns : goal.returns
returns c =
    ap (map owned_of) c.in_ok-push.ensures.items
    ∙ push_one owned_of c.args.others.now.items c.args.owned _ (one_if (bytes_eq c.args.id.now (owned_of c.args.owned).id) (owned_of c.args.owned) (sym c.is_of.ensures ∙ c.if-is_of.false))
