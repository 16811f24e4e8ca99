use Rattle.std.proofs.Common.{◌∙◌, ap, map, sym, List, not, Bool}
use Rattle.kmipa_aside.specs.Sights.{owned_of, OwnedOf}
use Rattle.kmipa_trail.specs.Owning.{is_owned}
use Rattle.kmipa_aside.specs.declared.owned.Owned.{Owned}
use Rattle.kmipa_trail.proofs.OwnersLemmas.{not_owned}
use Rattle.kmipa_trail.proofs.owners.leave.Goals as goal

pub returns-then-not-is_owned : goal.returns-then-not-is_owned
returns-then-not-is_owned c =
    sym (not_owned c.args.id.now (map owned_of c.args.owners.now.items)
    (ap (λ (os : List Owned). is_owned c.args.id.now (map owned_of os)) (sym c.as_slice.ensures.value) ∙ sym c.is_owned.ensures ∙ c.if-not-is_owned.true))
