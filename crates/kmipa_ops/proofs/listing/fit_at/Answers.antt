use Rattle.std.proofs.Common.{◌∙◌, ap, map, List}
use Rattle.kmipa_attrs.specs.Sets.{name_of}
use Rattle.kmipa_attrs.specs.declared.name.Name.{Name}
use Rattle.kmipa_store.specs.Ledger.{held}
use Rattle.kmipa_ops.specs.GetAttributes.{has_stranger}
use Rattle.kmipa_ops.proofs.listing.fit_at.Goals as goal

pub fit_of-requires : goal.fit_of-requires
fit_of-requires g c =
    let h = held c.at.result.now in
    c.lacks_at-lacks_name.ensures h c.at.ensures ∙ ap (λ (xs : List Name). has_stranger h.card.given.names (map name_of xs)) c.as_slice.ensures
