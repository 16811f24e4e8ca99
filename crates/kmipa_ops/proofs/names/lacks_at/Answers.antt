use Rattle.std.proofs.Common.{◌∙◌, ◌≡◌, ap, map, List, Some, sym}
use Rattle.kmipa_attrs.specs.Sets.{name_of}
use Rattle.kmipa_attrs.specs.declared.name.Name.{Name}
use Rattle.kmipa_store.specs.Ledger.{Held, held}
use Rattle.kmipa_ops.specs.GetAttributes.{has_stranger}
use Rattle.kmipa_ops.proofs.ListingLemmas.{lacks_is}
use Rattle.kmipa_ops.proofs.names.lacks_at.Goals as goal

pub returns-then-own-le-FEW : goal.returns-then-own-le-FEW
returns-then-own-le-FEW g c h at =
    let there : Some (held c.at.result.now) ≡ Some h = sym c.at.ensures ∙ at in
    let same : held c.at.result.now ≡ h = cc in
    c.has_stranger.ensures
    ∙ ap (λ (xs : List Name). has_stranger (map name_of xs) (map name_of c.args.names.now)) c.as_slice-own.ensures
    ∙ ap (λ (x : Held). has_stranger x.card.given.names (map name_of c.args.names.now)) same

pub returns : goal.returns
returns g c h at = c.any_lacks.ensures ∙ lacks_is (g.L.Ledger.state c.args.ledger.now).now.objects c.args.names.now c.args.place h at
