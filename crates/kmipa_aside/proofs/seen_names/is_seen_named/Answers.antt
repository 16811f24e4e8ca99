use Rattle.std.proofs.Common.{◌≡◌, ◌∙◌, ap, false, map, not, sym, true}
use Rattle.std.specs.List.{list_any}
use Rattle.kmipa_attrs.specs.Sets.{name_of}
use Rattle.kmipa_attrs.specs.declared.name.Name.{Name}
use Rattle.kmipa_object.specs.Inventory.{card_of}
use Rattle.kmipa_ops.specs.Locate.{is_listed}
use Rattle.kmipa_ops.specs.Objects.{is_named, same_name}
use Rattle.kmipa_aside.specs.Sights.{sight_of}
use Rattle.kmipa_aside.proofs.SeenNamesLemmas.{and_false, and_true, named_is}
use Rattle.kmipa_aside.proofs.seen_names.is_seen_named.Goals as goal

pub returns-then-is_named : goal.returns-then-is_named
returns-then-is_named c =
    let names = c.args.names.now in
    let card = card_of c.args.object.now in
    let hidden = (sight_of c.args.sight).hidden in
    let own = c.args.object.now.given.names.items in
    let named : c.is_named.result ≡ is_named (map name_of names) card =
    c.is_named.ensures ∙ ap (list_any (λ (mine : Name). list_any (λ (asked : Name). same_name (name_of asked) (name_of mine)) names)) c.as_slice.ensures ∙ named_is names own in
    ap not (c.is_hidden_id.ensures ∙ ap (is_listed hidden) c.as_str.ensures.value) ∙ and_true (not (is_listed hidden card.id)) (is_named (map name_of names) card) (sym named ∙ c.if-is_named.true)

pub returns-else-is_named : goal.returns-else-is_named
returns-else-is_named c =
    let names = c.args.names.now in
    let card = card_of c.args.object.now in
    let hidden = (sight_of c.args.sight).hidden in
    let own = c.args.object.now.given.names.items in
    let named : c.is_named.result ≡ is_named (map name_of names) card =
    c.is_named.ensures ∙ ap (list_any (λ (mine : Name). list_any (λ (asked : Name). same_name (name_of asked) (name_of mine)) names)) c.as_slice.ensures ∙ named_is names own in
    c.if-is_named.false ∙ and_false (not (is_listed hidden card.id)) (is_named (map name_of names) card) (sym named ∙ c.if-is_named.false)
