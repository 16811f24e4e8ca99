use Rattle.std.proofs.Common.{◌≡◌, ◌&&◌, drop, map, not}
use Rattle.std.specs.List.{list_any}
use Rattle.kmipa_attrs.specs.Sets.{name_of}
use Rattle.kmipa_object.specs.Inventory.{Card, live}
use Rattle.kmipa_store.specs.Ledger.{cards_of}
use Rattle.kmipa_ops.specs.Locate.{is_listed}
use Rattle.kmipa_ops.specs.Objects.{is_named}
use Rattle.kmipa_aside.specs.Sights.{sight_of}
use Rattle.kmipa_aside.proofs.seen_names.any_live_seen.Given as goal

abbrev pub invariant-loop-place : goal.invariant-loop-place
invariant-loop-place g l =
    list_any (λ (c : Card). not (is_listed (sight_of l.sight).hidden c.id) && live c && is_named (map name_of l.names) c) (cards_of (g.L.Ledger.state l.ledger).now.objects)
    ≡ list_any (λ (c : Card). not (is_listed (sight_of l.sight).hidden c.id) && live c && is_named (map name_of l.names) c) (drop l.place (cards_of (g.L.Ledger.state l.ledger).now.objects))
