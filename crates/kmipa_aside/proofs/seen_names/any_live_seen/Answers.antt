use Rattle.std.proofs.Common.{◌∙◌, ◌&&◌, map, not, sym}
use Rattle.kmipa_attrs.specs.Sets.{name_of}
use Rattle.kmipa_object.specs.Inventory.{Card, live}
use Rattle.kmipa_store.specs.Ledger.{held}
use Rattle.kmipa_ops.specs.Locate.{is_listed}
use Rattle.kmipa_ops.specs.Objects.{is_named}
use Rattle.kmipa_aside.specs.Sights.{sight_of}
use Rattle.kmipa_aside.proofs.SeenNamesLemmas.{placed_here, placed_on, placed_past}
use Rattle.kmipa_aside.proofs.seen_names.any_live_seen.Goals as goal

pub returns-then-is_live_seen : goal.returns-then-is_live_seen
returns-then-is_live_seen g c =
    sym (c.loop-place.invariant ∙ placed_here (λ (c' : Card). not (is_listed (sight_of c.args.sight).hidden c'.id) && live c' && is_named (map name_of c.args.names.now) c') (g.L.Ledger.state c.args.ledger.now).now.objects c.loop-place.place (held c.at.result.now) c.at.ensures (sym c.is_live_seen.ensures ∙ c.if-is_live_seen.true))

pub loop-place-preserved : goal.loop-place-preserved
loop-place-preserved g c =
    c.loop-place.invariant ∙ placed_on (λ (c' : Card). not (is_listed (sight_of c.args.sight).hidden c'.id) && live c' && is_named (map name_of c.args.names.now) c') (g.L.Ledger.state c.args.ledger.now).now.objects c.loop-place.place (held c.at.result.now) c.at.ensures (sym c.is_live_seen.ensures ∙ c.if-is_live_seen.false)

pub returns : goal.returns
returns g c =
    sym (c.loop-place.invariant ∙ placed_past (λ (c' : Card). not (is_listed (sight_of c.args.sight).hidden c'.id) && live c' && is_named (map name_of c.args.names.now) c') (g.L.Ledger.state c.args.ledger.now).now.objects c.loop-place.place c.len-place-end.result c.len-place-end.ensures c.loop-place-test.false)
