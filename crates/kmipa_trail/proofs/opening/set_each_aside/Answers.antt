use Rattle.std.proofs.Common.{◌≡◌, ℕ, List, map, subst}
use Rattle.std.specs.String.{string_bytes}
use Rattle.kmipa_store.specs.Ledger.{set_aside}
use Rattle.kmipa_check.proofs.PlaceLemmas.{mapped_at}
use Rattle.kmipa_trail.proofs.OpeningLemmas.{each_more}
use Rattle.kmipa_trail.proofs.opening.set_each_aside.Goals as goal

pub ids-preserved : goal.ids-preserved
ids-preserved g c =
    let ids = map string_bytes c.args.ids.now in
    let P : List ℕ → Type 0 = λ id. g.L.Ledger.state c.set_aside.new.self ≡ set_aside (g.L.Ledger.state c.ids.ledger) id in
    each_more (g.L.Ledger.state c.args.ledger.now) (g.L.Ledger.state c.ids.ledger) (g.L.Ledger.state c.set_aside.new.self) ids c.ids.id-index (string_bytes c.id-item.result)
    (mapped_at string_bytes c.args.ids.now c.ids.id-index c.id-item.result c.ids-test.true c.id-item.is) c.ids.invariant (subst P c.as_str.ensures.value c.in-Ok.ensures.meaning)
