use Rattle.std.proofs.Common.{◌≡◌, ◌<◌, length, map, option_map, string_bytes, arith}
use Rattle.std.proofs.lemmas.List.{length-map}
use Rattle.kmipa_store.specs.Ledger.{Held, cards_of}
use Rattle.kmipa_beside.specs.Owners.{named_of}
use Rattle.kmipa_beside.proofs.OwnersLemmas.{named_all, named_more}
use Rattle.kmipa_beside.proofs.owners.owners_named.Goals as goal

pub loop-place-preserved : goal.loop-place-preserved
loop-place-preserved g c =
    let objects = (g.L.Ledger.state c.args.ledger.now).now.objects in
    let owners = map (option_map string_bytes) c.args.owners.now in
    let long = length-map objects (λ (h : Held). h.card) in
    let same = length-map c.args.owners.now (option_map string_bytes) in
    let all = c.requires in
    named_more (cards_of objects) owners c.loop-place.place (omega (arith, c.loop-place-test.true, long, all)) (omega (arith, c.loop-place-test.true, same)) (map named_of c.loop-place.named.items)
    (map named_of c.push_named.new.named.items) c.in_ok-push_named.ensures c.loop-place.invariant

pub returns : goal.returns
returns g c =
    let objects = (g.L.Ledger.state c.args.ledger.now).now.objects in
    let owners = map (option_map string_bytes) c.args.owners.now in
    let long = length-map objects (λ (h : Held). h.card) in
    let all = c.requires in
    named_all (cards_of objects) owners c.loop-place.place (omega (arith, c.loop-place-test.false, long, all)) (map named_of c.loop-place.named.items) c.loop-place.invariant
