use Rattle.std.proofs.Common.{◌≡◌, ◌++◌, drop, map, option_map, string_bytes}
use Rattle.kmipa_store.specs.Ledger.{cards_of}
use Rattle.kmipa_beside.specs.Owners.{named_from, named_of}
use Rattle.kmipa_beside.proofs.owners.owners_named.Given as goal

abbrev pub invariant-loop-place : goal.invariant-loop-place
invariant-loop-place g l =
    map named_of l.named.items ++ named_from (drop l.place (cards_of (g.L.Ledger.state l.ledger).now.objects)) (drop l.place (map (option_map string_bytes) l.owners))
    ≡ named_from (cards_of (g.L.Ledger.state l.ledger).now.objects) (map (option_map string_bytes) l.owners)
