use Rattle.std.proofs.Common.{◌≡◌, drop, map}
use Rattle.std.specs.List.{list_any}
use Rattle.kmipa_msgs.specs.Messages.{lent}
use Rattle.kmipa_aside.specs.Becoming.{stand_in}
use Rattle.kmipa_aside.specs.Standing.{is_aside}
use Rattle.kmipa_aside.proofs.lists.any_aside.Given as goal

abbrev pub invariant-loop-id : goal.invariant-loop-id
invariant-loop-id g l =
    list_any (is_aside (stand_in (g.L.Ledger.state l.ledger).now)) (map lent l.ids) ≡ list_any (is_aside (stand_in (g.L.Ledger.state l.ledger).now)) (drop l.id-index (map lent l.ids))
