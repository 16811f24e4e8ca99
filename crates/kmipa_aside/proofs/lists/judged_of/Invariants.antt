use Rattle.std.proofs.Common.{◌≡◌, ◌++◌, drop, map}
use Rattle.kmipa_msgs.specs.Messages.{lent}
use Rattle.kmipa_aside.specs.Becoming.{stand_in}
use Rattle.kmipa_aside.specs.Lists.{judged_of}
use Rattle.kmipa_aside.proofs.lists.judged_of.Given as goal

abbrev pub invariant-loop-id : goal.invariant-loop-id
invariant-loop-id g l =
    map lent l.judged.items ++ judged_of (stand_in (g.L.Ledger.state l.ledger).now) (drop l.id-index (map lent l.ids)) ≡ judged_of (stand_in (g.L.Ledger.state l.ledger).now) (map lent l.ids)
