use Rattle.std.proofs.Common.{drop, map}
use Rattle.kmipa_msgs.specs.Messages.{lent}
use Rattle.kmipa_aside.specs.Becoming.{Nears}
use Rattle.kmipa_aside.specs.Worlds.{set_each_aside}
use Rattle.kmipa_aside.proofs.setting.set_each.Given as goal

abbrev pub invariant-loop-id : goal.invariant-loop-id
invariant-loop-id g l =
    Nears (set_each_aside l.t (drop l.id-index (map lent l.ids))) (set_each_aside l.t (map lent l.ids)) (g.L.Ledger.state l.initial.ledger) (g.L.Ledger.state l.ledger)
