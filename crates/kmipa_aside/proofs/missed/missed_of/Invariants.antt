use Rattle.std.proofs.Common.{◌≡◌, ◌++◌, drop, map}
use Rattle.kmipa_attrs.specs.Filters.{filter_of}
use Rattle.kmipa_msgs.specs.Messages.{lent}
use Rattle.kmipa_store.specs.Ledger.{cards_of}
use Rattle.kmipa_aside.specs.Missed.{missed_of}
use Rattle.kmipa_aside.proofs.missed.missed_of.Given as goal

abbrev pub invariant-loop-id : goal.invariant-loop-id
invariant-loop-id g l =
    map lent l.missed.items ++ missed_of (cards_of (g.L.Ledger.state l.ledger).now.objects) l.t (filter_of l.filter) (map lent l.listed) (drop l.id-index (map lent l.ids))
    ≡ missed_of (cards_of (g.L.Ledger.state l.ledger).now.objects) l.t (filter_of l.filter) (map lent l.listed) (map lent l.ids)
