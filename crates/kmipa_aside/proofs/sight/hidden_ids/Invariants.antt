use Rattle.std.proofs.Common.{◌≡◌, ◌++◌, drop, map}
use Rattle.kmipa_msgs.specs.Messages.{lent}
use Rattle.kmipa_aside.specs.Sights.{hidden_from, owned_of}
use Rattle.kmipa_aside.proofs.sight.hidden_ids.Given as goal

abbrev pub invariant-loop-owned : goal.invariant-loop-owned
invariant-loop-owned l =
    map lent l.ids.items ++ hidden_from l.sight.me.now (drop l.owned-index (map owned_of l.sight.owners.now)) ≡ hidden_from l.sight.me.now (map owned_of l.sight.owners.now)
