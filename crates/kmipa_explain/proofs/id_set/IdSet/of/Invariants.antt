use Rattle.std.proofs.Common.{◌-◌, length, map, take}
use Rattle.kmipa_msgs.specs.Messages.{lent}
use Rattle.kmipa_explain.specs.Ids.{HasIds}
use Rattle.kmipa_explain.proofs.id_set.IdSet.of.Given as goal

abbrev pub invariant-ids : goal.invariant-ids
invariant-ids l = HasIds (take l.place (map lent l.ids)) l.set

abbrev pub decreases-ids : goal.decreases-ids
decreases-ids l = length l.ids - l.place
