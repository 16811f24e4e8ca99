use Rattle.std.proofs.Common.{map}
use Rattle.kmipa_msgs.specs.Messages.{lent}
use Rattle.kmipa_aside.proofs.RepeatLemmas.{Behind}
use Rattle.kmipa_aside.proofs.lists.has_repeat.Given as goal

abbrev pub invariant-ids : goal.invariant-ids
invariant-ids l = Behind (map lent l.ids) l.place l.behind

abbrev pub decreases-ids : goal.decreases-ids
decreases-ids l = l.place
