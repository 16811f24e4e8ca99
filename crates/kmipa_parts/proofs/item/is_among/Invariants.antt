use Rattle.std.proofs.Common.{◌≡◌, false, map, take}
use Rattle.kmipa_msgs.specs.Messages.{lent}
use Rattle.kmipa_parts.specs.Parts.{is_among}
use Rattle.kmipa_parts.proofs.item.is_among.Given as goal

abbrev pub invariant-ids : goal.invariant-ids
invariant-ids l = is_among (map lent (take l.own-index l.ids)) l.id ≡ false
