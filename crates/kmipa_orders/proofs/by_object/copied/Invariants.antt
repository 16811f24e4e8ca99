use Rattle.std.proofs.Common.{◌≡◌, map, string_bytes, take}
use Rattle.kmipa_msgs.specs.Messages.{lent}
use Rattle.kmipa_orders.proofs.by_object.copied.Given as goal

abbrev pub invariant-ids : goal.invariant-ids
invariant-ids l = map string_bytes l.own.items ≡ map lent (take l.id-index l.ids)
