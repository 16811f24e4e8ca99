use Rattle.std.proofs.Common.{◌≡◌, map, take}
use Rattle.kmipa_msgs.specs.Messages.{lent}
use Rattle.kmipa_parts.specs.Parts.{is_among, only_own}
use Rattle.kmipa_parts.proofs.item.only_own.Given as goal

abbrev pub invariant-listed : goal.invariant-listed
invariant-listed l = map lent l.own.items ≡ only_own (is_among (map lent l.ids)) (map lent (take l.other-index l.listed))
