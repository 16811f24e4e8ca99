use Rattle.std.proofs.Common.{◌≡◌, map, take}
use Rattle.kmipa_msgs.specs.Messages.{lent}
use Rattle.kmipa_msgs.specs.Locates.{located_fields}
use Rattle.kmipa_msgs.specs.WrittenFields.{in_order}
use Rattle.kmipa_msgs.specs.Writing.{fields_of}
use Rattle.kmipa_msgs.proofs.writing.locate.write_located.Given as goal

abbrev pub invariant-loop-id : goal.invariant-loop-id
invariant-loop-id l = fields_of l.fields ≡ in_order (located_fields (map lent (take l.id-index l.id-items)))
