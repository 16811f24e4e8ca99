use Rattle.std.proofs.Common.{◌≡◌, take}
use Rattle.kmipa_msgs.specs.Messages.{maybe_lent}
use Rattle.kmipa_msgs.specs.WrittenFields.{in_order, with_fields, identifier_fields}
use Rattle.kmipa_msgs.specs.GetsAttributes.{reference_fields}
use Rattle.kmipa_msgs.specs.Writing.{fields_of}
use Rattle.kmipa_msgs.proofs.writing.get_attributes.write_get_attributes.Given as goal

abbrev pub invariant-loop-tag : goal.invariant-loop-tag
invariant-loop-tag l = fields_of l.fields ≡ with_fields (in_order (identifier_fields (maybe_lent l.get.id))) (reference_fields (take l.tag-index l.tag-items))
