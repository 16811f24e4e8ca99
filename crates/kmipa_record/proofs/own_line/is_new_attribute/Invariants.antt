use Rattle.std.proofs.Common.{take}
use Rattle.kmipa_record.specs.Declarations.{IsNewAttribute}
use Rattle.kmipa_record.proofs.own_line.is_new_attribute.Given as goal

abbrev pub invariant-loop-other : goal.invariant-loop-other
invariant-loop-other l = IsNewAttribute (take l.other-index l.attributes) l.attribute
