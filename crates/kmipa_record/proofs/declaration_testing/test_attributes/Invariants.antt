use Rattle.std.proofs.Common.{◌≡◌, take}
use Rattle.kmipa_record.specs.DeclarationWriting.{AreOwn}
use Rattle.kmipa_record.proofs.declaration_testing.test_attributes.Given as goal

abbrev pub invariant-loop-attribute : goal.invariant-loop-attribute
invariant-loop-attribute l = (l.seen.items ≡ take l.attribute-index l.attributes) × AreOwn (take l.attribute-index l.attributes)
