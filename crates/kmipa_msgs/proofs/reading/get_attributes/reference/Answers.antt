use Rattle.std.proofs.Common.{◌∙◌}
use Rattle.kmipa_msgs.proofs.GetAttributesLemmas.{reference_at, no_reference}
use Rattle.kmipa_msgs.proofs.reading.get_attributes.reference.Goals as goal

pub returns-then-view-eq-ATTRIBUTE_REFERENCE : goal.returns-then-view-eq-ATTRIBUTE_REFERENCE
returns-then-view-eq-ATTRIBUTE_REFERENCE c = c.as_enumeration.ensures ∙ reference_at c.args.view.now c.if-view-eq-ATTRIBUTE_REFERENCE.true

pub returns-else-view-eq-ATTRIBUTE_REFERENCE : goal.returns-else-view-eq-ATTRIBUTE_REFERENCE
returns-else-view-eq-ATTRIBUTE_REFERENCE c = no_reference c.args.view.now c.if-view-eq-ATTRIBUTE_REFERENCE.false
