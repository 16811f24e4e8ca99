use Rattle.std.proofs.Common.{◌∙◌, sym, ap, is_some}
use Rattle.kmipa_msgs.proofs.GetAttributesLemmas.{no_other, other_bare}
use Rattle.kmipa_msgs.proofs.reading.get_attributes.is_other.Goals as goal

pub returns-then-view-ne-UNIQUE_IDENTIFIER : goal.returns-then-view-ne-UNIQUE_IDENTIFIER
returns-then-view-ne-UNIQUE_IDENTIFIER c = other_bare c.args.view.now c.is_none.result c.if-view-ne-UNIQUE_IDENTIFIER.true (sym (ap is_some c.reference.ensures) ∙ c.is_none.ensures)

pub returns-else-view-ne-UNIQUE_IDENTIFIER : goal.returns-else-view-ne-UNIQUE_IDENTIFIER
returns-else-view-ne-UNIQUE_IDENTIFIER c = no_other c.args.view.now c.if-view-ne-UNIQUE_IDENTIFIER.false
