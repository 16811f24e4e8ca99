use Rattle.kmipa_attrs.proofs.AttrLemmas.{reads_attributes}
use Rattle.kmipa_attrs.proofs.laws.attributes_are_read.Goals as goal

pub returns : goal.returns
returns c = reads_attributes
