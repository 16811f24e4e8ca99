use Rattle.kmipa_attrs.proofs.AttrLemmas.{never_memory}
use Rattle.kmipa_attrs.proofs.laws.memory_is_no_fault.Goals as goal

pub returns : goal.returns
returns c = never_memory
