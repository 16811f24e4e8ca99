use Rattle.kmipa_ttlv.specs.ViewTree.{view_trees}
use Rattle.kmipa_msgs.proofs.GetAttributesLemmas.{others_counted}
use Rattle.kmipa_msgs.proofs.reading.get_attributes.has_others.Goals as goal

pub returns-else-some_other : goal.returns-else-some_other
returns-else-some_other c = others_counted (view_trees c.args.payload) c.count_of.result c.count_of.ensures c.if-some_other.ensures
