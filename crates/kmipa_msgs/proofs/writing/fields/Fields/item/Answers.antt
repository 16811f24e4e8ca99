use Rattle.std.proofs.Common.{◌∙◌, ap}
use Rattle.kmipa_ttlv.specs.ItemTree.{trees}
use Rattle.kmipa_ttlv.proofs.StandsLemmas.{trees-push}
use Rattle.kmipa_msgs.proofs.writing.fields.Fields.item.Goals as goal

pub returns : goal.returns
returns c = ap trees c.in_ok-push.ensures.items ∙ trees-push c.args.self.now.children.items c.args.item
