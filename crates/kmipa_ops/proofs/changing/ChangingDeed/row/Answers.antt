use Rattle.std.proofs.Common.{◌∙◌, sym}
use Rattle.kmipa_msgs.specs.Messages.{maybe_lent}
use Rattle.kmipa_ops.proofs.ChangingLemmas.{change_effect}
use Rattle.kmipa_ops.proofs.changing.ChangingDeed.row.Goals as goal

pub returns-clause-effect : goal.returns-clause-effect
returns-clause-effect c = c.changing_row.ensures.effect ∙ sym (change_effect (maybe_lent c.args.self.now.id) c.args.self.now.change)
