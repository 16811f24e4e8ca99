use Rattle.std.proofs.Common.{sym}
use Rattle.kmipa_msgs.specs.Messages.{maybe_lent}
use Rattle.kmipa_ops.proofs.ChangingLemmas.{change_holds}
use Rattle.kmipa_ops.proofs.changing.ChangingDeed.holds.Goals as goal

pub returns : goal.returns
returns c = sym (change_holds (maybe_lent c.args.self.now.id) c.args.self.now.change (maybe_lent c.args.held) _)
