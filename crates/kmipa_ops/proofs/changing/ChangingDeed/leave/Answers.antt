use Rattle.std.proofs.Common.{option_map}
use Rattle.kmipa_msgs.specs.Messages.{maybe_lent, payload_of}
use Rattle.kmipa_ops.specs.Placeholders.{placeholder_of}
use Rattle.kmipa_ops.proofs.ChangingLemmas.{change_leaves_after}
use Rattle.kmipa_ops.proofs.changing.ChangingDeed.leave.Goals as goal

pub returns : goal.returns
returns g c =
    change_leaves_after (g.L.Ledger.state c.args.ledger.now) (g.L.Ledger.state c.change_object.new.ledger) c.args.place (maybe_lent c.args.self.now.id) c.args.self.now.change
    (placeholder_of c.args._placeholder.now) (g.L.Ledger.moment c.args.ledger.now) (option_map payload_of c.args._payload.now) c.change_object.result c.requires.place c.change_object.ensures
