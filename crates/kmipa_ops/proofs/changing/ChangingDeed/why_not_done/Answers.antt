use Rattle.std.proofs.Common.{option_map}
use Rattle.kmipa_msgs.specs.Messages.{maybe_lent, payload_of, rules_of}
use Rattle.kmipa_ops.specs.Placeholders.{placeholder_of}
use Rattle.kmipa_ops.proofs.ChangingLemmas.{change_why}
use Rattle.kmipa_ops.proofs.changing.ChangingDeed.why_not_done.Goals as goal

pub returns : goal.returns
returns g c =
    change_why (g.L.Ledger.state c.args.ledger.now).now (maybe_lent c.args.self.now.id) c.args.self.now.change (rules_of c.args.before.rules.now) (placeholder_of c.args.before.placeholder.now)
    (g.L.Ledger.moment c.args.ledger.now) (option_map payload_of c.args.payload.now) _ _ c.why_not_changed.result c.meant-about.ensures c.id_shown-shown.ensures c.why_not_changed.ensures
