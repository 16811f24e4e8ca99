use Rattle.std.proofs.Common.{◌∙◌}
use Rattle.kmipa_ops.proofs.NameLemmas.{any_had-is}
use Rattle.kmipa_ops.proofs.names.any_named.Goals as goal

pub returns : goal.returns
returns g c = c.any_had.ensures ∙ any_had-is (g.L.Ledger.state c.args.ledger.now).now.objects c.args.names.now
