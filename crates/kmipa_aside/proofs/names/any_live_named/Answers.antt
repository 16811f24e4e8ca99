use Rattle.std.proofs.Common.{◌∙◌}
use Rattle.kmipa_aside.proofs.NamesLemmas.{any_live_had-is}
use Rattle.kmipa_aside.proofs.names.any_live_named.Goals as goal

pub returns : goal.returns
returns g c = c.any_live_had.ensures ∙ any_live_had-is (g.L.Ledger.state c.args.ledger.now).now.objects c.args.names.now
