use Rattle.std.proofs.Common.{◌∙◌}
use Rattle.kmipa_ops.proofs.NameLemmas.{stranger_is}
use Rattle.kmipa_ops.proofs.names.has_stranger.Goals as goal

pub returns : goal.returns
returns c = c.any_stranger.ensures ∙ stranger_is c.args.known.now c.args.names.now
