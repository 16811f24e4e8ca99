use Rattle.std.proofs.Common.{◌∙◌}
use Rattle.kmipa_explain.proofs.TestLemmas.{stranger_is}
use Rattle.kmipa_explain.proofs.filters.has_stranger.Goals as goal

pub returns : goal.returns
returns c = c.any_stranger.ensures ∙ stranger_is c.args.known.now c.args.names.now
