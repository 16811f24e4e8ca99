use Rattle.std.proofs.Common.{◌∙◌}
use Rattle.kmipa_segments.proofs.CompareLemmas.{strangers_are}
use Rattle.kmipa_segments.proofs.parts.has_stranger.Goals as goal

pub returns : goal.returns
returns c = c.any_stranger.ensures ∙ strangers_are c.args.known.now c.args.names.now
