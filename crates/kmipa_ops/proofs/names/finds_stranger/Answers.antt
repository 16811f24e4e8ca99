use Rattle.std.proofs.Common.{◌∙◌, map}
use Rattle.kmipa_attrs.specs.Sets.{name_of}
use Rattle.kmipa_ops.proofs.KnownLemmas.{unknown_is}
use Rattle.kmipa_ops.proofs.names.finds_stranger.Goals as goal

pub returns : goal.returns
returns c = c.any_unknown.ensures ∙ unknown_is (map name_of c.args.known.now) c.in_ok-set.set c.args.names.now c.in_ok-set.ensures
