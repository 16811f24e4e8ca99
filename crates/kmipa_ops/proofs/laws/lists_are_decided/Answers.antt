use Rattle.kmipa_ops.proofs.LocateLemmas.{lists_are_decided}
use Rattle.kmipa_ops.proofs.laws.lists_are_decided.Goals as goal

pub returns : goal.returns
returns c = lists_are_decided
