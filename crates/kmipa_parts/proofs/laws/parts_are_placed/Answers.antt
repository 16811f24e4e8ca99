use Rattle.kmipa_parts.proofs.RunLemmas.{parts_are_placed_lem}
use Rattle.kmipa_parts.proofs.laws.parts_are_placed.Goals as goal

pub returns : goal.returns
returns c = parts_are_placed_lem
