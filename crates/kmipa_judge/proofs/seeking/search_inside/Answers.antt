use Rattle.std.proofs.Common.{refl}
use Rattle.kmipa_judge.specs.Searches.{beside_so, ever_so}
use Rattle.kmipa_judge.proofs.seeking.search_inside.Goals as goal

pub returns-then-is_plain : goal.returns-then-is_plain
returns-then-is_plain g c = λ recorded. ever_so (c.if-is_plain.ensures refl) (c.search_as_ever.ensures recorded)

pub returns-else-is_plain : goal.returns-else-is_plain
returns-else-is_plain g c = λ recorded. beside_so (c.search_beside.ensures recorded)
