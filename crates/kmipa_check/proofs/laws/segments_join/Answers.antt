use Rattle.kmipa_check.proofs.SegmentLemmas.{segments_join_lem}
use Rattle.kmipa_check.proofs.laws.segments_join.Goals as goal

pub returns : goal.returns
returns c = λ first second turns more declared between left since middle until rf rs apart l k. segments_join_lem first second turns more declared between since middle rf rs apart l left until k
