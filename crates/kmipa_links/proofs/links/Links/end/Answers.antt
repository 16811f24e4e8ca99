use Rattle.std.proofs.Common.{rules}
use Rattle.kmipa_links.proofs.LinkLemmas.{gap_by_seals, gap_told}
use Rattle.kmipa_links.proofs.links.Links.end.Goals as goal

pub returns-in-Some : goal.returns-in-Some
returns-in-Some c = λ before segment taken is named has.
    gap_by_seals before segment c.in-Some.gap (gap_told before segment.seals c.gap_of_seals.result c.in-Some.gap (search rules) (c.gap_of_seals.ensures before segment.seals taken.ends has))
