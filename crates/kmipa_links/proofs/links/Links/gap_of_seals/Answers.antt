use Rattle.std.proofs.Common.{rules, ◌≢◌, length}
use Rattle.kmipa_links.proofs.LinkLemmas.{gap_weaker, some_segments}
use Rattle.kmipa_links.proofs.links.Links.gap_of_seals.Goals as goal

pub returns : goal.returns
returns c = λ before own ends has.
    let some : length c.args.self.now.names.items ≢ 0 = search rules in
    gap_weaker before own c.gap_behind.result (some_segments before c.args.self.now ends some) (c.gap_behind.ensures _ own ends.last has)
