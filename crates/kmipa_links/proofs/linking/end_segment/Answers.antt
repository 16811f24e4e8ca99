use Rattle.std.proofs.Common.{rules}
use Rattle.kmipa_links.proofs.LinkLemmas.{end_gap, end_linked}
use Rattle.kmipa_links.proofs.linking.end_segment.Goals as goal

pub returns-in-Ok-None : goal.returns-in-Ok-None
returns-in-Ok-None c = λ old bytes marks transcript known taken.
    end_linked old c.args.links.now c.end.new.self c.args.name.now bytes marks c.args.head c.args.clash c.end.result (search rules) transcript known taken c.end.ensures

pub returns-in-Ok-Some : goal.returns-in-Ok-Some
returns-in-Ok-Some c = λ old bytes marks transcript known taken.
    end_gap old c.args.links.now c.end.new.self c.args.name.now bytes marks c.args.head c.args.clash c.end.result c.in-Ok-Some.gap (search rules) transcript known taken c.end.ensures
