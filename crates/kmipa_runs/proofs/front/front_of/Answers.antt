use Rattle.std.proofs.Common.{rules, refl, arith}
use Rattle.kmipa_runs.proofs.FrontLemmas.{filled_front}
use Rattle.kmipa_runs.proofs.front.front_of.Goals as goal

pub returns : goal.returns
returns c = filled_front c.args.level _ _ _ _ c.requires (omega arith) refl c.fill_tag.ensures (search rules)
