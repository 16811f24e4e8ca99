use Rattle.std.proofs.Common.{None, refl, rules}
use Rattle.kmipa_segments.proofs.ChainLemmas.{begins}
use Rattle.kmipa_segments.proofs.chain.Chain.read.Goals as goal

pub returns-in-Ok-clause-begins : goal.returns-in-Ok-clause-begins
returns-in-Ok-clause-begins g c = (
  c.in-Ok.ensures.found.0,
  c.in-Ok.ensures.found.1,
  begins (record { declaration = c.in-Ok.declaration; until = None }) c.in-Ok.ensures.declared refl,
  search rules,
)
