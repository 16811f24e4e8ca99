use Rattle.std.proofs.Common.{refl}
use Rattle.kmipa_orders.specs.Candidates.{candidate_step}
use Rattle.kmipa_orders.proofs.IdleLemmas.{idle_step}
use Rattle.kmipa_orders.proofs.idle.is_idle_call.Goals as goal

pub returns : goal.returns
returns c = λ is. idle_step (candidate_step c.args.call.now) refl (c.is_idle.ensures is)
