use Rattle.std.proofs.Common.{refl, ap}
use Rattle.kmipa_msgs.specs.Messages.{AskOf}
use Rattle.kmipa_parts.proofs.idle.idle.Goals as goal

pub returns : goal.returns
returns c = record { number = 24; asks = ap (λ (a : AskOf). a.asked) c.idle_ask.ensures; unnamed = refl; batch_id = refl; same = refl; unsaid = refl; bare = refl }
