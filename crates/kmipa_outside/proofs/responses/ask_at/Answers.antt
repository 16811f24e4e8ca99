use Rattle.kmipa_msgs.proofs.ReplyLemmas.{asked_at}
use Rattle.kmipa_outside.proofs.responses.ask_at.Goals as goal

pub returns : goal.returns
returns c = asked_at c.args.asks.now c.args.place c.get.result c.get.ensures.lookup
