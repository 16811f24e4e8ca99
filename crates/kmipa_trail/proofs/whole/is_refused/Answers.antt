use Rattle.kmipa_msgs.specs.Messages.{response_of}
use Rattle.kmipa_trail.proofs.WholeLemmas.{refused_told}
use Rattle.kmipa_trail.proofs.whole.is_refused.Goals as goal

pub returns : goal.returns
returns c = refused_told (response_of c.args.response.now) c.is_refused_message.result c.is_refused_message.ensures.0 c.is_refused_message.ensures.1
