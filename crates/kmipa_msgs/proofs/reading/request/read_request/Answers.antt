use Rattle.kmipa_ttlv.specs.ViewTree.{view_tree}
use Rattle.kmipa_msgs.specs.Messages.{request_of}
use Rattle.kmipa_msgs.specs.Requests.{SaysRequest, RequestFault, request_in}
use Rattle.kmipa_msgs.proofs.OutsideLemmas.{tells}
use Rattle.kmipa_msgs.proofs.RequestLemmas.{reads_request}
use Rattle.kmipa_msgs.proofs.reading.request.read_request.Goals as goal

pub returns : goal.returns
returns c = let t = view_tree c.args.message.now in tells request_of (SaysRequest t) (RequestFault t) c.request.result (request_in t) c.request.ensures (reads_request t)
