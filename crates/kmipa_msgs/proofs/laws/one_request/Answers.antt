use Rattle.kmipa_msgs.specs.Requests.{SaysRequest, RequestFault, request_in}
use Rattle.kmipa_msgs.proofs.OutsideLemmas.{decided}
use Rattle.kmipa_msgs.proofs.RequestLemmas.{reads_request}
use Rattle.kmipa_msgs.proofs.laws.one_request.Goals as goal

pub returns : goal.returns
returns c = λ t. decided (SaysRequest t) (RequestFault t) (request_in t) (reads_request t)
