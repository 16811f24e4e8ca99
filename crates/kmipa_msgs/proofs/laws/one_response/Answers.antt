use Rattle.kmipa_msgs.specs.Responses.{SaysResponse, ResponseFault, response_in}
use Rattle.kmipa_msgs.proofs.OutsideLemmas.{decided}
use Rattle.kmipa_msgs.proofs.ResponseLemmas.{reads_response}
use Rattle.kmipa_msgs.proofs.laws.one_response.Goals as goal

pub returns : goal.returns
returns c = λ t request. decided (SaysResponse t request) (ResponseFault t request) (response_in t request) (reads_response t request)
