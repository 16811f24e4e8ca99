use Rattle.kmipa_ttlv.specs.ViewTree.{view_tree}
use Rattle.kmipa_msgs.specs.Messages.{request_of, response_of}
use Rattle.kmipa_msgs.specs.Responses.{SaysResponse, ResponseFault, response_in}
use Rattle.kmipa_msgs.proofs.OutsideLemmas.{tells}
use Rattle.kmipa_msgs.proofs.ResponseLemmas.{reads_response}
use Rattle.kmipa_msgs.proofs.reading.response.read_response.Goals as goal

pub returns : goal.returns
returns c =
    let t = view_tree c.args.message.now in
    let asked = request_of c.args.request.now in
    tells response_of (SaysResponse t asked) (ResponseFault t asked) c.response.result (response_in t asked) c.response.ensures (reads_response t asked)
