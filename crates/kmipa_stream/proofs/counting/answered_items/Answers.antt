use Rattle.std.proofs.Common.{◌≡◌, length, map, subst, arith}
use Rattle.std.proofs.lemmas.List.{length-map}
use Rattle.kmipa_msgs.specs.Messages.{RequestOf, ResponseOf, ask_of, answer_of}
use Rattle.kmipa_batch.specs.Calls.{pairs_of}
use Rattle.kmipa_check.specs.Steps.{step_of}
use Rattle.kmipa_stream.proofs.CountingLemmas.{length_of_zip}
use Rattle.kmipa_stream.proofs.counting.answered_items.Goals as goal

pub returns : goal.returns
returns c =
    let asks = c.request.result.now.items.items in
    let answers = c.response.result.now.items.items in
    let P : ResponseOf → Type 0 = λ r. c.min.result ≡ length (pairs_of (step_of c.args.step.now).request r) in
    let Q : RequestOf → Type 0 = λ q. c.min.result ≡ length (pairs_of q (Rattle.kmipa_msgs.specs.Messages.response_of c.response.result.now)) in
    let few = length_of_zip (map ask_of asks) (map answer_of answers) in
    subst P c.response.ensures (subst Q c.request.ensures (omega (arith, few, length-map asks ask_of, length-map answers answer_of, c.len-asked.ensures, c.len-answered.ensures, c.min.ensures)))
