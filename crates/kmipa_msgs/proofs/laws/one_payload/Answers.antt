use Rattle.kmipa_msgs.specs.Messages.{operation_asked}
use Rattle.kmipa_msgs.specs.Outside.{alone}
use Rattle.kmipa_msgs.specs.Payloads.{SaysPayload, PayloadFault, PayloadOfFault, payload_in}
use Rattle.kmipa_msgs.proofs.OutsideLemmas.{reads_alone, decided}
use Rattle.kmipa_msgs.proofs.PayloadLemmas.{reads_payload}
use Rattle.kmipa_msgs.proofs.laws.one_payload.Goals as goal

pub returns : goal.returns
returns c = λ t ask. decided (SaysPayload t ask) (PayloadFault t ask) (alone (payload_in (operation_asked ask.asked) t)) (reads_alone (SaysPayload t ask) (PayloadOfFault (operation_asked ask.asked) t) (payload_in (operation_asked ask.asked) t) (reads_payload (operation_asked ask.asked) t))
