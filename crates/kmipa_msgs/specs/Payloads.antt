-- Response Payloads.
use Rattle.std.specs.Prelude.{◌≡◌, ℕ, Result, Err}
use Rattle.kmipa_ttlv.specs.Tree.{Tree, Trees, structure, scalar}
use Rattle.kmipa_msgs.specs.declared.fault.ReadFault.{ReadFault}
use Rattle.kmipa_msgs.specs.declared.kind.OutsideKind.{OutsideKind}
use Rattle.kmipa_msgs.specs.declared.kind.OutsideKind.TheVariants.{Missing}
use Rattle.kmipa_msgs.specs.declared.operation.Operation.{Operation}
use Rattle.kmipa_msgs.specs.declared.response.Payload.{Payload}
use Rattle.kmipa_msgs.specs.Messages.{AskOf, operation_asked, PayloadOf, payload_of}
use Rattle.kmipa_msgs.specs.Rows.{operation_row}
use Rattle.kmipa_msgs.specs.Outside.{ByItem, TellsSaid}

-- the children of a Response Payload say what was done, as the operation's row has it
abbrev pub SaysDone : Operation → Trees → PayloadOf → Type 0
SaysDone operation ts p = (operation_row operation).SaysDone ts p

abbrev pub DoneFault : Operation → Trees → OutsideKind → Type 0
DoneFault operation ts k = (operation_row operation).DoneFault ts k

-- a payload that is no structure is Missing
abbrev pub SaysPayloadOf : Operation → Tree → PayloadOf → Type 0
SaysPayloadOf operation (structure n ts) p = SaysDone operation ts p
SaysPayloadOf operation (scalar n s) p = ⊥

abbrev pub PayloadOfFault : Operation → Tree → OutsideKind → Type 0
PayloadOfFault operation (structure n ts) k = DoneFault operation ts k
PayloadOfFault operation (scalar n s) k = k ≡ Missing

-- THE DEFINITIONS, of a payload that stands alone and answers this item

abbrev pub SaysPayload : Tree → AskOf → PayloadOf → Type 0
SaysPayload t a p = SaysPayloadOf (operation_asked a.asked) t p

abbrev pub PayloadFault : Tree → AskOf → ℕ → OutsideKind → Type 0
PayloadFault t a = ByItem (PayloadOfFault (operation_asked a.asked) t) (λ place k. ⊥)

-- what the reader of payloads tells
abbrev pub TellsPayload : Tree → AskOf → Result Payload ReadFault → Type 0
TellsPayload t a result = TellsSaid payload_of (SaysPayload t a) (PayloadFault t a) result

-- THE READINGS

abbrev pub done_in : Operation → Trees → Result PayloadOf OutsideKind
done_in operation ts = (operation_row operation).done_in ts

abbrev pub payload_in : Operation → Tree → Result PayloadOf OutsideKind
payload_in operation (structure n ts) = done_in operation ts
payload_in operation (scalar n s) = Err Missing
