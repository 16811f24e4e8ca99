-- Response Payloads are read.
use Rattle.std.proofs.Common.{◌≡◌, Some, None, Err, refl, ap}
use Rattle.kmipa_ttlv.specs.Tree.{Tree, Trees, structure, scalar}
use Rattle.kmipa_attrs.specs.Fields.{as_structure}
use Rattle.kmipa_attrs.specs.Readings.{Reads}
use Rattle.kmipa_msgs.specs.declared.kind.OutsideKind.TheVariants.{Missing}
use Rattle.kmipa_msgs.specs.declared.operation.Operation.{Operation}
use Rattle.kmipa_msgs.specs.Kinds.{kind_number}
use Rattle.kmipa_msgs.specs.Payloads.{SaysPayloadOf, PayloadOfFault, done_in, payload_in}
use Rattle.kmipa_msgs.proofs.RowLemmas.{is_row}
use Rattle.kmipa_msgs.proofs.TableLemmas.{same_kind}

pub reads_payload : (operation : Operation) (t : Tree) → Reads kind_number (SaysPayloadOf operation t) (PayloadOfFault operation t) (payload_in operation t)
reads_payload operation (structure n ts) = (is_row operation).reads_done ts
reads_payload operation (scalar n s) = record { here = refl; least = λ j lt w. same_kind j Missing lt w }

-- a payload that is a structure, and one that isn't
pub payload_inside : (operation : Operation) (t : Tree) (ts : Trees) → Some ts ≡ as_structure t → done_in operation ts ≡ payload_in operation t
unfolding as_structure
payload_inside operation (structure n us) ts e = ap (done_in operation) (let h : ts ≡ us = cc in h)
payload_inside operation (scalar n s) ts e = cc

pub no_payload : (operation : Operation) (t : Tree) → None ≡ as_structure t → Err Missing ≡ payload_in operation t
unfolding as_structure
no_payload operation (structure n us) e = cc
no_payload operation (scalar n s) e = refl
