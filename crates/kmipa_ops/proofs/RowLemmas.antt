-- The list of the operations: each keeps the laws.
use Rattle.kmipa_msgs.specs.Messages.{AskedOf, creates, registers, locates, gets, gets_attributes, activates, revokes, destroys, idles, does_other, operation_asked}
use Rattle.kmipa_ops.specs.declared.change.Change.TheVariants.{Activate, Revoke, Destroy}
use Rattle.kmipa_ops.specs.Locate.{locate_look, locate_reasons}
use Rattle.kmipa_ops.specs.Rows.{asked_judging, asked_row}
use Rattle.kmipa_ops.proofs.DeedLaws.{IsRow}
use Rattle.kmipa_ops.proofs.NewbornLemmas.{is_create, is_register}
use Rattle.kmipa_ops.proofs.GetLemmas.{is_get}
use Rattle.kmipa_ops.proofs.GetAttributesLemmas.{is_get_attributes}
use Rattle.kmipa_ops.proofs.LocateLemmas.{is_locate}
use Rattle.kmipa_ops.proofs.LookLemmas.{is_look}
use Rattle.kmipa_ops.proofs.ChangeLemmas.{is_change}

pub is_row : (asked : AskedOf) → IsRow (operation_asked asked) (asked_row asked) (asked_judging asked)
is_row (creates a) = is_create a
is_row (registers r) = is_register r
is_row (locates q) = is_look (locate_look q) (locate_reasons q) (is_locate q)
is_row (gets id) = is_get id
is_row (gets_attributes g) = is_get_attributes g
is_row (activates id) = is_change id Activate
is_row (revokes r) = is_change r.id (Revoke r.code)
is_row (destroys id) = is_change id Destroy
is_row (idles number) = λ ts p s. s
is_row (does_other number) = λ ts p s. s
