use Rattle.std.proofs.Common.{List, map, length, refl, ap, subst}
use Rattle.kmipa_msgs.specs.Messages.{ResponseOf, request_of, response_of}
use Rattle.kmipa_record.specs.Witnesses.{fill_of}
use Rattle.kmipa_record.specs.declared.fill.Fill.{Fill}
use Rattle.kmipa_check.specs.Fills.{FillFault, IsFilled, missing}
use Rattle.kmipa_check.specs.declared.fault.WitnessKind.TheVariants.{FillMissing}
use Rattle.kmipa_check.proofs.OrderLemmas.{empty_list}
use Rattle.kmipa_check.proofs.FillingLemmas.{filled_nothing}
use Rattle.kmipa_check.proofs.turn.filled_in.Goals as goal

pub returns-then-not-none_missing : goal.returns-then-not-none_missing
returns-then-not-none_missing c =
    let P : ResponseOf → Type 0 = λ r. FillFault (request_of c.args.request.now) r (map fill_of c.args.fills.now) FillMissing in
    subst P c.response-response.ensures (missing c.if-not-are_wanted.ensures.decided c.if-not-none_missing.ensures refl)

pub returns-then-is_empty : goal.returns-then-is_empty
returns-then-is_empty c =
    let none = empty_list c.args.fills.now (length c.args.fills.now) c.is_empty.result c.is_empty.ensures c.if-is_empty.true refl in
    let P : ResponseOf → Type 0 = λ r. IsFilled (request_of c.args.request.now) r (map fill_of c.args.fills.now) r in
    subst P c.response-response.ensures
    (filled_nothing (request_of c.args.request.now) (response_of c.response-response.result.now) (map fill_of c.args.fills.now) (ap (λ (fs : List Fill). map fill_of fs) none) c.if-not-none_missing.ensures)
