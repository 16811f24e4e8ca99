use Rattle.std.proofs.Common.{refl, rules}
use Rattle.std.proofs.lemmas.Int.{to_z-of_z}
use mir.Val.{SFits}
use mir.Syntax.{w32}
use Rattle.kmipa_msgs.specs.Messages.{request_of, response_of}
use Rattle.kmipa_msgs.specs.Responses.{ResponseFault, SaysResponse}
use Rattle.kmipa_ttlv.specs.ViewTree.{view_tree}
use Rattle.kmipa_check.specs.declared.fault.Side.TheVariants.{Server}
use Rattle.kmipa_check.proofs.ReadingLemmas.{nothing_said, wrong_said}
use Rattle.kmipa_check.proofs.reading.response_in.Goals as goal

pub returns-in_default : goal.returns-in_default
returns-in_default c =
    let fits : SFits w32 c.args.call = search rules in
    nothing_said (λ t. ResponseFault t (request_of c.args.request.now)) Server _ c.args.call c.args.message.now c.args.message.now c.not_a_message.result c.not_a_message.ensures
    (to_z-of_z w32 c.args.call fits) refl c.in_default.ensures

pub returns-in-Err-Outside : goal.returns-in-Err-Outside
returns-in-Err-Outside c =
    let fits : SFits w32 c.args.call = search rules in (
      to_z-of_z w32 c.args.call fits,
      refl,
      wrong_said response_of (SaysResponse (view_tree c.in-Some.view) (request_of c.args.request.now)) (λ t. ResponseFault t (request_of c.args.request.now)) c.args.message.now c.args.message.now c.in-Some.view
          c.in-Err-Outside.field-0 c.in-Err-Outside.outside refl c.in-Some.ensures c.in-Err-Outside.field-0-is c.in-Err-Outside.ensures,
    )
