use Rattle.std.proofs.Common.{ℤ, subst, rules}
use mir.Val.{SFits}
use mir.Syntax.{w32}
use Rattle.std.proofs.lemmas.Int.{to_z-of_z}
use Rattle.kmipa_msgs.specs.Requests.{RequestFault}
use Rattle.kmipa_check.specs.CallReading.{MessageFault}
use Rattle.kmipa_check.specs.declared.fault.Side.TheVariants.{Client}
use Rattle.kmipa_stream.proofs.ReadingLemmas.{request_outside}
use Rattle.kmipa_stream.proofs.reading.open_call.Goals as goal

pub returns-in-Err : goal.returns-in-Err
returns-in-Err c = λ marks i h e.
    let fits : SFits w32 c.args.seen.now.number = search rules in
    let P : ℤ → Type 0 = λ z. MessageFault RequestFault Client z c.args.asked.now c.in-Err.fault in
    request_outside marks c.args.seen.now c.args.asked.now c.in-Err.fault h (subst P (to_z-of_z w32 c.args.seen.now.number fits) c.in-Err.ensures)
