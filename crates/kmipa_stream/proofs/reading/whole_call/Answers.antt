use Rattle.std.proofs.Common.{ℤ, Some, refl, sym, subst, rules}
use mir.Val.{SFits}
use mir.Syntax.{w32}
use Rattle.std.proofs.lemmas.Int.{to_z-of_z}
use Rattle.kmipa_msgs.specs.Messages.{request_of, response_of}
use Rattle.kmipa_msgs.specs.Requests.{RequestFault}
use Rattle.kmipa_check.specs.CallReading.{MessageFault}
use Rattle.kmipa_check.specs.Calls.{IsRecorded}
use Rattle.kmipa_check.specs.declared.fault.Side.TheVariants.{Client}
use Rattle.kmipa_stream.proofs.ReadingLemmas.{request_outside, whole_recorded}
use Rattle.kmipa_stream.proofs.reading.whole_call.Goals as goal

pub returns-in-Err : goal.returns-in-Err
returns-in-Err c = λ marks h g.
    let fits : SFits w32 c.args.seen.now.number = search rules in
    let P : ℤ → Type 0 = λ z. MessageFault RequestFault Client z c.args.asked.now c.in-Err.fault in
    request_outside marks c.args.seen.now c.args.asked.now c.in-Err.fault h (subst P (to_z-of_z w32 c.args.seen.now.number fits) c.in-Err.ensures)

pub returns-in-Ok-response_in : goal.returns-in-Ok-response_in
returns-in-Ok-response_in c = λ marks h g.
    let s = c.args.seen.now in
    let fits : SFits w32 c.args.seen.now.number = search rules in
    let same = to_z-of_z w32 c.args.seen.now.number fits in
    let P : ℤ → Type 0 = λ z.
    IsRecorded marks (record { number = z; begin = s.begin; end = s.end; request = request_of c.in-Ok.request; response = Some (response_of c.in-Ok-response_in.response) }) in (
      subst P (sym same)
          (whole_recorded marks s c.args.asked.now c.args.answered.now (request_of c.in-Ok.request) (response_of c.in-Ok-response_in.response) h g c.in-Ok.ensures c.in-Ok-response_in.ensures),
      refl,
      same,
    )
