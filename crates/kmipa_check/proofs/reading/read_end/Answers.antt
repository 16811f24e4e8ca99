use Rattle.std.proofs.Common.{◌≡◌, Err, map, rules}
use Rattle.std.proofs.lemmas.Int.{to_z-of_z}
use mir.Val.{SFits}
use mir.Syntax.{w32}
use Rattle.kmipa_record.specs.Marks.{mark_of}
use Rattle.kmipa_msgs.specs.Messages.{request_of}
use Rattle.kmipa_check.proofs.ReadingLemmas.{none_ends, no_begin, same_call, end_of_call, end_wrong}
use Rattle.kmipa_check.proofs.reading.read_end.Goals as goal

pub returns-in_default : goal.returns-in_default
returns-in_default c =
    let fits : SFits w32 c.args.number = search rules in
    none_ends c.args.marks.now c.args.ends.now _ c.args.number (to_z-of_z w32 c.args.number fits) c.in_default.ensures c.requires

pub returns-in_default-marks : goal.returns-in_default-marks
returns-in_default-marks c = λ end answered there.
    absurd (no_begin c.args.marks.now c.args.ends.now c.in-Some.place c.index-marks-place.result c.in_default-marks.field-0 _ c.in-Some.ensures c.requires c.index-marks-place.is c.in_default-marks.is)

pub returns-in_err-response : goal.returns-in_err-response
returns-in_err-response c =
    let fits : SFits w32 c.args.number = search rules in
    let same = to_z-of_z w32 c.args.number fits in
    let e : c.from_residual.result ≡ Err c.in_err-response.field-0.0 = search rules in
    end_wrong (map mark_of c.args.marks.now) c.in-Some.place c.args.number c.in-End.end.call c.in-End.end.message.items (request_of c.args.request.now) c.from_residual.result c.in_err-response.field-0.0
    (end_of_call c.args.marks.now c.args.ends.now c.in-Some.place c.index-marks-place.result c.in-End.end _ c.args.number same c.in-Some.ensures c.requires c.index-marks-place.is c.in-End.is)
    (same_call c.args.marks.now c.args.ends.now c.in-Some.place c.index-marks-place.result c.in-End.end _ c.args.number c.in-Some.ensures c.requires c.index-marks-place.is c.in-End.is same)
    e c.in_err-response.ensures

pub returns : goal.returns
returns c =
    let fits : SFits w32 c.args.number = search rules in
    let same = to_z-of_z w32 c.args.number fits in (
      c.in-End.end.message.items,
      end_of_call c.args.marks.now c.args.ends.now c.in-Some.place c.index-marks-place.result c.in-End.end _ c.args.number same c.in-Some.ensures c.requires c.index-marks-place.is c.in-End.is,
      c.in_ok-response.ensures,
    )
