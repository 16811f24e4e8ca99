use Rattle.std.proofs.Common.{◌≡◌, ℕ, Option, Ok, Err, map, refl, subst, rules}
use Rattle.std.proofs.lemmas.Int.{to_z-of_z}
use mir.Val.{SFits, to_z, of_z}
use mir.Syntax.{w32}
use Rattle.kmipa_record.specs.Marks.{mark_of}
use Rattle.kmipa_msgs.specs.declared.response.Response.{Response}
use Rattle.kmipa_msgs.specs.Messages.{request_of}
use Rattle.kmipa_check.specs.CallReading.{EndRead}
use Rattle.kmipa_check.proofs.ReadingLemmas.{begin_of_call, request_wrong, response_wrong, call_ended, call_open}
use Rattle.kmipa_check.proofs.reading.read_mark.Goals as goal

pub returns-in_err-request : goal.returns-in_err-request
returns-in_err-request c =
    let e : c.from_residual.result ≡ Err c.in_err-request.field-0.0 = search rules in
    request_wrong (map mark_of c.args.marks.now) c.args.place c.in-Begin.begin.call c.in-Begin.begin.message.items c.from_residual.result c.in_err-request.field-0.0
    (begin_of_call c.args.marks.now c.args.place c.index-marks-place.result c.in-Begin.begin c.requires.below c.index-marks-place.is c.in-Begin.is) e c.in_err-request.ensures

pub returns-in_err-end : goal.returns-in_err-end
returns-in_err-end c =
    let fits : SFits w32 c.in-Begin.begin.call = search rules in
    let e : c.from_residual-in_err-end.result ≡ Err c.in_err-end.field-0.0 = search rules in
    response_wrong (map mark_of c.args.marks.now) c.args.place c.in-Begin.begin.call _ c.in-Begin.begin.message.items (request_of c.in_ok-request.request) c.from_residual-in_err-end.result
    c.in_err-end.field-0.0 (begin_of_call c.args.marks.now c.args.place c.index-marks-place.result c.in-Begin.begin c.requires.below c.index-marks-place.is c.in-Begin.is)
    (to_z-of_z w32 c.in-Begin.begin.call fits) c.in_ok-request.ensures e c.in_err-end.ensures

pub returns-in-Some : goal.returns-in-Some
returns-in-Some c =
    let fits : SFits w32 c.in-Begin.begin.call = search rules in
    let same = to_z-of_z w32 c.in-Begin.begin.call fits in
    let number = to_z w32 (of_z w32 c.in-Begin.begin.call) in
    let marks = map mark_of c.args.marks.now in
    let P : Option (ℕ × Response) → Type 0 = λ o. EndRead marks number (request_of c.in_ok-request.request) (Ok o) in (
      call_ended marks c.args.place c.in-Some.end c.in-Begin.begin.call number number c.in-Begin.begin.message.items (request_of c.in_ok-request.request) c.in-Some.response
          (begin_of_call c.args.marks.now c.args.place c.index-marks-place.result c.in-Begin.begin c.requires.below c.index-marks-place.is c.in-Begin.is) same same c.in_ok-request.ensures
          (subst P c.in-Some.is c.in_ok-end.ensures),
      refl,
    )

pub returns-in-None : goal.returns-in-None
returns-in-None c =
    let fits : SFits w32 c.in-Begin.begin.call = search rules in
    let same = to_z-of_z w32 c.in-Begin.begin.call fits in
    let number = to_z w32 (of_z w32 c.in-Begin.begin.call) in
    let marks = map mark_of c.args.marks.now in
    let P : Option (ℕ × Response) → Type 0 = λ o. EndRead marks number (request_of c.in_ok-request.request) (Ok o) in (
      call_open marks c.args.place c.in-Begin.begin.call number number c.in-Begin.begin.message.items (request_of c.in_ok-request.request)
          (begin_of_call c.args.marks.now c.args.place c.index-marks-place.result c.in-Begin.begin c.requires.below c.index-marks-place.is c.in-Begin.is) same same c.in_ok-request.ensures
          (subst P c.in-None.is c.in_ok-end.ensures),
      refl,
    )
