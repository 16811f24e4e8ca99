use Rattle.std.proofs.Common.{[], refl}
use Rattle.std.proofs.lemmas.Result.{err_from_is_err_and}
use Rattle.kmipa_ttlv.specs.Input.{came_of, is_failed}
use Rattle.kmipa_record.specs.Marks.{mark_of}
use Rattle.kmipa_record.specs.MarkReading.{input_of, given_place}
use Rattle.kmipa_record.proofs.TranscriptLemmas.{behind_reported, refused_reported, refused_place, one_more_come, all_come, all_known}
use Rattle.kmipa_record.proofs.recorded_marks.RecordedMarks.next.Goals as goal

pub returns-in_err-mark-clause-fault : goal.returns-in_err-mark-clause-fault
returns-in_err-mark-clause-fault g c = λ marks file come is.
    let p = err_from_is_err_and c.from_residual.result c.from_residual.ensures.1 in
    rw (p.1, p.2) (behind_reported file marks (is_failed (input_of c.next.new.self)) c.in_err-mark.field-0.0 come.recorded (c.in_err-mark.ensures.fault marks file come.given come.untold is))

pub returns-in-Ok-clause-come : goal.returns-in-Ok-clause-come
returns-in-Ok-clause-come g c = λ marks come.
    let gives = rw c.in-Some.is at (c.in_ok-mark.ensures.given marks come.given) in
    one_more_come _ marks c.in-Some.mark c.args.self.now.calls come.recorded come.follow c.in-Ok.ensures gives c.in_ok-mark.ensures.reported

pub returns-in-Err-clause-fault : goal.returns-in-Err-clause-fault
returns-in-Err-clause-fault g c = λ marks file come is.
    let source = c.next.new.self in
    let stands = rw c.in-Some.is at (c.in_ok-mark.ensures.placed marks come.given) in
    let here = rw c.refuse.ensures.input at is in
    rw (c.refuse.ensures.input, c.refuse.ensures.fault) (refused_reported file (came_of (input_of source)) here.0 marks c.args.self.now.calls (mark_of c.in-Some.mark) (given_place source) (is_failed (input_of source))
    (record { offset = given_place source; kind = c.in-Err.kind }) here.1 come.recorded come.follow (stands here.0) refl c.in-Err.ensures)

pub returns-in-Err-clause-place : goal.returns-in-Err-clause-place
returns-in-Err-clause-place g c = λ marks come.
    let source = c.next.new.self in
    let stands = rw c.in-Some.is at (c.in_ok-mark.ensures.placed marks come.given) in
    rw (c.refuse.ensures.input, c.refuse.ensures.fault) (refused_place (came_of (input_of source)) marks c.args.self.now.calls (mark_of c.in-Some.mark) (given_place source)
    (record { offset = given_place source; kind = c.in-Err.kind }) (stands []) refl c.in-Err.ensures)

pub returns-in_default-clause-come : goal.returns-in_default-clause-come
returns-in_default-clause-come g c = λ marks come. all_come c.next.new.self marks come.recorded (rw c.in_default.is at (c.in_ok-mark.ensures.given marks come.given))

pub returns-in_default-clause-ended : goal.returns-in_default-clause-ended
returns-in_default-clause-ended g c = λ marks come none. all_known _ marks (rw c.in_default.is at (c.in_ok-mark.ensures.given marks come.given))
