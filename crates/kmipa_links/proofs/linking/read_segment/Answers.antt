use Rattle.std.proofs.Common.{rules, map, refl}
use Rattle.std.proofs.lemmas.Result.{err_from_is_err_and}
use Rattle.kmipa_ttlv.specs.Input.{came_of}
use Rattle.kmipa_record.specs.Marks.{mark_of}
use Rattle.kmipa_record.specs.TranscriptReading.{input_of}
use Rattle.kmipa_links.proofs.LinkLemmas.{linked_by, unlinked_by}
use Rattle.kmipa_links.proofs.linking.read_segment.Goals as goal

pub returns-in_err-end_segment-in-Ok-clause-unlinked : goal.returns-in_err-end_segment-in-Ok-clause-unlinked
returns-in_err-end_segment-in-Ok-clause-unlinked g c = λ file is.
    let p = err_from_is_err_and c.from_residual.result c.from_residual.ensures.1 in
    let t = c.in-Ok.ensures.taken in
    let marks = map mark_of c.keep_marks-taken.new.marks.items in
    let source = c.keep_marks-taken.new.source in
    rw (p.1, p.2) (unlinked_by c.args.links.now c.keep_marks-taken.new.links c.end_segment.new.links c.args.name.now source _ _ marks c.in-Ok.clash (search rules) (search rules) t _ file c.in_err-end_segment-in-Ok.field-0.0
    (c.in_err-end_segment-in-Ok.ensures c.args.links.now (came_of (input_of source)) marks t.transcript (c.take_head-head.ensures.known marks t.ended) t.taken))

pub returns-in_ok-end_segment-in-Ok-clause-links : goal.returns-in_ok-end_segment-in-Ok-clause-links
returns-in_ok-end_segment-in-Ok-clause-links g c =
    let t = c.in-Ok.ensures.taken in
    let marks = map mark_of c.keep_marks-taken.new.marks.items in
    let source = c.keep_marks-taken.new.source in
    linked_by c.args.links.now c.keep_marks-taken.new.links c.end_segment.new.links c.args.name.now source _ _ marks c.in-Ok.clash (search rules) refl t
    (c.in_ok-end_segment-in-Ok.ensures c.args.links.now (came_of (input_of source)) marks t.transcript (c.take_head-head.ensures.known marks t.ended) t.taken)
