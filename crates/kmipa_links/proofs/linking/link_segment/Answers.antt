use Rattle.std.proofs.Common.{rules}
use Rattle.kmipa_ttlv.specs.Input.{came_of}
use Rattle.kmipa_record.specs.TranscriptReading.{input_of}
use Rattle.kmipa_links.proofs.LinkLemmas.{links_end, unlinked_end}
use Rattle.kmipa_links.proofs.linking.link_segment.Goals as goal

pub returns-in-Ok-clause-links : goal.returns-in-Ok-clause-links
returns-in-Ok-clause-links g c =
    let t = c.in-Ok.ensures.taken in
    let source = c.pass_marks-taken.new.source in
    links_end c.args.links.now c.pass_marks-taken.new.links c.end_segment.new.links c.args.name.now source _ _ t.0 c.in-Ok.clash (search rules) (search rules) t.1 c.end_segment.result
    (c.end_segment.ensures c.args.links.now (came_of (input_of source)) t.0 t.1.transcript (c.take_head-head.ensures.known t.0 t.1.ended) t.1.taken)

pub returns-in-Ok-clause-unlinked : goal.returns-in-Ok-clause-unlinked
returns-in-Ok-clause-unlinked g c = λ file is.
    let t = c.in-Ok.ensures.taken in
    let source = c.pass_marks-taken.new.source in
    unlinked_end c.args.links.now c.pass_marks-taken.new.links c.end_segment.new.links c.args.name.now source _ _ t.0 c.in-Ok.clash (search rules) (search rules) t.1 _ file c.end_segment.result
    (c.end_segment.ensures c.args.links.now (came_of (input_of source)) t.0 t.1.transcript (c.take_head-head.ensures.known t.0 t.1.ended) t.1.taken)
