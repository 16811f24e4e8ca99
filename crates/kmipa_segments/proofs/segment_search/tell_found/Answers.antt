use Rattle.std.specs.Io.{appended_bytes}
use Rattle.kmipa_segments.proofs.SegmentSearchLemmas.{some_found}
use Rattle.kmipa_segments.proofs.segment_search.tell_found.Goals as goal

pub returns-in-Some-clause-tells : goal.returns-in-Some-clause-tells
returns-in-Some-clause-tells c =
    some_found c.args.segment.now c.in-Some.next c.tell_both.result (appended_bytes c.args.out.now.items c.tell_both.new.out.items) (appended_bytes c.args.made.now.items c.tell_both.new.made.items)
    (appended_bytes c.args.left.now.items c.tell_both.new.left.items) c.in-Some.is c.tell_both.ensures.tells
