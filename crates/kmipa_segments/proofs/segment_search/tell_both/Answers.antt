use Rattle.std.proofs.Common.{◌≡◌, ◌∙◌, length, rules}
use Rattle.std.specs.Io.{appended_bytes}
use Rattle.kmipa_segments.proofs.SegmentSearchLemmas.{both_done, both_not, cut_back, on_success}
use Rattle.kmipa_segments.proofs.segment_search.tell_both.Goals as goal

pub returns-in-Done-clause-tells : goal.returns-in-Done-clause-tells
returns-in-Done-clause-tells c =
    both_done c.args.searched.now c.args.next.now c.as_str.result.now (appended_bytes c.args.out.now.items c.tell_left.new.out.items) (appended_bytes c.args.made.now.items c.make_found.new.made.items)
    (appended_bytes c.args.left.now.items c.tell_left.new.made.items) (c.as_str.ensures.value ∙ c.in-Ok.ensures.1)
    (on_success c.make_found.result c.is_err.result c.make_found.ensures.made c.is_err.ensures.value c.if-is_err.false) c.in-Done.ensures.tells

pub returns-clause-tells : goal.returns-clause-tells
returns-clause-tells c =
    let old = c.args.made.now.items in
    let kept : c.len-kept.result ≡ length old = search rules in
    both_not c.args.searched.now c.args.next.now c.tell_left.result c.as_str.result.now (appended_bytes c.args.out.now.items c.tell_left.new.out.items)
    (appended_bytes c.args.made.now.items c.truncate.new.self.items) (appended_bytes c.args.left.now.items c.tell_left.new.made.items) (c.as_str.ensures.value ∙ c.in-Ok.ensures.1)
    c.in_default-tell_left.not-Done (cut_back old c.make_found.new.made.items c.truncate.new.self.items c.len-kept.result c.make_found.ensures.appends kept c.truncate.ensures.items) c.tell_left.ensures.tells
