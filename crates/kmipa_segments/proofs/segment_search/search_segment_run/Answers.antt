use Rattle.std.proofs.Common.{◌≡◌, [], Ok, Err, None, arith}
use Rattle.std.proofs.Math.ListN.{drop_of_length-le}
use Rattle.std.specs.Io.{appended_bytes}
use Rattle.kmipa_ttlv.specs.Input.{came_of}
use Rattle.kmipa_ttlv.proofs.ReadLemmas.{itself}
use Rattle.kmipa_runs.proofs.KnowingLemmas.{knows, refusal_knows}
use Rattle.kmipa_segments.proofs.FaultLemmas.{fault_ends_search}
use Rattle.kmipa_segments.proofs.SegmentSearchLemmas.{done_found}
use Rattle.kmipa_segments.proofs.segment_search.search_segment_run.Goals as goal

pub returns-in-Ok-clause-prints : goal.returns-in-Ok-clause-prints
returns-in-Ok-clause-prints g c = (Ok c.in-Ok.known.segment, c.in-Ok.ensures.searches, c.tell_segment.ensures.tells)

pub returns-in-Err-clause-prints : goal.returns-in-Err-clause-prints
returns-in-Err-clause-prints g c =
    let kept = appended_bytes c.args.out.now.made.items c.args.out.now.made.items in
    let none : kept ≡ [] = drop_of_length-le c.args.out.now.made.items (omega arith) in
    let left = appended_bytes c.args.out.now.left.items c.args.out.now.left.items in
    let no_left : left ≡ [] = drop_of_length-le c.args.out.now.left.items (omega arith) in (
      Err c.in-Err.fault,
      c.in-Err.ensures.searches,
      fault_ends_search c.args.asked.segment.leaves c.fault_lines.result c.in-Err.fault c.append.result
          (appended_bytes c.args.out.now.lines.items c.append.new.out.items) kept left none no_left c.fault_lines.ensures c.append.ensures.prints,
    )

pub returns-in-Ok-clause-leads : goal.returns-in-Ok-clause-leads
returns-in-Ok-clause-leads g c = λ done.
    let t = c.search_inputs.new.transcript in
    let d = c.search_inputs.new.declaration in
    let lines = appended_bytes c.args.out.now.lines.items c.tell_segment.new.out.items in
    let made = appended_bytes c.args.out.now.made.items c.tell_segment.new.made.items in
    let left_made = appended_bytes c.args.out.now.left.items c.tell_segment.new.left.items in
    let found = c.in-Ok.ensures.searches (came_of t) (came_of d) (itself t) (itself d) in (
      done_found c.in-Ok.known.segment (came_of t) (came_of d) c.args.asked.segment.since (g.W.Watch.seconds c.args.watch.now) c.args.asked.search.budget c.args.asked.search.forced c.tell_segment.result lines made left_made found done c.args.asked.segment.leaves c.tell_segment.ensures.tells,
      c.in-Ok.ensures.ended.0,
      c.in-Ok.ensures.ended.1,
    )

pub returns-in-Ok-clause-known : goal.returns-in-Ok-clause-known
returns-in-Ok-clause-known g c = knows (came_of c.search_inputs.new.transcript) c.tell_segment.result c.in-Ok.known.head c.in-Ok.ensures.known

pub returns-in-Err-clause-known : goal.returns-in-Err-clause-known
returns-in-Err-clause-known g c =
    refusal_knows (came_of c.search_inputs.new.transcript) c.fault_lines.result c.in-Err.fault c.append.result (appended_bytes c.args.out.now.lines.items c.append.new.out.items) None
    c.fault_lines.ensures c.append.ensures.prints
